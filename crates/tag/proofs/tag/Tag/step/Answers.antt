use Rattle.std.proofs.Common.{subst}
use Rattle.tag.specs.Means.{tag_of, Takes}
use Rattle.tag.specs.Rules.{turn}
use Rattle.tag.proofs.Keeps.{turn_keeps}
use Rattle.tag.proofs.Steps.{takes_front}
use Rattle.tag.proofs.tag.Tag.step.Goals as goal

pub returns-in-Some : goal.returns-in-Some
returns-in-Some g c =
    let t = tag_of g.M.Memory.model c.args.self.now in
    let short = (turn_keeps t (g.met.M.Memory.sound c.args.self.now.memory) c.args.frame.now).short in
    let front = c.in-Some.ensures.cases in
    let takes = subst (λ s. Takes t (tag_of g.M.Memory.model c.take_turn.new.self) (turn t c.args.frame.now) s c.take_turn.new.space c.take_turn.result) front.same c.take_turn.ensures in
    (front.enough, takes_front short front.enough takes)
