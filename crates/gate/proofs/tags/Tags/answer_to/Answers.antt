use Rattle.std.proofs.Common.{◌≡◌, length, drop, ◌∙◌, subst, take_at}
use Rattle.field.specs.Exchange.{heard_from}
use Rattle.gate.specs.Hearings.{Tells}
use Rattle.gate.specs.Tagged.{placed}
use Rattle.gate.proofs.Told.{told-heard}
use Rattle.gate.proofs.tags.Tags.answer_to.Goals as goal

pub returns-in-Ok : goal.returns-in-Ok
returns-in-Ok c =
    let sent = c.in-Ok.ensures.exchanged.1 in
    let space = c.in_ok-space.space in
    let last = c.hear.new.space in
    let long : length last ≡ space.len = c.hear.auto.space ∙ c.as_mut_slice.ensures.len in
    let same = take_at last (drop (length last) space.items) space.len long in
    let answers = heard_from c.args.frame.now (placed c.args.self.now) in
    let tells : Tells c.in-Ok.heard last c.of_heard.result = subst (λ l. Tells c.in-Ok.heard l c.of_heard.result) same c.of_heard.ensures in
    record { unchanged = tt; heard = record { after = sent.after; told = told-heard answers c.in-Ok.heard c.as_mut_slice.result.now last c.of_heard.result sent.heard sent.left tells } }
