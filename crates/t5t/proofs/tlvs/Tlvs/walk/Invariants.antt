use Rattle.std.proofs.Common.{◌-◌}
use Rattle.t5t.proofs.Walks.{WalksOn}
use Rattle.t5t.proofs.tlvs.Tlvs.walk.Given as goal

abbrev pub invariant-loop-self : goal.invariant-loop-self
invariant-loop-self g l = WalksOn l.initial.self l.self

abbrev pub decreases-loop-self : goal.decreases-loop-self
decreases-loop-self g l = l.self.container.end - l.self.at
