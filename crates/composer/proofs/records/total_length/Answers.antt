use Rattle.std.proofs.Common.{⊎_elim, inl, inr, arith}
use Rattle.composer.proofs.Counted.{counted_refused, counted_sized}
use Rattle.composer.proofs.records.total_length.Goals as goal

pub returns-then-total-eq0 : goal.returns-then-total-eq0
returns-then-total-eq0 g c =
    counted_refused c.loop-fields.invariant (rw c.in_default.is at c.in_ok-fields.ensures) (⊎_elim inl (λ h. inr h.1) c.then-total-eq0.either)

pub returns : goal.returns
returns g c =
    counted_sized c.loop-fields.invariant (rw c.in_default.is at c.in_ok-fields.ensures) (omega arith) c.if-total-gt-LONGEST.false
