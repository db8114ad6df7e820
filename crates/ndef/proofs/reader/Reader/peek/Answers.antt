use Rattle.std.proofs.Common.{sym, refl}
use Rattle.ndef.proofs.Finds.{behind_within, hands}
use Rattle.ndef.proofs.Listings.{left_over, left-bad}
use Rattle.ndef.proofs.reader.Reader.peek.Goals as goal

pub returns-then-is_over-clause-next : goal.returns-then-is_over-clause-next
returns-then-is_over-clause-next c = left_over _ _ (sym c.if-is_over.ensures)

pub returns-in_default-clause-next : goal.returns-in_default-clause-next
returns-in_default-clause-next c = (left-bad _ _ (sym c.if-is_over.ensures) c.in_default.ensures.found, refl)

pub returns-clause-next : goal.returns-clause-next
returns-clause-next c =
    let within = c.args.self.now.within in
    (hands _ _ _ within c.in-Some.ensures.found (sym c.if-is_over.ensures) _ refl, behind_within _ _ _ within c.in-Some.ensures.found)
