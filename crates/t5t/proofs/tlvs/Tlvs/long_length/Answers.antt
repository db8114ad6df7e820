use Rattle.std.proofs.Common.{◌≡◌, ◌+◌, cond, eqb, Err, sym, ap, ◌∙◌}
use Rattle.std.proofs.lemmas.Bool.{cond-true, cond-false, eq-eqb, ne_eqb}
use Rattle.std.proofs.lemmas.Result.{err_from_is_err_and}
use Rattle.shown.specs.declared.flaw.Flaw.TheVariants.{Malformed}
use Rattle.shown.specs.Walk.{long_as, whole}
use Rattle.t5t.specs.Asking.{stopped}
use Rattle.refusal.specs.declared.step.Step.TheVariants.{Walk}
use Rattle.t5t.proofs.Takings.{takes_goes, takes_stops, takes_now}
use Rattle.t5t.proofs.tlvs.Tlvs.long_length.Goals as goal

pub returns-in_err-long-clause-takes : goal.returns-in_err-long-clause-takes
returns-in_err-long-clause-takes g c =
    let p = err_from_is_err_and c.from_residual.result c.from_residual.ensures.1 in
    let t = c.args.self.now in
    takes_stops (long_as t.container.end (t.at + 2)) c.from_residual.result (p.1 ∙ ap Err p.2) c.in_err-long.ensures.takes

pub returns-then-long-clause-takes : goal.returns-then-long-clause-takes
returns-then-long-clause-takes g c =
    let t = c.args.self.now in
    let long = c.in_ok-long.long in
    let none : Err Malformed ≡ cond (eqb long 0xFFFF) (Err Malformed) (whole t.container.end (t.at + 2) long) = sym (cond-true _ _ _ (eq-eqb long 0xFFFF c.if-long.true)) in
    takes_goes (long_as t.container.end (t.at + 2)) c.in_ok-long.ensures.takes (takes_now c.two_bytes.new.self _ (Err c.stop.result) (ap Err c.stop.ensures ∙ ap (stopped Walk c.two_bytes.new.self.call.now.link.kept) none))

pub returns-clause-takes : goal.returns-clause-takes
returns-clause-takes g c =
    let t = c.args.self.now in
    let first = c.in_ok-long.ensures in
    let long = c.in_ok-long.long in
    let some : whole t.container.end (t.at + 2) long ≡ cond (eqb long 0xFFFF) (Err Malformed) (whole t.container.end (t.at + 2) long) = sym (cond-false _ _ _ (ne_eqb long 0xFFFF c.if-long.false)) in
    let is = (λ i. whole (first.takes.container i).end (first.passed i) long) ∙ some in
    takes_goes (long_as t.container.end (t.at + 2)) first.takes (takes_now c.two_bytes.new.self _ c.whole.result (c.whole.ensures.whole ∙ ap (stopped Walk c.two_bytes.new.self.call.now.link.kept) is))
