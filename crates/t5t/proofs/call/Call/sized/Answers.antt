use Rattle.std.proofs.Common.{◌≤◌, true, false, eqb, IfOk, Err, ap, ◌∙◌, subst}
use Rattle.std.proofs.lemmas.Result.{err_from_is_err_and}
use Rattle.std.proofs.lemmas.Bool.{eq-eqb}
use Rattle.memory.specs.BlockLength.{bytes_of}
use Rattle.shown.specs.Asks.{done}
use Rattle.shown.specs.Container.{limit, bounded, long_form}
use Rattle.t5t.specs.Asking.{stopped}
use Rattle.refusal.specs.declared.step.Step.TheVariants.{Container}
use Rattle.t5t.proofs.Askings.{and_goes, and_stops, asked_true, asked_now, none_made}
use Rattle.t5t.proofs.call.Call.sized.Goals as goal

pub returns-in_err-mlen : goal.returns-in_err-mlen
returns-in_err-mlen g c =
    let p = err_from_is_err_and c.from_residual.result c.from_residual.ensures.1 in
    let h = c.args.header in
    let unit = bytes_of c.args.self.now.link.unit in
    record {
      asked = asked_true (eqb h.mlen 0) (done (bounded h unit false h.mlen)) (eq-eqb h.mlen 0 c.if-header-ne0.false) (and_stops (long_form unit h) c.from_residual.result (p.1 ∙ ap Err p.2) c.in_err-mlen.ensures.asked);
      few = c.in_err-mlen.ensures.few;
      air = c.in_err-mlen.ensures.air;
      within = none_made (λ x. (x.begin ≤ x.end) × (4 ≤ x.begin) × (x.end ≤ limit x.header unit)) c.from_residual.result p.1;
    }

pub returns : goal.returns
returns g c =
    let h = c.args.header in
    let unit = bytes_of c.args.self.now.link.unit in
    let l = c.long_mlen.new.self.link in
    let got = c.in_ok-mlen.ensures.asked in
    let same = ap (λ u. bounded h (bytes_of u) true c.in_ok-mlen.mlen) got.unit in
    record {
      asked = asked_true (eqb h.mlen 0) (done (bounded h unit false h.mlen)) (eq-eqb h.mlen 0 c.if-header-ne0.false) (and_goes (long_form unit h) got (asked_now Container l _ _ c.bounded-2.result (c.bounded-2.ensures.bounded ∙ ap (stopped Container l.kept) same)));
      few = c.in_ok-mlen.ensures.few;
      air = c.in_ok-mlen.ensures.air;
      within = subst (λ u. IfOk c.bounded-2.result (λ x. (x.begin ≤ x.end) × (4 ≤ x.begin) × (x.end ≤ limit x.header (bytes_of u)))) got.unit c.bounded-2.ensures.within;
    }
