use Rattle.std.proofs.Common.{Err, ap, ◌∙◌, arith}
use Rattle.std.proofs.lemmas.Result.{err_from_is_err_and}
use Rattle.shown.specs.Asks.{two_as}
use Rattle.shown.specs.Container.{mlen_low}
use Rattle.refusal.specs.declared.step.Step.TheVariants.{Container}
use Rattle.t5t.proofs.Askings.{and_goes, and_stops, asked_value}
use Rattle.t5t.proofs.Calls.{same_then}
use Rattle.t5t.proofs.call.Call.long_mlen.Goals as goal

pub returns-in_err-high : goal.returns-in_err-high
returns-in_err-high g c =
    let p = err_from_is_err_and c.from_residual.result c.from_residual.ensures.1 in
    let few = c.in_err-high.ensures.few in
    record { asked = and_stops mlen_low c.from_residual.result (p.1 ∙ ap Err p.2) c.in_err-high.ensures.asked; few = omega arith; air = c.in_err-high.ensures.air }

pub returns-in_err-low : goal.returns-in_err-low
returns-in_err-low g c =
    let p = err_from_is_err_and c.from_residual-in_err-low.result c.from_residual-in_err-low.ensures.1 in
    let few = c.in_ok-high.ensures.few in
    let few2 = c.in_err-low.ensures.few in
    record {
      asked = and_goes mlen_low c.in_ok-high.ensures.asked (and_stops (two_as c.in_ok-high.high) c.from_residual-in_err-low.result (p.1 ∙ ap Err p.2) c.in_err-low.ensures.asked);
      few = omega arith;
      air = same_then c.in_ok-high.ensures.air c.in_err-low.ensures.air;
    }

pub returns : goal.returns
returns g c =
    let few = c.in_ok-high.ensures.few in
    let few2 = c.in_ok-low.ensures.few in
    record {
      asked = and_goes mlen_low c.in_ok-high.ensures.asked (and_goes (two_as c.in_ok-high.high) c.in_ok-low.ensures.asked (asked_value Container c.byte-2.new.self.link _ c.word-2.ensures));
      few = omega arith;
      air = same_then c.in_ok-high.ensures.air c.in_ok-low.ensures.air;
    }
