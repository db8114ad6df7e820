use Rattle.std.proofs.Common.{◌≡◌, ◌+◌, Ok, Err, ap, ◌∙◌, arith}
use Rattle.std.proofs.lemmas.Result.{err_from_is_err_and}
use Rattle.shown.specs.Asks.{two_as}
use Rattle.shown.specs.Walk.{before, low_byte}
use Rattle.t5t.proofs.Askings.{none_made}
use Rattle.t5t.proofs.Takings.{takes_goes, takes_stops, takes_now, takes_as}
use Rattle.t5t.proofs.tlvs.Tlvs.two_bytes.Goals as goal

pub returns-in_err-high : goal.returns-in_err-high
returns-in_err-high g c =
    let p = err_from_is_err_and c.from_residual.result c.from_residual.ensures.1 in
    let t = c.args.self.now in
    record {
      takes = takes_stops (low_byte t.container.end (t.at + 1)) c.from_residual.result (p.1 ∙ ap Err p.2) c.in_err-high.ensures.takes;
      passed = none_made (λ _. c.next_byte.new.self.at ≡ t.at + 2) c.from_residual.result p.1;
    }

pub returns-in_err-low : goal.returns-in_err-low
returns-in_err-low g c =
    let p = err_from_is_err_and c.from_residual-in_err-low.result c.from_residual-in_err-low.ensures.1 in
    let t = c.args.self.now in
    let first = c.in_ok-high.ensures in
    let second = takes_as (λ i. before (first.takes.container i).end (first.passed i)) c.in_err-low.ensures.takes in
    record {
      takes = takes_goes (low_byte t.container.end (t.at + 1)) first.takes (takes_stops (two_as c.in_ok-high.high) c.from_residual-in_err-low.result (p.1 ∙ ap Err p.2) second);
      passed = none_made (λ _. c.next_byte-2.new.self.at ≡ t.at + 2) c.from_residual-in_err-low.result p.1;
    }

pub returns : goal.returns
returns g c =
    let t = c.args.self.now in
    let first = c.in_ok-high.ensures in
    let at = first.passed in
    let second = takes_as (λ i. before (first.takes.container i).end (first.passed i)) c.in_ok-low.ensures.takes in
    let at' = c.in_ok-low.ensures.passed in
    record {
      takes = takes_goes (low_byte t.container.end (t.at + 1)) first.takes (takes_goes (two_as c.in_ok-high.high) second (takes_now c.next_byte-2.new.self _ (Ok c.word.result) (ap Ok c.word.ensures)));
      passed = omega arith;
    }
