use Rattle.std.proofs.Common.{◌≡◌, ◌+◌, ◌-◌, eqb, Err, ap, ◌∙◌, arith}
use Rattle.std.proofs.lemmas.Bool.{eq-eqb, ne_eqb}
use Rattle.std.proofs.lemmas.Result.{err_from_is_err_and}
use Rattle.shown.specs.Asks.{done}
use Rattle.shown.specs.Walk.{whole, before, long_length, length_as}
use Rattle.t5t.specs.Asking.{stopped}
use Rattle.refusal.specs.declared.step.Step.TheVariants.{Walk}
use Rattle.t5t.proofs.Takings.{takes_goes, takes_stops, takes_now, takes_true, takes_false, takes_as}
use Rattle.t5t.proofs.tlvs.Tlvs.length_field.Goals as goal

pub returns-in_err-long-clause-takes : goal.returns-in_err-long-clause-takes
returns-in_err-long-clause-takes g c =
    let p = err_from_is_err_and c.from_residual.result c.from_residual.ensures.1 in
    let t = c.args.self.now in
    let behind : t.at ≡ t.at - 1 + 1 = let one = c.requires in omega arith in
    takes_stops (length_as t.container.end (t.at - 1)) c.from_residual.result (p.1 ∙ ap Err p.2) (takes_as (ap (before t.container.end) behind) c.in_err-long.ensures.takes)

pub returns-then-long-clause-takes : goal.returns-then-long-clause-takes
returns-then-long-clause-takes g c =
    let t = c.args.self.now in
    let first = c.in_ok-long.ensures in
    let long = c.in_ok-long.long in
    let at = first.passed in
    let behind : t.at ≡ t.at - 1 + 1 = let one = c.requires in omega arith in
    let on : c.next_byte.new.self.at ≡ t.at - 1 + 2 = let one = c.requires in omega arith in
    let second = takes_as (λ i. long_length (first.takes.container i).end (on i)) c.long_length.ensures.takes in
    takes_goes (length_as t.container.end (t.at - 1)) (takes_as (ap (before t.container.end) behind) first.takes) (takes_true (eqb long 0xFF) (done (whole t.container.end (t.at - 1 + 2) long)) (eq-eqb long 0xFF c.if-long.true) second)

pub returns-clause-takes : goal.returns-clause-takes
returns-clause-takes g c =
    let t = c.args.self.now in
    let first = c.in_ok-long.ensures in
    let long = c.in_ok-long.long in
    let at = first.passed in
    let behind : t.at ≡ t.at - 1 + 1 = let one = c.requires in omega arith in
    let on : c.next_byte.new.self.at ≡ t.at - 1 + 2 = let one = c.requires in omega arith in
    let t' = c.next_byte.new.self in
    let is = c.whole.ensures.whole ∙ (λ i. stopped Walk t'.call.now.link.kept (whole (first.takes.container i).end (on i) (c.from.ensures i))) in
    takes_goes (length_as t.container.end (t.at - 1)) (takes_as (ap (before t.container.end) behind) first.takes) (takes_false (eqb long 0xFF) (long_length t.container.end (t.at - 1 + 2)) (ne_eqb long 0xFF c.if-long.false) (takes_now t' _ c.whole.result is))
