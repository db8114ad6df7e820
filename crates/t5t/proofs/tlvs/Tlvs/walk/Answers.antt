use Rattle.std.proofs.Common.{◌≡◌, Err, sym, refl, ap, ◌∙◌, subst, arith}
use Rattle.std.proofs.lemmas.Result.{err_from_is_err_and}
use Rattle.shown.specs.declared.flaw.Flaw.TheVariants.{NoMessage}
use Rattle.shown.specs.Walk.{walk}
use Rattle.refusal.specs.declared.step.Step.TheVariants.{Walk}
use Rattle.t5t.specs.Asking.{flawed}
use Rattle.t5t.specs.Takes.{Takes}
use Rattle.t5t.proofs.Told.{terminates, is_message, goes_on, is_other}
use Rattle.t5t.proofs.Walks.{Walking, walking-none, walks-over, walks_lost, walks_terminated, walks-bad, walks-found, walks_on}
use Rattle.t5t.specs.Calls.{air_in}
use Rattle.t5t.proofs.Calls.{same_then}
use Rattle.t5t.proofs.tlvs.Tlvs.walk.Goals.{else-loop-self-test, then-loop-self-test+in_ok-next_byte+in-Terminator}
use Rattle.t5t.proofs.tlvs.Tlvs.walk.Goals as goal

pub loop-self-init : goal.loop-self-init
loop-self-init g c =
    let t = c.args.self.now in
    record {
      walking = subst (λ at. Walking t.container t.call.now.link t.call.now.link (air_in t.call.now) (air_in t.call.now) at) (sym c.requires) (walking-none t.container t.call.now.link (air_in t.call.now));
      container = refl;
      air = record { field = refl; space = refl };
      call = refl;
      onward = omega arith;
    }

pub returns-in_err-next_byte-clause-takes : goal.returns-in_err-next_byte-clause-takes
returns-in_err-next_byte-clause-takes g c =
    let p = err_from_is_err_and c.from_residual.result c.from_residual.ensures.1 in
    walks_lost _ _ c.loop-self.invariant c.loop-self-test.true _ _ c.from_residual.result (p.1 ∙ ap Err p.2) c.in_err-next_byte.ensures.takes

pub returns-in_err-length_field-in-Message-clause-takes : goal.returns-in_err-length_field-in-Message-clause-takes
returns-in_err-length_field-in-Message-clause-takes g c =
    let p = err_from_is_err_and c.from_residual-in_err-length_field-in-Message.result c.from_residual-in_err-length_field-in-Message.ensures.1 in
    let t = c.in_ok-next_byte.field-0 in
    let is = sym c.from.ensures ∙ c.in-Message.is in
    walks-bad _ _ c.loop-self.invariant c.loop-self-test.true _ t c.in_ok-next_byte.ensures.takes (goes_on t is) c.in_ok-next_byte.ensures.passed _ _ c.from_residual-in_err-length_field-in-Message.result (p.1 ∙ ap Err p.2) c.in_err-length_field-in-Message.ensures.takes

pub returns-in-Message-clause-takes : goal.returns-in-Message-clause-takes
returns-in-Message-clause-takes g c =
    let t = c.in_ok-next_byte.field-0 in
    let is = sym c.from.ensures ∙ c.in-Message.is in
    walks-found _ _ c.loop-self.invariant c.loop-self-test.true _ t c.in_ok-next_byte.ensures.takes (goes_on t is) c.in_ok-next_byte.ensures.passed _ _ c.in_ok-length_field-in-Message.ensures.takes (is_message t is)

pub returns-in_err-value-in-Other-clause-takes : goal.returns-in_err-value-in-Other-clause-takes
returns-in_err-value-in-Other-clause-takes g c =
    let p = err_from_is_err_and c.from_residual-in_err-value-in-Other.result c.from_residual-in_err-value-in-Other.ensures.1 in
    let t = c.in_ok-next_byte.field-0 in
    let is = sym c.from.ensures ∙ c.in-Other.is in
    walks-bad _ _ c.loop-self.invariant c.loop-self-test.true _ t c.in_ok-next_byte.ensures.takes (is_other t is).0 c.in_ok-next_byte.ensures.passed _ _ c.from_residual-in_err-value-in-Other.result (p.1 ∙ ap Err p.2) c.in_err-value-in-Other.ensures.takes

pub loop-self-preserved : goal.loop-self-preserved
loop-self-preserved g c =
    let w = c.loop-self.invariant in
    let t = c.in_ok-next_byte.field-0 in
    let is = sym c.from.ensures ∙ c.in-Other.is in
    let x = c.in_ok-next_byte.ensures.takes in
    let y = c.in_ok-value-in-Other.ensures.takes in
    let v = c.in_ok-value-in-Other.value in
    let within = c.in_ok-value-in-Other.ensures.within in
    let at = within.1 in
    let behind = within.2 in
    let far = w.onward in
    let on = x.onward in
    let on2 = y.onward in
    record {
      walking = walks_on _ _ w c.loop-self-test.true _ t x (is_other t is).0 c.in_ok-next_byte.ensures.passed _ v y (is_other t is).1 (omega arith);
      container = y.container ∙ x.container ∙ w.container;
      air = same_then w.air (same_then x.air y.air);
      call = y.call ∙ x.call ∙ w.call;
      onward = omega arith;
    }

pub returns-clause-takes : goal.returns-clause-takes
returns-clause-takes g c =
    let t₀ = c.args.self.now in
    let stop = c.stop.result in
    elim c.loop-self-test.branch [
      | else-loop-self-test w ↦
          subst (λ t. Takes (walk t₀.container) t₀ t (Err stop)) (sym w.self-is) (walks-over t₀ _ c.loop-self.invariant stop w.loop-self-test.false (subst (λ t. stop ≡ flawed Walk t.call.now.link.kept NoMessage) w.self-is c.stop.ensures))
      | then-loop-self-test+in_ok-next_byte+in-Terminator w ↦
          let k = w.in_ok-next_byte.field-0 in
          subst (λ t. Takes (walk t₀.container) t₀ t (Err stop)) (sym w.self-is) (walks_terminated t₀ _ c.loop-self.invariant w.loop-self-test.true _ k w.in_ok-next_byte.ensures.takes stop (terminates k (sym w.from.ensures ∙ w.in-Terminator.is)) (subst (λ t. stop ≡ flawed Walk t.call.now.link.kept NoMessage) w.self-is c.stop.ensures))
    ]
