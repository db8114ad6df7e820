use Rattle.std.proofs.Common.{rules, ◌≡◌, ◌+◌, ◌-◌, ◌/◌, ◌%◌, min, length, take, drop, Ok, Err, Result, sym, refl, ap, ◌∙◌, subst, arith}
use Rattle.std.specs.Result.{MatchResult}
use Rattle.std.proofs.lemmas.Result.{MatchResult-weaker, err_from_is_err_and}
use Rattle.t5t.specs.declared.copying.Broken.{Broken}
use Rattle.t5t.specs.declared.kept.Kept.{Kept}
use Rattle.memory.specs.BlockLength.{bytes_of}
use Rattle.space.specs.Space.{put}
use Rattle.refusal.specs.declared.step.Step.TheVariants as Step
use Rattle.t5t.specs.Asking.{Had}
use Rattle.t5t.specs.Calls.{air_in}
use Rattle.t5t.specs.Copied.{Copied}
use Rattle.t5t.specs.Reading.{chunk, chunk_of}
use Rattle.t5t.proofs.Calls.{same_then}
use Rattle.t5t.proofs.Copies.{copying-none, copying-over, copying_broken, copying_on, put_front, place_low}
use Rattle.t5t.proofs.Mapped.{mapped_ok, mapped_err}
use Rattle.t5t.proofs.tlvs.Tlvs.copy.Goals as goal

pub loop-done-init : goal.loop-done-init
loop-done-init g c =
    let t = c.args.self.now in
    let next = c.requires.next in
    record {
      copying = copying-none c.args.value t.call.now.link (air_in t.call.now) c.args.message.now;
      at = omega arith;
      container = refl;
      air = record { field = refl; space = refl };
      call = refl;
    }

pub returns-in_err-block-clause-copied : goal.returns-in_err-block-clause-copied
returns-in_err-block-clause-copied g c =
    let p = err_from_is_err_and c.from_residual.result c.from_residual.ensures.1 in
    let weak : MatchResult c.block.result (λ x. ◌≡◌ {A = Result Kept Broken} (Err c.in_err-block.field-0.0) (Ok x)) (λ e. c.in_err-block.field-0.0 ≡ record { stop = e; got = c.loop-done.done }) = MatchResult-weaker c.block.result c.in_err-block.ensures.cases (λ x h. h) (λ e h. search rules) in
    let was = mapped_err c.block.result c.in_err-block.field-0.0 (λ stop broken. broken ≡ record { stop = stop; got = c.loop-done.done }) weak in
    let inv = c.loop-done.invariant.copying in
    let v = c.args.value in
    let at = v.at + c.loop-done.done in
    let link' = c.block.new.self.link in
    let had = subst (Had Step.Read (at / c.bytes-unit.result) c.loop-done.self.call.now.link link' (air_in c.loop-done.self.call.now) (air_in c.block.new.self)) was.1 c.block.ensures.had in
    let broken : Copied v c.args.self.now.call.now.link link' (air_in c.args.self.now.call.now) (air_in c.block.new.self) c.args.message.now c.loop-done.message (Err (record { stop = was.0; got = c.loop-done.done })) = record {
      got = inv.got;
      performs = copying_broken v _ _ _ _ c.args.message.now c.loop-done.message c.loop-done.done inv c.loop-done-test.true link' _ (at / c.bytes-unit.result) (ap (λ u. at / u) (c.bytes-unit.ensures ∙ ap bytes_of (sym inv.unit))) was.0 had;
      left = inv.left ∙ put_front c.args.message.now inv.got;
      long = inv.long;
    } in
    subst (Copied v c.args.self.now.call.now.link link' (air_in c.args.self.now.call.now) (air_in c.block.new.self) c.args.message.now c.loop-done.message) (sym (p.1 ∙ ap Err (p.2 ∙ was.2))) broken

pub loop-done-preserved : goal.loop-done-preserved
loop-done-preserved g c =
    let was = mapped_ok _ c.block.result c.in_ok-block.block _ (λ e h. h) c.in_ok-block.ensures.cases in
    let so = c.loop-done.invariant in
    let inv = so.copying in
    let v = c.args.value in
    let done = c.loop-done.done in
    let at = v.at + done in
    let unit = c.loop-done.self.call.now.link.unit in
    let same : c.bytes-unit.result ≡ bytes_of unit = c.bytes-unit.ensures ∙ ap bytes_of (sym inv.unit) in
    let k = c.in_ok-block.block in
    let count = c.min-count.result in
    let had = subst (Had Step.Read (at / c.bytes-unit.result) c.loop-done.self.call.now.link c.block.new.self.link (air_in c.loop-done.self.call.now) (air_in c.block.new.self)) was c.block.ensures.had in
    let is : count ≡ chunk (bytes_of unit) at (v.long - done) = c.min-count.ensures ∙ ap (λ u. min (u - at % u) (v.long - done)) same in
    let bytes : take count (drop (at % c.bytes-unit.result) k.bytes) ≡ chunk_of (bytes_of unit) at (v.long - done) k = λ i. take (is i) (drop (at % same i) k.bytes) in
    let low = place_low unit at in
    let taken = c.loop-done-test.true in
    let was = so.at in
    record {
      copying = copying_on v _ _ _ _ c.args.message.now c.loop-done.message done inv c.loop-done-test.true c.block.new.self.link _ (at / c.bytes-unit.result) (ap (λ u. at / u) same) k count c.put.new.message had is (omega arith) (ap length (sym bytes) ∙ c.put.ensures.long) (c.put.ensures.put ∙ ap (put c.loop-done.message done) bytes);
      at = omega arith;
      container = so.container;
      air = same_then so.air c.block.ensures.air;
      call = so.call;
    }

pub returns-clause-copied : goal.returns-clause-copied
returns-clause-copied g c =
    let inv = c.loop-done.invariant.copying in
    let v = c.args.value in
    let within = inv.within in
    let over = c.loop-done-test.false in
    record {
      got = inv.got;
      performs = copying-over v _ _ _ _ c.args.message.now c.loop-done.message c.loop-done.done inv over;
      left = inv.left ∙ put_front c.args.message.now inv.got;
      long = inv.long ∙ (omega arith);
    }
