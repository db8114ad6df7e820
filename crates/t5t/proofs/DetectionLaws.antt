-- The laws of a detection, from its procedure. Assumes nothing.
use Rattle.std.proofs.Common.{◌≡◌, ℕ, ◌<◌, ◌≤◌, List, [], ◌∷◌, ◌++◌, length, Ok, Err, Result, sym, ap, ◌∙◌, subst, ⊎_elim, arith}
use Rattle.std.specs.List.{AllByRecursion}
use Rattle.memory.specs.declared.block_length.BlockLength.{BlockLength}
use Rattle.memory.specs.Model.{Sound}
use Rattle.tag.specs.Means.{longest}
use Rattle.field.specs.Addressed.{Lone}
use Rattle.field.specs.Placed.{Placed, SoundAll}
use Rattle.procedure.specs.Procedure.{Air, perform, Performs, standing}
use Rattle.procedure.proofs.Alone.{AsAlone, alone, harmless}
use Rattle.shown.specs.declared.container.Place.{Place}
use Rattle.shown.specs.declared.flaw.Flaw.{Flaw}
use Rattle.refusal.specs.declared.cause.Cause.{Cause}
use Rattle.t5t.specs.declared.detection.Found.{Found}
use Rattle.t5t.specs.declared.detection.NotFound.{NotFound}
use Rattle.t5t.specs.declared.stop.Stop.{Stop}
use Rattle.refusal.specs.Cause.{cause_of}
use Rattle.t5t.specs.Detection.{detection}
use Rattle.t5t.specs.Detects.{place_of, stop_of, Detects}
use Rattle.t5t.specs.Laws.{Stays, Reachable, with_only, located_in, Told, AsOverOne, sent_of, Truly, DetectionLaws}
use Rattle.t5t.proofs.Detections.{detection-addressed, detection_harmless, detection-true, detection_complete, Located}

-- the memory of the tag is sound, since every one in the list is
every_part : (P : Placed → Type 0) (front back : List Placed) (p : Placed) → AllByRecursion P (front ++ p ∷ back) → P p
every_part P [] back p e = e.0
every_part P (x ∷ front) back p e = every_part P front back p e.1

pub lone_sound : (u : ℕ) (ts : List Placed) (p : Placed) → SoundAll ts → Lone u ts p → Sound p.tag.memory
lone_sound u ts p s l = every_part (λ q. Sound q.tag.memory) l.front l.back p (subst SoundAll l.whole s)

-- what a call answers, as a value of its procedure
abbrev answered : Result Found NotFound → Result (BlockLength × Place) Stop
answered (Ok f) = Ok (place_of f.session)
answered (Err y) = Err (stop_of y.refusal)

-- the parts of such a value, and which it is
place_in : Place → Result (BlockLength × Place) Stop → Place
place_in d (Ok x) = x.1
place_in d (Err s) = d

cause_in : Cause → Result (BlockLength × Place) Stop → Cause
cause_in d (Ok x) = d
cause_in d (Err s) = s.cause

tells : Result (BlockLength × Place) Stop → ℕ
tells (Ok x) = 0
tells (Err s) = 1

module _ (u : ℕ) (low : u < 18446744073709551616) (a b : Air) (sound : SoundAll a.tags) where
  -- the procedure, where the space is long enough
  done : (r : Result Found NotFound) → Detects u a b r → longest ≤ length a.space → Performs (detection u) a b (answered r) 0 (sent_of r)
  done (Ok f) d long = d.2
  done (Err y) d long = ⊎_elim (λ t. absurd (let s = t.short in omega arith)) (λ p. p.1) d.1

  unchanged : (r : Result Found NotFound) → Detects u a b r → standing b.tags ≡ standing a.tags
  unchanged (Ok f) d = ap (λ z. standing z.tags) d.2.air ∙ harmless (detection u) (detection_harmless u low) a
  unchanged (Err y) d =
      ⊎_elim (λ t. ap (λ z. standing z.tags) t.same) (λ p. ap (λ z. standing z.tags) p.1.air ∙ harmless (detection u) (detection_harmless u low) a) d.1

  module _ (p : Placed) (l : Lone u a.tags p) where
    over-one : AsAlone u (perform (detection u) a) (perform (detection u) (with_only p a))
    over-one = alone u (detection u) (detection-addressed u low) a.tags a.space p l

    value-is : (r : Result Found NotFound) → Performs (detection u) a b (answered r) 0 (sent_of r) → answered r ≡ (perform (detection u) (with_only p a)).value
    value-is r x = x.value ∙ over-one.value

    sent_is : (r : Result Found NotFound) → Performs (detection u) a b (answered r) 0 (sent_of r) → sent_of r ≡ (perform (detection u) (with_only p a)).sent
    sent_is r x = let s = x.sent in let o = over-one.sent in omega arith

    as_over-one : (r : Result Found NotFound) → Performs (detection u) a b (answered r) 0 (sent_of r) → AsOverOne u a r p
    as_over-one (Ok f) x = (value-is (Ok f) x, sent_is (Ok f) x)
    as_over-one (Err y) x = (value-is (Err y) x, sent_is (Err y) x)

    truly : (r : Result Found NotFound) → Detects u a b r → p.tag.uid ≡ u → Truly r p.tag.memory
    truly (Ok f) d is =
        detection-true p.tag u low is (lone_sound u a.tags p sound l) p.span a.space f.session.unit (place_of f.session).1 (sym (value-is (Ok f) d.2))
    truly (Err y) d is = tt

    told : (r : Result Found NotFound) (x : Result Place Flaw) → Located p.tag.memory x (answered r) → Told x r
    unfolding place_in cause_in tells
    told (Ok f) (Ok q) z = ap (place_in q) z.1
    told (Err y) (Ok q) z = absurd (let e = ap tells z.1 in omega arith)
    told (Ok f) (Err e) z = absurd (let e = ap tells z.1 in omega arith)
    told (Err y) (Err e) z = ap (cause_in (cause_of e)) z.1 ∙ z.2

    whole : (r : Result Found NotFound) → Performs (detection u) a b (answered r) 0 (sent_of r) → p.tag.uid ≡ u → Reachable p.tag → Stays (sent_of r) p.span → (x : Result Place Flaw) → located_in p.tag.memory x → Told x r
    whole r perf is reach stays x loc =
        let lasts = subst (λ n. Stays n p.span) (sent_is r perf) stays in
        told r x (subst (Located p.tag.memory x) (sym (value-is r perf)) (detection_complete p.tag u low is (lone_sound u a.tags p sound l) reach x loc p.span a.space lasts))

  pub detection_laws : (r : Result Found NotFound) → Detects u a b r → DetectionLaws u a b r
  detection_laws r d =
      record {
        unchanged = unchanged r d;
        alone = λ p l long. as_over-one p l r (done r d long);
        true = λ p l is. truly p l r d is;
        whole = λ p l is long reach stays x loc. whole p l r (done r d long) is reach stays x loc;
      }
