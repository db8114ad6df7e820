-- The recomposer: the loop that adds up, the loop that lays the records again, and what is done in the end. Assumes nothing.
use Rattle.std.proofs.Common.{◌≡◌, ℕ, zero, suc, ◌+◌, ◌-◌, ◌^◌, ◌<◌, ◌≤◌, true, false, eqb, List, length, take, drop, Some, None, Ok, Option, Result, sym, refl, ap, ◌∙◌, subst, ⊎_elim, arith, take_at}
use Rattle.std.specs.List.{AllByRecursion}
use Rattle.std.proofs.lemmas.Bool.{cond-false, cases_Bool}
use Rattle.header.specs.declared.refusal.RecordRefusal.{RecordRefusal}
use Rattle.composer.specs.Composing.{leaves, fitted, recomposed_by, recomposed, Recomposes}
use Rattle.ndef.specs.Content.{Content}
use Rattle.header.specs.Format.{format_of, allows}
use Rattle.composer.specs.Message.{encoded_length, none, message}
use Rattle.space.specs.Space.{laid}
use Rattle.ndef.specs.Reading.{Bytes, flags_of, size, good_at, entry_at, Listing, over, left, records, fault, content, contents}
use Rattle.composer.proofs.Amounts.{amount, message-length}
use Rattle.composer.specs.Records.{bad_header, fit}
use Rattle.composer.proofs.Composes.{reads-back, read_front}
use Rattle.ndef.proofs.Contents.{content_at, content_at_lem, kind-long, id-long, payload-long}
use Rattle.composer.proofs.Fitted.{Taken, no_answer, fitted_ok, fitted_fits}
use Rattle.ndef.proofs.Listings.{good_facts, steps, left_over, left-good, left-bad}
use Rattle.composer.proofs.ReadBack.{Tellable}
use Rattle.composer.proofs.Rebuilt.{some_none, rebuilds}

-- a reader that meets no bad header is at the end just where no record is left
pub over-none : (m : List ℕ) (p : ℕ) → p ≤ length m → fault (left m p) ≡ None → over m p ≡ none (contents (left m p))
over-none m p h whole =
    ⊎_elim (λ o. o ∙ sym (ap (λ l. none (contents l)) (left_over m p o)))
    (λ o.
    ⊎_elim (λ g. o ∙ sym (ap (λ l. none (contents l)) (left-good m p h o g)))
    (λ g. absurd (some_none (sym (ap fault (left-bad m p o g)) ∙ whole)))
    (cases_Bool (good_at m p)))
    (cases_Bool (over m p))

pub no_fault : (o : Option ℕ) → bad_header o ≡ None → o ≡ None
no_fault (Some p) e = cc
no_fault None e = refl

-- ---- the end

-- a message has a first record
some_first : (m : List ℕ) → fault (records m) ≡ None → none (contents (records m)) ≡ false
some_first m g =
    ⊎_elim (λ y. ap (λ l. none (contents l)) (left-good m 0 (omega arith) refl y)) (λ y. absurd (some_none (sym (ap fault (left-bad m 0 refl y)) ∙ g)))
    (cases_Bool (good_at m 0))

-- a header told of each record, so another can
told-rest : (n : ℕ) (m : List ℕ) (p : ℕ) → length m - p < n → p ≤ length m → amount (contents (left m p)) < 2 ^ 32 → AllByRecursion Tellable (contents (left m p))
told-rest zero m p few h small = absurd (omega arith)
told-rest (suc n) m p few h small =
    let Q : Listing → Type 0 = λ l. AllByRecursion Tellable (contents l) in
    ⊎_elim (λ o. subst Q (sym (left_over m p o)) tt)
    (λ o.
    ⊎_elim
    (λ g.
    let bs = drop p m in
    let s = steps m p h g in
    let facts = good_facts (eqb p 0) bs g in
    let here = left-good m p h o g in
    let more : amount (contents (left m p)) ≡ encoded_length (content (entry_at m p)) + amount (contents (left m (p + size bs))) = ap (λ l. amount (contents l)) here in
    let same = content_at_lem m p in
    let k = kind-long bs facts.within in
    let i = id-long bs facts.within in
    let y = payload-long bs facts.within in
    let told : Tellable (content_at bs) = record {
      small = subst (λ c. length c.payload < 2 ^ 32) same (omega arith);
      allowed = (λ j. allows (format_of (flags_of bs)) (k j) (i j) (y j)) ∙ facts.allowed;
    } in
    subst Q (sym here) (subst Tellable (sym same) told, told-rest n m (p + size bs) (omega (arith, s.on, s.within)) s.within (omega arith)))
    (λ g. subst Q (sym (left-bad m p o g)) tt)
    (cases_Bool (good_at m p)))
    (cases_Bool (over m p))

fit-recomposed : (o : Option ℕ) (cs : List Content) (room : ℕ) → (o ≡ None → none cs ≡ false) → fit (bad_header o) cs room ≡ recomposed_by o cs room
fit-recomposed (Some p) cs room some = refl
fit-recomposed None cs room some = cond-false _ _ _ (some refl)

record Answered (o : Option ℕ) (cs : List Content) (n : ℕ) : Type 0 where
  good : o ≡ None
  taken : Taken (message cs) n

answered : (o : Option ℕ) (cs : List Content) (room n : ℕ) → recomposed_by o cs room ≡ Ok n → Answered o cs n
answered (Some p) cs room n e = absurd (no_answer e)
answered None cs room n e = record { good = refl; taken = fitted_ok (message cs) room n e }

pub recomposes : (m : List ℕ) → Bytes m → (s₀ s : List ℕ) (r : Result ℕ RecordRefusal) → r ≡ fit (bad_header (fault (records m))) (contents (records m)) (length s₀) → s ≡ leaves r (message (contents (records m))) s₀ → Recomposes m s₀ s r
recomposes m byte s₀ s r fits after =
    let cs = contents (records m) in
    let answer : r ≡ recomposed m (length s₀) = fits ∙ fit-recomposed (fault (records m)) cs (length s₀) (some_first m) in
    record {
      answer = answer;
      after = after;
      reads = λ n e.
          let a = answered (fault (records m)) cs (length s₀) n (sym answer ∙ e) in
          let long = message-length true cs in
          read_front (message cs) s₀ s cs r n after e (sym a.taken.is) (reads-back cs (some_first m a.good) (told-rest (suc (length m)) m 0 (omega arith) (omega arith) (omega (arith, a.taken.short))));
      same = λ g tight short room.
          let again = rebuilds m byte g tight in
          let ok : r ≡ Ok (length m) = answer ∙ ap (λ o. recomposed_by o cs (length s₀)) g ∙ ap (λ x. fitted x (length s₀)) again ∙ fitted_fits m (length s₀) short room in
          (ok, ap (take (length m)) (after ∙ ap (λ x. leaves x (message cs) s₀) ok ∙ ap (λ x. laid x s₀) again) ∙ take_at m _ (length m) refl);
    }
