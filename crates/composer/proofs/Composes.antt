-- The composer: its source of records, and what is done in the end. Assumes nothing.
use Rattle.std.proofs.Common.{◌≡◌, ℕ, ◌+◌, ◌^◌, ◌<◌, ◌≤◌, true, false, eqb, List, [], ◌∷◌, map, length, take, drop, Some, None, Ok, Option, Result, sym, refl, ap, ◌∙◌, subst, ⊎_elim, arith, take_at, length-drop}
use Rattle.std.specs.List.{AllByRecursion}
use Rattle.std.proofs.lemmas.List.{drop_all, length-map}
use Rattle.std.proofs.lemmas.Bool.{cond-true, cond-false, cases_Bool, cases_eq, eq-eqb, ne_eqb, true≢false}
use Rattle.composer.specs.declared.description.Description.{Description}
use Rattle.header.specs.declared.refusal.RecordRefusal.{RecordRefusal}
use Rattle.composer.specs.Composing.{described, sound, first_bad, leaves, composed_by, composed, ReadAs, Composes}
use Rattle.ndef.specs.Content.{Content}
use Rattle.composer.specs.Message.{none, message}
use Rattle.composer.specs.Records.{bad_description, fit}
use Rattle.composer.proofs.Amounts.{amount, message-length}
use Rattle.composer.proofs.Described.{description_told}
use Rattle.composer.proofs.Fitted.{Taken, no_answer, fitted_ok}
use Rattle.composer.proofs.ReadBack.{Tellable, read_back}
use Rattle.composer.proofs.Rebuilt.{some_none}

some_long : (cs : List Content) → 0 < length cs → none cs ≡ false
some_long [] h = absurd (omega arith)
some_long (c ∷ cs) h = refl

-- no description is left just at the list's end
pub none_left : (store : List ℕ) (ds : List Description) (k : ℕ) → k ≤ length ds → eqb k (length ds) ≡ none (map (described store) (drop k ds))
none_left store ds k h =
    ⊎_elim (λ e. eq-eqb k (length ds) e ∙ sym (ap (λ l. none (map (described store) l)) (drop_all k ds (omega arith))))
    (λ ne. ne_eqb k (length ds) ne ∙ sym (some_long _ (let l = length-map (drop k ds) (described store) in let d = length-drop k ds in omega arith)))
    (cases_eq k (length ds))

-- ---- the end

fit-composed : (o : Option ℕ) (cs : List Content) (room : ℕ) → fit (bad_description o) cs room ≡ composed_by o cs room
fit-composed (Some i) cs room = refl
fit-composed None cs room = refl

record Answered (o : Option ℕ) (cs : List Content) (n : ℕ) : Type 0 where
  good : o ≡ None
  some : none cs ≡ false
  taken : Taken (message cs) n

answered : (o : Option ℕ) (cs : List Content) (room n : ℕ) → composed_by o cs room ≡ Ok n → Answered o cs n
answered (Some i) cs room n e = absurd (no_answer e)
answered None cs room n e =
    ⊎_elim (λ z. absurd (no_answer (sym (cond-true _ _ _ z) ∙ e)))
    (λ z. record { good = refl; some = z; taken = fitted_ok (message cs) room n (sym (cond-false _ _ _ z) ∙ e) })
    (cases_Bool (none cs))

-- records that a composed message holds can be told by headers
all_told : (store : List ℕ) (ds : List Description) (i : ℕ) → first_bad store i ds ≡ None → amount (map (described store) ds) < 2 ^ 32 → AllByRecursion Tellable (map (described store) ds)
all_told store [] i g small = tt
all_told store (d ∷ ds) i g small =
    ⊎_elim (λ e. (description_told store d e (omega arith), all_told store ds (i + 1) (sym (cond-true _ _ _ e) ∙ g) (omega arith)))
    (λ e. absurd (some_none (sym (cond-false _ _ _ e) ∙ g)))
    (cases_Bool (sound store d))

pub reads-back : (cs : List Content) → none cs ≡ false → AllByRecursion Tellable cs → ReadAs (message cs) cs
reads-back [] e t = absurd (true≢false e)
reads-back (c ∷ cs) e t = let r = read_back c cs t in record { whole = r.whole; same = r.same }

-- what lies over the front of a space is read there
pub read_front : (m s₀ s : List ℕ) (cs : List Content) (r : Result ℕ RecordRefusal) (n : ℕ) → s ≡ leaves r m s₀ → r ≡ Ok n → length m ≡ n → ReadAs m cs → ReadAs (take n s) cs
read_front m s₀ s cs r n after e long reads =
    subst (λ l. ReadAs l cs) (sym (ap (take n) (after ∙ ap (λ x. leaves x m s₀) e) ∙ take_at m _ n long)) reads

pub composes : (ds : List Description) (store s₀ s : List ℕ) (r : Result ℕ RecordRefusal) → r ≡ fit (bad_description (first_bad store 0 ds)) (map (described store) ds) (length s₀) → s ≡ leaves r (message (map (described store) ds)) s₀ → Composes ds store s₀ s r
composes ds store s₀ s r fits after =
    let cs = map (described store) ds in
    let answer : r ≡ composed store ds (length s₀) = fits ∙ fit-composed (first_bad store 0 ds) cs (length s₀) in
    record {
      answer = answer;
      after = after;
      reads = λ n e.
          let a = answered (first_bad store 0 ds) cs (length s₀) n (sym answer ∙ e) in
          let long = message-length true cs in
          read_front (message cs) s₀ s cs r n after e (sym a.taken.is) (reads-back cs a.some (all_told store ds 0 a.good (omega (arith, a.taken.short))));
    }
