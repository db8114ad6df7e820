-- A frame for another tag. Assumes nothing.
use Rattle.std.proofs.Common.{◌≡◌, ℕ, true, eqb, List, length, ap, ◌∙◌, ⊎_elim}
use Rattle.std.proofs.lemmas.Bool.{cond-true, cond-false, cases_Bool, ne_eqb, and_right}
use Rattle.request.specs.Frame.{addressed, code_at, intact, uid_at}
use Rattle.tag.specs.Rules.{silence, turn}
use Rattle.tag.specs.Tag.{TagModel}

-- an addressed frame that selects no one leaves a tag with another UID as it was, and silent
pub another_silent : (t : TagModel) (f : List ℕ) → addressed f ≡ true → (uid_at f ≡ t.uid → ⊥) → (code_at f ≡ 0x25 → ⊥) → turn t f ≡ silence t
unfolding turn
another_silent t f a u c =
    ⊎_elim (λ i. cond-true _ _ _ i ∙ cond-true _ _ _ a ∙ cond-false _ _ _ (ne_eqb (uid_at f) t.uid u) ∙ ap silence (cond-false _ _ _ (and_right (eqb (length f) 10) _ (ne_eqb (code_at f) 0x25 c))))
    (λ i. cond-false _ _ _ i) (cases_Bool (intact f))
