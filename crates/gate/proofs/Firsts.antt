-- The first tag with a UID, and its span. Assumes nothing.
use Rattle.std.proofs.Common.{◌≡◌, ℕ, ◌+◌, ◌<◌, Option, Bool, true, false, cond, not, List, [], ◌∷◌, length, get_or, set, refl, ap, ◌∙◌, one-add, arith}
use Rattle.std.specs.List.{position, prefix_len}
use Rattle.std.specs.Option.{ok_or}
use Rattle.std.specs.Result.{MatchResult}
use Rattle.gate.specs.declared.line_error.LineError.{LineError}
use Rattle.std.proofs.lemmas.List.Sums.{prefix_len-le-length}
use Rattle.bench.specs.declared.bench.Bench.{Bench}
use Rattle.rack.specs.declared.rack.Slot.{Slot}
use Rattle.field.specs.declared.span.Span.{Span}
use Rattle.gate.specs.Tagged.{has_uid, spanned}

module _ (uid : ℕ) where
  -- it has another UID
  abbrev pub other : Slot Bench → Bool
  other slot = not (has_uid uid slot)

  -- where it stands, or that there is none
  pub first_at : (xs : List (Slot Bench)) (n : ℕ) (r : Option ℕ) (e : LineError) → n ≡ length xs → r ≡ position (has_uid uid) xs → MatchResult (ok_or r e) (λ i. (i ≡ prefix_len other xs) × (i < n)) (λ _. prefix_len other xs ≡ n)
  first_at xs n r e long is =
      let within = prefix_len-le-length other xs in
      rw is (grind arith)

  -- the span set at a place
  abbrev pub span_at : Span → List (Slot Bench) → Slot Bench → ℕ → List (Slot Bench)
  span_at span xs d n = set xs n (record { tag = (get_or xs n d).tag; span = span })

  -- the same, where the first tag stands
  pub spanned-first : (span : Span) (xs : List (Slot Bench)) (d : Slot Bench) → span_at span xs d (prefix_len other xs) ≡ spanned uid span xs
  spanned-first span [] d = refl
  spanned-first span (x ∷ xs) d =
      elim (has_uid uid x) as (λ b. span_at span (x ∷ xs) d (cond (not b) (1 + prefix_len other xs) 0) ≡ cond b (record { tag = x.tag; span = span } ∷ xs) (x ∷ spanned uid span xs)) [
        | true ↦ refl
        | false ↦ ap (span_at span (x ∷ xs) d) (one-add (prefix_len other xs)) ∙ ap (λ l. x ∷ l) (spanned-first span xs d)
      ]
