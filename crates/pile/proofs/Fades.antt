-- A field that fades, exchange by exchange. Assumes nothing.
use Rattle.std.specs.Prelude.{◌≡◌, ℕ, ◌-◌, ◌<◌, ◌≤◌, min, false, cond, List, [], ◌∷◌, ◌++◌, map, refl}
use Rattle.std.proofs.Common.{sym, ap, ◌∙◌, ⊎_elim, arith}
use Rattle.std.specs.List.{flat_map}
use Rattle.std.specs.Option.{option_to_list}
use Rattle.std.proofs.lemmas.Bool.{cond-false, lt-ltb, le-ltb, cases_lt}
use Rattle.tag.specs.Rules.{turn}
use Rattle.field.specs.declared.span.Span.{Span}
use Rattle.field.specs.declared.span.Span.TheVariants.{Endless, Left}
use Rattle.field.specs.Exchange.{hears, says, heard_from}
use Rattle.field.specs.Placed.{Placed}
use Rattle.field.specs.Span.{fallen, reaches, answers}
use Rattle.pile.specs.Capped.{capped, capped_at}

-- the span of a tag in a fading field, after an exchange
fallen-capped : (s : ℕ) (p : Span) → fallen (capped s p) ≡ capped (s - 2) (fallen p)
fallen-capped s Endless = refl
fallen-capped s (Left n) = ap Left (omega arith)

reaches-capped : (s : ℕ) (p : Span) → 0 < s → reaches (capped s p) ≡ reaches p
reaches-capped s Endless h = lt-ltb 0 s h
reaches-capped s (Left n) h =
    ⊎_elim (λ k. lt-ltb 0 (min n s) (omega arith) ∙ sym (lt-ltb 0 n k)) (λ k. le-ltb 0 (min n s) (omega arith) ∙ sym (le-ltb 0 n k)) (cases_lt 0 n)

answers-capped : (s : ℕ) (p : Span) → 1 < s → answers (capped s p) ≡ answers p
answers-capped s Endless h = lt-ltb 1 s h
answers-capped s (Left n) h =
    ⊎_elim (λ k. lt-ltb 1 (min n s) (omega arith) ∙ sym (lt-ltb 1 n k)) (λ k. le-ltb 1 (min n s) (omega arith) ∙ sym (le-ltb 1 n k)) (cases_lt 1 n)

answers_lost : (s : ℕ) (p : Span) → s ≤ 1 → answers (capped s p) ≡ false
answers_lost s Endless h = le-ltb 1 s h
answers_lost s (Left n) h = le-ltb 1 (min n s) (omega arith)

reaches-none : (p : Span) → reaches (capped 0 p) ≡ false
reaches-none Endless = refl
reaches-none (Left n) = le-ltb 0 (min n 0) (omega arith)

capped_again : (p : Span) → fallen (capped 0 p) ≡ capped 0 p
capped_again Endless = refl
capped_again (Left n) = ap Left (omega arith)

hears-capped : (f : List ℕ) (s : ℕ) (p : Placed) → 0 < s → hears f (capped_at s p) ≡ capped_at (s - 2) (hears f p)
unfolding hears
hears-capped f s p h =
    let r = reaches-capped s p.span h in
    let e = fallen-capped s p.span in
    λ i. record { tag = cond (r i) (turn p.tag f).after p.tag; span = e i }

hears-none : (f : List ℕ) (p : Placed) → hears f (capped_at 0 p) ≡ capped_at 0 p
unfolding hears
hears-none f p =
    let r = reaches-none p.span in
    let e = capped_again p.span in
    λ i. record { tag = cond (r i) (turn p.tag f).after p.tag; span = e i }

none_at_zero : (f : List ℕ) (ps : List Placed) → map (hears f) (map (capped_at 0) ps) ≡ map (capped_at 0) ps
none_at_zero f [] = refl
none_at_zero f (p ∷ ps) = λ i. hears-none f p i ∷ none_at_zero f ps i

pub all_hear : (f : List ℕ) (s : ℕ) (ps : List Placed) → 0 < s → map (hears f) (map (capped_at s) ps) ≡ map (capped_at (s - 2)) (map (hears f) ps)
all_hear f s [] h = refl
all_hear f s (p ∷ ps) h = λ i. hears-capped f s p h i ∷ all_hear f s ps h i

pub none_hear : (f : List ℕ) (s : ℕ) (ps : List Placed) → s ≡ 0 → map (hears f) (map (capped_at s) ps) ≡ map (capped_at s) ps
none_hear f s ps e = ap (λ n. map (hears f) (map (capped_at n) ps)) e ∙ none_at_zero f ps ∙ ap (λ n. map (capped_at n) ps) (sym e)

-- at a span of 0 or 1 nothing comes back
pub nothing_heard : (f : List ℕ) (s : ℕ) (ps : List Placed) → s ≤ 1 → heard_from f (map (capped_at s) ps) ≡ []
unfolding heard_from says
nothing_heard f s [] h = refl
nothing_heard f s (p ∷ ps) h =
    ap (λ l. l ++ flat_map (says f) (map (capped_at s) ps)) (cond-false _ _ _ (answers_lost s p.span h)) ∙ nothing_heard f s ps h

pub all_heard : (f : List ℕ) (s : ℕ) (ps : List Placed) → 1 < s → heard_from f (map (capped_at s) ps) ≡ heard_from f ps
unfolding heard_from says
all_heard f s [] h = refl
all_heard f s (p ∷ ps) h =
    let a = answers-capped s p.span h in
    let rest = all_heard f s ps h in
    λ i. cond (a i) (option_to_list (turn p.tag f).says) [] ++ rest i

-- each part of an exchange of a field that fades, for `grind`
pub ruleset fades = (all_hear, none_hear, nothing_heard, all_heard)
