-- What a `Result` was whose error is turned into another. Assumes nothing.
use Rattle.std.specs.Result.{MatchResult}
use Rattle.std.proofs.Common.{◌≡◌, Ok, Err, Result, refl, arith}

no_ok : {T D : Type 0} {d : D} {x : T} → ◌≡◌ {A = Result T D} (Err d) (Ok x) → ⊥
no_ok e = grind arith

same_ok : {T D : Type 0} {x y : T} → ◌≡◌ {A = Result T D} (Ok x) (Ok y) → y ≡ x
same_ok e = grind arith

pub mapped_ok : {T E : Type 0} (D : Type 0) (r : Result T E) (v : T) (P : E → Type 0) → ((e : E) → P e → ⊥) → MatchResult r (λ x. ◌≡◌ {A = Result T D} (Ok v) (Ok x)) P → r ≡ Ok v
mapped_ok D (Ok x) v P none h = λ i. Ok (same_ok h i)
mapped_ok D (Err e) v P none h = absurd (none e h)

pub mapped_err : {T E D : Type 0} (r : Result T E) (d : D) (Q : E → D → Type 0) → MatchResult r (λ x. ◌≡◌ {A = Result T D} (Err d) (Ok x)) (λ e. Q e d) → (e : E) × (r ≡ Err e) × Q e d
mapped_err (Ok x) d Q h = absurd (no_ok h)
mapped_err (Err e) d Q h = (e, refl, h)
