-- A message laid into a space, record by record: what is done, and what is to do. Assumes nothing.
use Rattle.std.proofs.Common.{◌≡◌, ℕ, ◌+◌, ◌≤◌, List, [], ◌++◌, length, take, drop, sym, refl, ap, ◌∙◌, arith, length-append, length-drop, length-take-le, take_all, drop-drop, take_at, take-add, drop_at}
use Rattle.space.specs.Space.{put, laid}

-- of the message m, the front up to `at` lies over the space, which was s₀ and is s, and `rest` is to do
pub record Laying (m s₀ s : List ℕ) (at : ℕ) (rest : List ℕ) : Type 0 where
  pub done : s ≡ take at m ++ drop at s₀
  pub to_do : drop at m ≡ rest
  pub within : at ≤ length m

pub laying_none : (m s : List ℕ) → Laying m s s 0 m
laying_none m s = record { done = refl; to_do = refl; within = omega arith }

-- where the next bytes end
pub next_fits : {m s₀ s : List ℕ} {at : ℕ} (bs rest : List ℕ) → Laying m s₀ s at (bs ++ rest) → at + length bs ≤ length m
next_fits {m} {s₀} {s} {at} bs rest l =
    let a = ap length l.to_do in
    let b = length-append bs rest in
    let c = length-drop at m in
    omega (arith, l.within)

pub laying_more : {m s₀ s : List ℕ} {at : ℕ} (bs rest s' : List ℕ) (at' : ℕ) → s' ≡ put s at bs → at' ≡ at + length bs → Laying m s₀ s at (bs ++ rest) → Laying m s₀ s' at' rest
laying_more {m} {s₀} {s} {at} bs rest s' at' es ea l =
    let n = length bs in
    let front : length (take at m) ≡ at = length-take-le at m l.within in
    let start : take at s ≡ take at m = ap (take at) l.done ∙ take_at (take at m) (drop at s₀) at front in
    let end : drop (at + n) s ≡ drop (at + n) s₀ = sym (drop-drop n at s) ∙ ap (drop n) (ap (drop at) l.done ∙ drop_at (take at m) (drop at s₀) at front) ∙ drop-drop n at s₀ in
    let more : take at m ++ bs ≡ take (at + n) m = ap (λ x. take at m ++ x) (sym (ap (take n) l.to_do ∙ take_at bs rest n refl)) ∙ sym (take-add at n m) in
    let back = sym ea in
    record {
      done = es ∙ (λ i. start i ++ bs ++ end i) ∙ (λ i. more i ++ drop (at + n) s₀) ∙ (λ i. take (back i) m ++ drop (back i) s₀);
      to_do = ap (λ k. drop k m) ea ∙ sym (drop-drop n at m) ∙ ap (drop n) l.to_do ∙ drop_at bs rest n refl;
      within = let w = next_fits bs rest l in omega arith;
    }

pub laying_all : {m s₀ s : List ℕ} {at : ℕ} → Laying m s₀ s at [] → s ≡ laid m s₀
laying_all {m} {s₀} {s} {at} l =
    let a = ap length l.to_do in
    let b = length-drop at m in
    let whole : at ≡ length m = omega (arith, l.within) in
    l.done ∙ (λ i. take (whole i) m ++ drop (whole i) s₀) ∙ ap (λ x. x ++ drop (length m) s₀) (take_all (length m) m (omega arith))
