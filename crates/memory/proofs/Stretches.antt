-- A stretch of a list: what is read, replaced and set within it. Assumes nothing.
use Rattle.std.proofs.Common.{◌≡◌, ℕ, ◌+◌, ◌-◌, ◌*◌, ◌/◌, ◌%◌, ◌<◌, ◌≤◌, List, length, take, drop, set, ap, ◌∙◌, add-mul, one-mul, arith, take-take, drop-drop, rules}
use lib.Seq.{take-set-lt, drop-set-add}
use Rattle.std.proofs.lemmas.List.{drop-take, places, same_lists}
use Rattle.std.proofs.lemmas.Nat.{div-add-mod', mul-le}
use Rattle.memory.specs.Model.{put_at}

-- block n of k, of u bytes each, ends within them
pub block_within : (n k u : ℕ) → n < k → n * u + u ≤ k * u
block_within n k u h =
    let m : (n + 1) * u ≤ k * u = mul-le (n + 1) u k u (omega arith) (omega arith) in
    let e : (n + 1) * u ≡ n * u + 1 * u = add-mul n 1 u in
    let o : 1 * u ≡ u = one-mul u in
    omega arith

-- whole blocks lie within the bytes
pub whole_within : (k u len : ℕ) → k ≤ len / u → k * u ≤ len
whole_within k u len h =
    let m : k * u ≤ len / u * u = mul-le k u (len / u) u h (omega arith) in
    let d : len / u * u + len % u ≡ len = div-add-mod' len u in
    omega arith

module _ {A : Type 0} (xs : List A) (a n o : ℕ) where
  -- what stands within a stretch
  pub read_within : (w : ℕ) → o + w ≤ n → take w (drop o (take n (drop a xs))) ≡ take w (drop (a + o) xs)
  read_within w h =
      let e : n ≡ o + (n - o) = omega arith in
      let l : w ≤ n - o = omega arith in
      ap (λ k. take w (drop o (take k (drop a xs)))) e ∙ ap (take w) (drop-take o (n - o) (drop a xs)) ∙ take-take w (n - o) (drop o (drop a xs)) l ∙ ap (take w) (drop-drop o a xs)

  pub set_within : (y : A) → o < n → take n (drop a (set xs (a + o) y)) ≡ set (take n (drop a xs)) o y
  set_within y h = ap (take n) (drop-set-add a xs o y) ∙ take-set-lt n (drop a xs) o y h

pub put_within : (xs : List ℕ) (a n o : ℕ) (ys : List ℕ) → o + length ys ≤ n → a + n ≤ length xs → take n (drop a (put_at (a + o) ys xs)) ≡ put_at o ys (take n (drop a xs))
put_within xs a n o ys h k = same_lists _ _ (search (rules, places)) (λ i d l. grind (arith, places))

pub length-put : (xs : List ℕ) (at : ℕ) (ys : List ℕ) → at + length ys ≤ length xs → length (put_at at ys xs) ≡ length xs
length-put xs at ys h = search (rules, places)
