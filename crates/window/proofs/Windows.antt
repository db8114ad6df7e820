-- Facts on a window, from what the memory below means alone, for any block length. Assumes nothing.
use Rattle.std.specs.Prelude.{◌≡◌, ℕ, ◌+◌, ◌-◌, ◌*◌, ◌<◌, ◌≤◌, min, true, false, List, length, take, drop, Ok, Err, Result, slice_set}
use Rattle.std.proofs.Common.{sym, ap, ◌∙◌, add-mul, arith, length-set, get_or-take, get_or-drop}
use Rattle.std.proofs.lemmas.Grind.{common_steps}
use Rattle.memory.specs.declared.refusal.MemoryRefusal.{MemoryRefusal}
use Rattle.memory.specs.declared.refusal.MemoryRefusal.TheVariants.{Locked}
use Rattle.memory.specs.Calls.{Writes}
use Rattle.memory.specs.Model.{Model, Sound, count_of, block_at, lock_at, put_at, with_block, with_lock}
use Rattle.window.specs.Window.{shown, window_of}
use Rattle.memory.proofs.Stretches.{block_within, read_within, set_within, put_within}
use Rattle.std.proofs.lemmas.Nat.{mul-le}

module _ (m : Model) (s : Sound m) (first count : ℕ) where
  -- what is shown lies within the bytes below, where anything is
  pub shown_within : 0 < shown m first count → first * m.unit + shown m first count * m.unit ≤ length m.bytes
  shown_within some =
      let u = m.unit in
      let k = shown m first count in
      let l : (first + k) * u ≤ count_of m * u = mul-le (first + k) u (count_of m) u (omega arith) (omega arith) in
      let e : (first + k) * u ≡ first * u + k * u = add-mul first k u in
      let w = s.whole in
      omega arith

module _ (m : Model) (s : Sound m) (first count n : ℕ) (there : n < shown m first count) where
  pub window_lock : lock_at (window_of m first count) n ≡ lock_at m (first + n)
  window_lock = get_or-take (shown m first count) (drop first m.locks) n false there ∙ get_or-drop first m.locks n false

  pub window_block : block_at (window_of m first count) n ≡ block_at m (first + n)
  window_block =
      let u = m.unit in
      let k = shown m first count in
      read_within m.bytes (first * u) (k * u) (n * u) u (block_within n k u there) ∙ ap (λ at. take u (drop at m.bytes)) (sym (add-mul first n u))

  pub window_put : (bs : List ℕ) → length bs ≡ m.unit → window_of (with_block m (first + n) bs) first count ≡ with_block (window_of m first count) n bs
  window_put bs e =
      let u = m.unit in
      let k = shown m first count in
      let b = block_within n k u there in
      let w = shown_within m s first count (omega arith) in
      let same : take (k * u) (drop (first * u) (put_at ((first + n) * u) bs m.bytes)) ≡ put_at (n * u) bs (take (k * u) (drop (first * u) m.bytes)) =
      ap (λ at. take (k * u) (drop (first * u) (put_at at bs m.bytes))) (add-mul first n u) ∙ put_within m.bytes (first * u) (k * u) (n * u) bs (omega arith) w
      in
      ap (λ bs'. record { unit = u; bytes = bs'; locks = take k (drop first m.locks) }) same

  pub window_set : window_of (with_lock m (first + n)) first count ≡ with_lock (window_of m first count) n
  window_set =
      let u = m.unit in
      let k = shown m first count in
      let count' : shown (with_lock m (first + n)) first count ≡ k = ap (λ len. min count (len - first)) (length-set m.locks (first + n) true) in
      let same : take k (drop first (slice_set m.locks (first + n) true)) ≡ slice_set (take k (drop first m.locks)) n true = set_within m.locks first k n true there in
      ap (λ c. record { unit = u; bytes = take (c * u) (drop (first * u) m.bytes); locks = take c (drop first (slice_set m.locks (first + n) true)) }) count' ∙ ap (λ ls. record { unit = u; bytes = take (k * u) (drop (first * u) m.bytes); locks = ls }) same

-- what the window answers where the memory below answers so: that one refuses a block that is there for its lock alone
abbrev pub told : ℕ → Result (Unit {0}) MemoryRefusal → Result (Unit {0}) MemoryRefusal
told n (Ok v) = Ok tt
told n (Err e) = Err (Locked n)

module _ (m : Model) (s : Sound m) (first count n : ℕ) (there : n < shown m first count) where
  pub window_writes : (m' : Model) (bs : List ℕ) (r : Result (Unit {0}) MemoryRefusal) → length bs ≡ m.unit → Writes m m' (first + n) bs r → Writes (window_of m first count) (window_of m' first count) n bs (told n r)
  window_writes m' bs (Ok v) e t =
      let lock = window_lock m s first count n there in
      record {
        answer = let a = t.answer in grind (arith, common_steps);
        left = ap (λ w. window_of w first count) t.left ∙ window_put m s first count n there bs e;
      }
  window_writes m' bs (Err x) e t =
      let lock = window_lock m s first count n there in
      record {
        answer = let a = t.answer in grind (arith, common_steps);
        left = ap (λ w. window_of w first count) t.left;
      }
