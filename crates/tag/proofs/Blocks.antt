-- Blocks of a memory, for any block length. Assumes nothing.
use Rattle.std.proofs.Common.{◌≡◌, ℕ, zero, suc, ◌+◌, ◌-◌, ◌*◌, ◌<◌, ◌≤◌, Bool, true, false, List, [], ◌∷◌, ◌++◌, length, take, drop, set, Result, sym, ap, ◌∙◌, ⊎_elim, mul-le-mul_right, suc-mul, add-one, arith, length-append, length-drop, length-take-le}
use lib.Seq.{set_split, append_snoc}
use Rattle.std.proofs.lemmas.Bool.{cond-true, eq-eqb, lt-ltb}
use Rattle.memory.specs.Calls.{Reads, after}
use Rattle.memory.specs.Model.{Model, Sound, count_of, block_at, lock_at}
use Rattle.space.specs.Space.{put}
use Rattle.tag.specs.Rules.{block_from, blocks_from, lock_byte}

-- a block has at most 32 bytes
pub unit_low : (m : Model) → Sound m → m.unit ≤ 32
unit_low m s = ⊎_elim (λ e. omega arith) (⊎_elim (λ e. omega arith) (⊎_elim (λ e. omega arith) (λ e. omega arith))) s.unit

-- block n ends within the bytes
pub block_ends : (m : Model) (n : ℕ) → Sound m → n < count_of m → n * m.unit + m.unit ≤ length m.bytes
block_ends m n s h =
    let a : suc n * m.unit ≤ count_of m * m.unit = mul-le-mul_right m.unit h in
    let b = suc-mul n m.unit in
    let c = s.whole in
    omega arith

pub block_long : (m : Model) (n : ℕ) → Sound m → n < count_of m → length (block_at m n) ≡ m.unit
block_long m n s h =
    length-take-le m.unit (drop (n * m.unit) m.bytes) (let a = block_ends m n s h in let l = length-drop (n * m.unit) m.bytes in omega arith)

-- a block that is there is read into a space of its length
pub read-there : (m : Model) (n : ℕ) (part part' : List ℕ) (r : Result (Unit {0}) _) → Reads m n part part' r → length part ≡ m.unit → n < count_of m → part' ≡ block_at m n
read-there m n part part' r reads long h =
    reads.left ∙ ap (λ x. after x (block_at m n) part) (reads.answer ∙ cond-true _ _ _ (eq-eqb (length part) m.unit long) ∙ cond-true _ _ _ (lt-ltb n (count_of m) h))

-- one byte put at a place
pub put_one : (s : List ℕ) (at v : ℕ) → at < length s → set s at v ≡ put s at (v ∷ [])
put_one s at v h =
    set_split s at v h ∙ sym (append_snoc (take at s) v (drop (suc at) s)) ∙ ap (λ n. take at s ++ (v ∷ []) ++ drop n s) (sym (add-one at))

-- a block with its lock byte, and without
pub with_lock_lem : (m : Model) (of : Bool) (n : ℕ) → of ≡ true → block_from m of n ≡ (lock_byte (lock_at m n) ∷ []) ++ block_at m n
with_lock_lem m of n e = ap (λ b. block_from m b n) e

pub without_lock : (m : Model) (of : Bool) (n : ℕ) → of ≡ false → block_from m of n ≡ block_at m n
without_lock m of n e = ap (λ b. block_from m b n) e

pub from_low : (m : Model) (of : Bool) (n : ℕ) → Sound m → n < count_of m → length (block_from m of n) ≤ 33
from_low m true n s h = let a = block_long m n s h in let b = unit_low m s in omega arith
from_low m false n s h = let a = block_long m n s h in let b = unit_low m s in omega arith

-- the blocks from n up to the end, one at a time
pub blocks_more : (m : Model) (of : Bool) (n end : ℕ) → n < end → blocks_from m of n (end - n) ≡ block_from m of n ++ blocks_from m of (n + 1) (end - (n + 1))
blocks_more m of n end h = let a : end - n ≡ suc (end - (n + 1)) = omega arith in ap (blocks_from m of n) a

pub blocks-none : (m : Model) (of : Bool) (n end : ℕ) → end ≤ n → blocks_from m of n (end - n) ≡ []
blocks-none m of n end h = let a : end - n ≡ 0 = omega arith in ap (blocks_from m of n) a

-- k blocks take at most 33 bytes each
pub blocks_low : (m : Model) (of : Bool) (n k : ℕ) → Sound m → n + k ≤ count_of m → length (blocks_from m of n k) ≤ 33 * k
blocks_low m of n zero s h = omega arith
blocks_low m of n (suc k) s h =
    let a = from_low m of n s (omega arith) in
    let b = blocks_low m of (n + 1) k s (omega arith) in
    let c = length-append (block_from m of n) (blocks_from m of (n + 1) k) in
    omega arith
