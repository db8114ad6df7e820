-- What a memory means: a block length, its bytes, and a lock for each block.
use Rattle.std.specs.Prelude.{◌≡◌, ℕ, ◌*◌, ◌≤◌, Bool, true, false, ◌⊎◌, List, length, take, drop, slice_index_or, slice_set}
use Rattle.space.specs.Space.{put}

pub record Model : Type 0 where
  pub unit : ℕ
  pub bytes : List ℕ
  pub locks : List Bool

-- how many blocks there are
abbrev pub count_of : Model → ℕ
count_of m = length m.locks

-- a listed block length, at most 65,536 blocks, and the bytes of just so many
pub record Sound (m : Model) : Type 0 where
  pub unit : (m.unit ≡ 4) ⊎ ((m.unit ≡ 8) ⊎ ((m.unit ≡ 16) ⊎ (m.unit ≡ 32)))
  pub few : count_of m ≤ 65536
  pub whole : length m.bytes ≡ count_of m * m.unit

-- the bytes of block n
abbrev pub block_at : Model → ℕ → List ℕ
block_at m n = take m.unit (drop (n * m.unit) m.bytes)

abbrev pub lock_at : Model → ℕ → Bool
lock_at m n = slice_index_or m.locks n false

-- bytes put over those that stand at a place
abbrev pub put_at : ℕ → List ℕ → List ℕ → List ℕ
put_at at new old = put old at new

-- block n replaced whole
abbrev pub with_block : Model → ℕ → List ℕ → Model
with_block m n bs = record { unit = m.unit; bytes = put_at (n * m.unit) bs m.bytes; locks = m.locks }

-- block n locked
abbrev pub with_lock : Model → ℕ → Model
with_lock m n = record { unit = m.unit; bytes = m.bytes; locks = slice_set m.locks n true }
