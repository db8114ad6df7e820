-- What each call of a memory answers, and what it leaves: the first refusal that applies, or the work.
use Rattle.std.specs.Prelude.{◌≡◌, ℕ, Bool, if◌then◌else◌, List, length, Ok, Err, Result, ◌==◌, nat_lt}
use Rattle.memory.specs.declared.refusal.MemoryRefusal.{MemoryRefusal}
use Rattle.memory.specs.declared.refusal.MemoryRefusal.TheVariants.{WrongSpace, Absent, Locked}
use Rattle.memory.specs.Model.{Model, count_of, block_at, lock_at, with_block, with_lock}

-- a space that is not a block long is refused first
abbrev pub spaced : {A : Type 0} → Model → ℕ → List ℕ → Result A MemoryRefusal → Result A MemoryRefusal
spaced m n space rest = if length space == m.unit then rest else Err (WrongSpace n)

-- then a block that is not there
abbrev pub present : {A : Type 0} → Model → ℕ → Result A MemoryRefusal → Result A MemoryRefusal
present m n rest = if nat_lt n (count_of m) then rest else Err (Absent n)

-- then, for writing and locking, a locked one
abbrev pub unlocked : {A : Type 0} → Model → ℕ → Result A MemoryRefusal → Result A MemoryRefusal
unlocked m n rest = if lock_at m n then Err (Locked n) else rest

-- what is there where the call answered, and what is there where it refused
abbrev pub after : {A B : Type 0} → Result A MemoryRefusal → B → B → B
after (Ok a) done was = done
after (Err e) done was = was

abbrev pub TellsLock : Model → ℕ → Result Bool MemoryRefusal → Type 0
TellsLock m n r = r ≡ present m n (Ok (lock_at m n))

pub record Reads (m : Model) (n : ℕ) (space space' : List ℕ) (r : Result (Unit {0}) MemoryRefusal) : Type 0 where
  pub answer : r ≡ spaced m n space (present m n (Ok tt))
  pub left : space' ≡ after r (block_at m n) space

pub record Writes (m m' : Model) (n : ℕ) (bs : List ℕ) (r : Result (Unit {0}) MemoryRefusal) : Type 0 where
  pub answer : r ≡ spaced m n bs (present m n (unlocked m n (Ok tt)))
  pub left : m' ≡ after r (with_block m n bs) m

pub record Locks (m m' : Model) (n : ℕ) (r : Result (Unit {0}) MemoryRefusal) : Type 0 where
  pub answer : r ≡ present m n (unlocked m n (Ok tt))
  pub left : m' ≡ after r (with_lock m n) m
