-- The refusals of a memory: the number of each, and the block that was asked for.
use Rattle.std.specs.Prelude.{ℕ}
use Rattle.memory.specs.declared.refusal.MemoryRefusal.{MemoryRefusal}
use Rattle.memory.specs.declared.refusal.MemoryRefusal.TheVariants.{NotListed, WrongSpace, Absent, Locked}

abbrev pub number_of : MemoryRefusal → ℕ
number_of NotListed = 5
number_of (WrongSpace n) = 6
number_of (Absent n) = 7
number_of (Locked n) = 8

abbrev pub block_of : MemoryRefusal → ℕ
block_of NotListed = 0
block_of (WrongSpace n) = n
block_of (Absent n) = n
block_of (Locked n) = n
