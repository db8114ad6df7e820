-- The listed block lengths: 4, 8, 16 and 32 bytes.
use Rattle.std.specs.Prelude.{ℕ, ◌/◌, min, if◌then◌else◌, Ok, Err, Result, ◌==◌}
use Rattle.memory.specs.declared.block_length.BlockLength.{BlockLength}
use Rattle.memory.specs.declared.block_length.BlockLength.TheVariants.{Four, Eight, Sixteen, ThirtyTwo}
use Rattle.memory.specs.declared.refusal.MemoryRefusal.{MemoryRefusal}
use Rattle.memory.specs.declared.refusal.MemoryRefusal.TheVariants.{NotListed}

abbrev pub bytes_of : BlockLength → ℕ
bytes_of Four = 4
bytes_of Eight = 8
bytes_of Sixteen = 16
bytes_of ThirtyTwo = 32

-- the block length of a number, or the refusal
abbrev pub listed : ℕ → Result BlockLength MemoryRefusal
listed n =
    if n == 4 then Ok Four else if n == 8 then Ok Eight else if n == 16 then Ok Sixteen else if n == 32 then Ok ThirtyTwo else Err NotListed

-- how many whole blocks the bytes have, and at most so many
abbrev pub whole_blocks : ℕ → ℕ → ℕ → ℕ
whole_blocks u bytes most = min (bytes / u) most
