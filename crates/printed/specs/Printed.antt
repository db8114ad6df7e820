-- What the printed image means: the whole blocks of its bytes, each of them locked.
use Rattle.std.specs.Prelude.{ℕ, ◌*◌, true, List, length, take, replicate}
use Rattle.memory.specs.BlockLength.{whole_blocks}
use Rattle.memory.specs.Model.{Model}

-- how many whole blocks the bytes have
abbrev pub printed_count : ℕ → List ℕ → ℕ
printed_count u bytes = whole_blocks u (length bytes) 65536

-- the memory over an image
abbrev pub printed_of : ℕ → List ℕ → Model
printed_of u bytes = record { unit = u; bytes = take (printed_count u bytes * u) bytes; locks = replicate (printed_count u bytes) true }
