-- What the bench memory means: the blocks that its bytes and its lock bytes both cover.
use Rattle.std.specs.Prelude.{ℕ, ◌*◌, min, Bool, not, List, map, length, take, ◌==◌}
use Rattle.bench.specs.declared.bench.Bench.{Bench}
use Rattle.memory.specs.BlockLength.{bytes_of, whole_blocks}
use Rattle.memory.specs.Model.{Model}

-- a lock byte 00h is open, and any other is locked
abbrev pub shut : ℕ → Bool
shut x = not (x == 0)

-- how many blocks both buffers cover
abbrev pub covered : ℕ → List ℕ → List ℕ → ℕ
covered u bytes locks = whole_blocks u (length bytes) (min (length locks) 65536)

-- the memory over two buffers
abbrev pub bench_of : ℕ → List ℕ → List ℕ → Model
bench_of u bytes locks = record { unit = u; bytes = take (covered u bytes locks * u) bytes; locks = map shut (take (covered u bytes locks) locks) }

abbrev pub bench_model : Bench → Model
bench_model b = bench_of (bytes_of b.unit) b.bytes.items b.locks.items
