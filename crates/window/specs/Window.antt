-- What a window means: a run of the blocks of the memory below.
use Rattle.std.specs.Prelude.{ℕ, ◌-◌, ◌*◌, min, take, drop}
use Rattle.memory.specs.Model.{Model, count_of}

-- how many blocks the window shows: its own count, or up to where the memory below ends
abbrev pub shown : Model → ℕ → ℕ → ℕ
shown m first count = min count (count_of m - first)

-- the blocks from the first on
abbrev pub window_of : Model → ℕ → ℕ → Model
window_of m first count = record { unit = m.unit; bytes = take (shown m first count * m.unit) (drop (first * m.unit) m.bytes); locks = take (shown m first count) (drop first m.locks) }
