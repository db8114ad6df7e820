-- A record's header: what each bit of its first byte says, and how long its fixed part is.
use Rattle.std.specs.Prelude.{Bool, if◌then◌else◌, not, ℕ, ◌+◌, ◌==◌}
use Rattle.std.specs.Int.Bits.{bit_and}

-- MB: the first record of its message
abbrev pub mb : ℕ
mb = 0x80

-- ME: the last one
abbrev pub me : ℕ
me = 0x40

-- CF: a chunk of a record
abbrev pub cf : ℕ
cf = 0x20

-- SR: a short record, with a payload length of one byte; without it, of four
abbrev pub sr : ℕ
sr = 0x10

-- IL: an ID length is there
abbrev pub il : ℕ
il = 0x08

-- that bit of the first byte is set
abbrev pub has : ℕ → ℕ → Bool
has bit flags = not (bit_and flags bit == 0)

-- the length of the fixed part: flags, type length, payload length, and the ID length where there is one
abbrev pub fixed : ℕ → ℕ
fixed flags = 2 + (if has sr flags then 1 else 4) + (if has il flags then 1 else 0)
