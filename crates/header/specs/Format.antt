-- The type name format (TNF) of a record: the three bits of each, and the lengths that each allows.
use Rattle.std.specs.Prelude.{Bool, true, false, if◌then◌else◌, ◌&&◌, ℕ, ◌==◌}
use Rattle.std.specs.Int.Bits.{bit_and}
use Rattle.header.specs.declared.format.Format.{Format}
use Rattle.header.specs.declared.format.Format.TheVariants.{Empty, WellKnown, Media, Uri, External, Unknown, Unchanged, Reserved}

-- the three bits of each format
abbrev pub number : Format → ℕ
number Empty = 0
number WellKnown = 1
number Media = 2
number Uri = 3
number External = 4
number Unknown = 5
number Unchanged = 6
number Reserved = 7

-- the format whose bits are n
abbrev pub format_at : ℕ → Format
format_at n =
    if n == 0 then Empty else if n == 1 then WellKnown else if n == 2 then Media else if n == 3 then Uri else if n == 4 then External else if n == 5 then Unknown else if n == 6 then Unchanged else Reserved

-- the format that a header's first byte names, in its low three bits
abbrev pub format_of : ℕ → Format
format_of flags = format_at (bit_and flags 0x07)

-- which lengths of type, ID and payload a record of each format may have: an empty record has nothing, one of unknown
-- type has no type, and formats 6 and 7 stand in no whole record
abbrev pub allows : Format → ℕ → ℕ → ℕ → Bool
allows Empty kind id payload = kind == 0 && id == 0 && payload == 0
allows WellKnown kind id payload = true
allows Media kind id payload = true
allows Uri kind id payload = true
allows External kind id payload = true
allows Unknown kind id payload = kind == 0
allows Unchanged kind id payload = false
allows Reserved kind id payload = false
