-- The walk over a tag's TLVs, to its message.
use Rattle.std.specs.Prelude.{ℕ, zero, suc, ◌+◌, ◌-◌, if◌then◌else◌, Ok, Err, Result, ◌==◌, nat_le, nat_lt}
use Rattle.shown.specs.declared.container.Container.{Container}
use Rattle.shown.specs.declared.container.Place.{Place}
use Rattle.shown.specs.declared.flaw.Flaw.{Flaw}
use Rattle.shown.specs.declared.flaw.Flaw.TheVariants.{Malformed, NoMessage}
use Rattle.shown.specs.declared.value.Value.{Value}
use Rattle.shown.specs.Asks.{Asks, done, and_then, just_byte, two_as}

-- a value that ends at the end of the TLVs is whole; one that passes it is not
abbrev pub whole : ℕ → ℕ → ℕ → Result Value Flaw
whole end at long = if nat_le (at + long) end then Ok (record { at = at; long = long }) else Err Malformed

-- a byte, unless it stands at the end or past it
abbrev pub before : ℕ → ℕ → Asks (Result ℕ Flaw)
before end a = if nat_lt a end then just_byte a else done (Err Malformed)

-- two bytes, the most significant first
abbrev pub low_byte : ℕ → ℕ → ℕ → Asks (Result ℕ Flaw)
low_byte end a high = and_then (before end a) (two_as high)

abbrev pub two_bytes : ℕ → ℕ → Asks (Result ℕ Flaw)
two_bytes end a = and_then (before end a) (low_byte end (a + 1))

-- behind FFh stand two bytes of length; FFFFh is none
abbrev pub long_as : ℕ → ℕ → ℕ → Asks (Result Value Flaw)
long_as end a long = done (if long == 0xFFFF then Err Malformed else whole end a long)

abbrev pub long_length : ℕ → ℕ → Asks (Result Value Flaw)
long_length end a = and_then (two_bytes end a) (long_as end (a + 2))

-- the L-field of the TLV at p: one byte from 00h to FEh, or FFh and two bytes
abbrev pub length_as : ℕ → ℕ → ℕ → Asks (Result Value Flaw)
length_as end p l = if l == 0xFF then long_length end (p + 2) else done (whole end (p + 2) l)

abbrev pub length_field : ℕ → ℕ → Asks (Result Value Flaw)
length_field end p = and_then (before end (p + 1)) (length_as end p)

-- behind the L-field of a TLV of type T at a: T = 03h is the message, any other is skipped with its value, and the walk
-- goes on
abbrev pub behind : (ℕ → Asks (Result Place Flaw)) → Container → ℕ → ℕ → Value → Asks (Result Place Flaw)
behind on c a t v = if t == 0x03 then done (Ok (record { container = c; at = a })) else on (v.at + v.long)

-- behind the T of a TLV at a: FEh ends the walk
abbrev pub typed : (ℕ → Asks (Result Place Flaw)) → Container → ℕ → ℕ → Asks (Result Place Flaw)
typed on c a t = if t == 0xFE then done (Err NoMessage) else and_then (length_field c.end a) (behind on c a t)

-- from a TLV at a on; at the end there is no message. Each TLV has two bytes at least, so there are fewer than bytes
abbrev pub walk_from : ℕ → Container → ℕ → Asks (Result Place Flaw)
walk_from zero c a = done (Err NoMessage)
walk_from (suc k) c a =
    if nat_lt a c.end then and_then (just_byte a) (typed (walk_from k c) c a) else done (Err NoMessage)

abbrev pub walk : Container → Asks (Result Place Flaw)
walk c = walk_from (c.end - c.begin) c c.begin
