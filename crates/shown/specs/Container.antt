-- The capability container: where the TLVs of a tag begin and end, and what it lets a gate do.
use Rattle.std.specs.Prelude.{ℕ, ◌+◌, ◌*◌, Bool, true, false, if◌then◌else◌, ◌&&◌, ◌||◌, Ok, Err, Result, ◌==◌, bit_and, nat_le}
use Rattle.shown.specs.declared.container.Container.{Container}
use Rattle.shown.specs.declared.flaw.Flaw.{Flaw}
use Rattle.shown.specs.declared.flaw.Flaw.TheVariants.{NotNdef, NotReadable, TooLong}
use Rattle.shown.specs.declared.header.Header.{Header}
use Rattle.shown.specs.Asks.{Asks, done, byte, and_then, just_byte, two_as}

-- E1h or E2h, and version 1.0: 0100b in b7 to b4
abbrev pub is_ndef : Header → Bool
is_ndef h = (h.magic == 0xE1 || h.magic == 0xE2) && bit_and h.access 0xF0 == 0x40

-- read access is b3b2, and 00b is free
abbrev pub is_readable : Header → Bool
is_readable h = bit_and h.access 0x0C == 0

-- first what it is, then whether it may be read
abbrev pub checked : Header → Result Header Flaw
checked h = if is_ndef h then if is_readable h then Ok h else Err NotReadable else Err NotNdef

-- under E1h there are at most 256 blocks, under E2h 65,536
abbrev pub limit : Header → ℕ → ℕ
limit h unit = if h.magic == 0xE1 then 256 * unit else 65536 * unit

-- the TLVs begin behind the container, of four bytes or, in its long form, eight
abbrev pub begin_of : Bool → ℕ
begin_of long = if long then 8 else 4

-- MLEN counts eight bytes each
abbrev pub container_of : Header → Bool → ℕ → Container
container_of h long mlen = record { header = h; begin = begin_of long; end = begin_of long + 8 * mlen }

abbrev pub bounded : Header → ℕ → Bool → ℕ → Result Container Flaw
bounded h unit long mlen = if nat_le (begin_of long + 8 * mlen) (limit h unit) then Ok (container_of h long mlen) else Err TooLong

abbrev pub header : Asks (Result Header Flaw)
header =
    byte 0 (λ magic. byte 1 (λ access. byte 2 (λ mlen. byte 3 (λ features. done (checked (record { magic = magic; access = access; mlen = mlen; features = features }))))))

-- where MLEN is 00h in the header, the container has its long form, with MLEN in its last two bytes
abbrev pub mlen_low : ℕ → Asks (Result ℕ Flaw)
mlen_low high = and_then (just_byte 7) (two_as high)

abbrev pub long_mlen : Asks (Result ℕ Flaw)
long_mlen = and_then (just_byte 6) mlen_low

abbrev pub long_form : ℕ → Header → ℕ → Asks (Result Container Flaw)
long_form unit h mlen = done (bounded h unit true mlen)

abbrev pub sized : ℕ → Header → Asks (Result Container Flaw)
sized unit h = if h.mlen == 0 then and_then long_mlen (long_form unit h) else done (bounded h unit false h.mlen)

abbrev pub container : ℕ → Asks (Result Container Flaw)
container unit = and_then header (sized unit)
