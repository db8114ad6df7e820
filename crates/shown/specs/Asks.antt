-- Looking into a memory byte by byte: which byte is asked for next, and what is made of it.
use Rattle.std.specs.Prelude.{ℕ, ◌+◌, ◌*◌, if◌then◌else◌, List, length, Some, None, Ok, Err, Option, Result, nat_lt, slice_index}

pub data Asks (V : Type 0) : Type 0 where
  done : V → Asks V
  byte : ℕ → (ℕ → Asks V) → Asks V

-- one after the other, unless the first one fails
abbrev pub and_then : {V W E : Type 0} → Asks (Result V E) → (V → Asks (Result W E)) → Asks (Result W E)
and_then (done (Ok v)) next = next v
and_then (done (Err e)) next = done (Err e)
and_then (byte a on) next = byte a (λ b. and_then (on b) next)

-- over the bytes of a memory; none where a byte outside it is asked for
abbrev pub over : {V : Type 0} → List ℕ → Asks V → Option V
over bytes (done v) = Some v
over bytes (byte a on) = if nat_lt a (length bytes) then over bytes (on (slice_index bytes a)) else None

-- one byte
abbrev pub just_byte : {E : Type 0} → ℕ → Asks (Result ℕ E)
just_byte a = byte a (λ b. done (Ok b))

-- two bytes as a number, the most significant first
abbrev pub two_as : {E : Type 0} → ℕ → ℕ → Asks (Result ℕ E)
two_as high low = done (Ok (256 * high + low))
