-- What a tag shows, from its bytes and its block length alone.
use Rattle.std.specs.Prelude.{ℕ, ◌+◌, if◌then◌else◌, List, length, take, drop, Some, None, Ok, Err, Option, Result, nat_le}
use Rattle.memory.specs.Model.{Model}
use Rattle.shown.specs.declared.container.Place.{Place}
use Rattle.shown.specs.declared.flaw.Flaw.{Flaw}
use Rattle.shown.specs.declared.value.Value.{Value}
use Rattle.shown.specs.Asks.{Asks, over, and_then}
use Rattle.shown.specs.Container.{container}
use Rattle.shown.specs.Walk.{length_field, walk}

-- where the message TLV is
abbrev pub located : ℕ → Asks (Result Place Flaw)
located unit = and_then (container unit) walk

-- where its value is
abbrev pub valued : Place → Asks (Result Value Flaw)
valued p = length_field p.container.end p.at

-- the bytes of a value, none where they pass the memory
abbrev pub value_in : List ℕ → Value → Option (List ℕ)
value_in bytes v = if nat_le (v.at + v.long) (length bytes) then Some (take v.long (drop v.at bytes)) else None

abbrev pub message : List ℕ → Option (Result Value Flaw) → Option (List ℕ)
message bytes None = None
message bytes (Some (Err e)) = None
message bytes (Some (Ok v)) = value_in bytes v

-- the message, or nothing
abbrev pub shown : Model → Option (List ℕ)
shown m = message m.bytes (over m.bytes (and_then (located m.unit) valued))
