-- Reading: the L-field again, and then the value, block by block.
use Rattle.std.specs.Prelude.{ℕ, zero, suc, ◌+◌, ◌-◌, ◌/◌, ◌%◌, min, if◌then◌else◌, List, [], ◌++◌, take, drop, Some, None, Ok, Err, Option, Result, ◌==◌, nat_lt}
use Rattle.procedure.specs.Procedure.{Procedure, answer, bind}
use Rattle.shown.specs.declared.value.Value.{Value}
use Rattle.shown.specs.Walk.{length_field}
use Rattle.refusal.specs.declared.cause.Cause.{Cause}
use Rattle.refusal.specs.declared.cause.Cause.TheVariants.{Empty, MessageSpaceShort}
use Rattle.t5t.specs.declared.kept.Kept.{Kept}
use Rattle.refusal.specs.declared.step.Step.TheVariants as Step
use Rattle.t5t.specs.declared.stop.Stop.{Stop}
use Rattle.t5t.specs.Asking.{block_of, asking, last_of}

-- a reading that breaks off: where and why, and the bytes that it has got
pub record Break : Type 0 where
  pub stop : Stop
  pub got : List ℕ

-- how many bytes the block at an address has from there on, of those that are left
abbrev pub chunk : ℕ → ℕ → ℕ → ℕ
chunk unit a left = min (unit - a % unit) left

-- what is taken of it
abbrev pub chunk_of : ℕ → ℕ → ℕ → Kept → List ℕ
chunk_of unit a left k = take (chunk unit a left) (drop (a % unit) k.bytes)

-- with a block that was had, or not
abbrev pub or_break : List ℕ → (Kept → Procedure (Result (List ℕ) Break)) → Result Kept Stop → Procedure (Result (List ℕ) Break)
or_break got next (Ok k) = next k
or_break got next (Err s) = answer (Err (record { stop = s; got = got }))

-- the bytes that are left from an address on, behind those that were got; each block has one at least
abbrev pub copying : ℕ → ℕ → ℕ → Option Kept → ℕ → ℕ → List ℕ → Procedure (Result (List ℕ) Break)
copying zero u unit k a left got = answer (Ok got)
copying (suc fuel) u unit k a left got =
    if left == 0 then answer (Ok got) else bind (block_of Step.Read u unit k (a / unit)) (or_break got (λ b. copying fuel u unit (Some b) (a + chunk unit a left) (left - chunk unit a left) (got ++ chunk_of unit a left b)))

-- what the L-field makes of it: an empty message is refused, then a space that is too short
abbrev pub refused_at : Option Kept → Cause → Procedure (Result (List ℕ) Break)
refused_at k c = answer (Err (record { stop = record { cause = c; step = Step.Walk; block = last_of k }; got = [] }))

abbrev pub copied : ℕ → ℕ → ℕ → Value × Option Kept → Procedure (Result (List ℕ) Break)
copied u unit room v =
    if v.0.long == 0 then refused_at v.1 Empty else if nat_lt room v.0.long then refused_at v.1 (MessageSpaceShort v.0.long) else copying v.0.long u unit v.1 v.0.at v.0.long []

abbrev pub or_broken : (Value × Option Kept → Procedure (Result (List ℕ) Break)) → Result (Value × Option Kept) Stop → Procedure (Result (List ℕ) Break)
or_broken next (Ok v) = next v
or_broken next (Err s) = answer (Err (record { stop = s; got = [] }))

-- of the message TLV at an address, into a space with so much room
abbrev pub reading_from : Option Kept → ℕ → ℕ → ℕ → ℕ → ℕ → Procedure (Result (List ℕ) Break)
reading_from k u unit end at room = bind (asking Step.Walk u unit k (length_field end at)) (or_broken (copied u unit room))

-- a call starts with no block kept
abbrev pub reading : ℕ → ℕ → ℕ → ℕ → ℕ → Procedure (Result (List ℕ) Break)
reading u unit end at room = reading_from None u unit end at room
