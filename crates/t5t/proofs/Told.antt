-- What the kind of a TLV says of its T. Assumes nothing.
use Rattle.std.proofs.Common.{◌≡◌, ℕ, arith}
use Rattle.t5t.specs.declared.kind.Kind.TheVariants.{Terminator, Message, Other}
use Rattle.t5t.specs.Kind.{kind_of}

pub terminates : (t : ℕ) → kind_of t ≡ Terminator → t ≡ 0xFE
terminates t e = grind arith

pub is_message : (t : ℕ) → kind_of t ≡ Message → t ≡ 0x03
is_message t e = grind arith

pub goes_on : (t : ℕ) → kind_of t ≡ Message → t ≡ 0xFE → ⊥
goes_on t e = grind arith

pub is_other : (t : ℕ) → kind_of t ≡ Other → (t ≡ 0xFE → ⊥) × (t ≡ 0x03 → ⊥)
is_other t e = grind arith
