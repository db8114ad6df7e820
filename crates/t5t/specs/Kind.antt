-- What the T of a TLV says: FEh ends the TLVs, 03h is the message, and any other is skipped.
use Rattle.std.specs.Prelude.{ℕ, if◌then◌else◌, ◌==◌}
use Rattle.t5t.specs.declared.kind.Kind.{Kind}
use Rattle.t5t.specs.declared.kind.Kind.TheVariants.{Terminator, Message, Other}

abbrev pub kind_of : ℕ → Kind
kind_of t = if t == 0xFE then Terminator else if t == 0x03 then Message else Other
