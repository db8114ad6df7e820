-- Parts of a call, one after the other, over one air. Assumes nothing.
use Rattle.std.proofs.Common.{◌∙◌}
use Rattle.field.specs.declared.field.Field as Field
use Rattle.t5t.specs.Calls.{SameAir}
use Rattle.t5t.specs.declared.call.Call.{Call}

pub same_then : {F : Type 0} {G : Field.Ghosts F} {c c' c'' : Call F G} → SameAir c c' → SameAir c' c'' → SameAir c c''
same_then x y = record { field = y.field ∙ x.field; space = y.space ∙ x.space }
