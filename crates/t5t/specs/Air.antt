-- The air, of a field and an answer space.
use Rattle.std.specs.Prelude.{ℕ, List}
use Rattle.field.specs.Placed.{Placed}
use Rattle.procedure.specs.Procedure.{Air}

abbrev pub air_of : {F : Type 0} → (F → List Placed) → F → List ℕ → Air
air_of tags field space = record { tags = tags field; space = space }
