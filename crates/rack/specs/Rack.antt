-- The code's rack, as the list of its tags.
use Rattle.memory.specs.Model.{Model}
use Rattle.tag.specs.Means.{tag_of}
use Rattle.rack.specs.declared.rack.Slot.{Slot}
use Rattle.field.specs.Placed.{Placed}

abbrev pub placed_of : {M : Type 0} → (M → Model) → Slot M → Placed
placed_of model s = record { tag = tag_of model s.tag; span = s.span }
