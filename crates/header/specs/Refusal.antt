-- The refusals of records: the number of each, and the place that it names.
use Rattle.std.specs.Prelude.{ℕ}
use Rattle.header.specs.declared.refusal.RecordRefusal.{RecordRefusal}
use Rattle.header.specs.declared.refusal.RecordRefusal.TheVariants.{SpaceShort, BadHeader, BadDescription}

abbrev pub number_of : RecordRefusal → ℕ
number_of SpaceShort = 4
number_of (BadHeader place) = 30
number_of (BadDescription index) = 31

-- the bad header's place in its message, or the bad description's index
abbrev pub place_of : RecordRefusal → ℕ
place_of SpaceShort = 0
place_of (BadHeader place) = place
place_of (BadDescription index) = index
