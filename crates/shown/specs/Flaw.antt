-- The number of each reason why a tag shows nothing.
use Rattle.std.specs.Prelude.{ℕ}
use Rattle.shown.specs.declared.flaw.Flaw.{Flaw}
use Rattle.shown.specs.declared.flaw.Flaw.TheVariants.{NotNdef, NotReadable, TooLong, Malformed, NoMessage}

abbrev pub number_of : Flaw → ℕ
number_of NotNdef = 10
number_of NotReadable = 11
number_of TooLong = 12
number_of Malformed = 13
number_of NoMessage = 14
