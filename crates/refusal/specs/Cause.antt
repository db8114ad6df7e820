-- The causes of refusals, and their numbers.
use Rattle.std.specs.Prelude.{ℕ}
use Rattle.field.specs.declared.answer.AnswerRefusal.{AnswerRefusal}
use Rattle.field.specs.declared.answer.AnswerRefusal.TheVariants as answer
use Rattle.shown.specs.declared.flaw.Flaw.{Flaw}
use Rattle.shown.specs.declared.flaw.Flaw.TheVariants as flaw
use Rattle.refusal.specs.declared.cause.Cause.{Cause}
use Rattle.refusal.specs.declared.cause.Cause.TheVariants.{AnswerSpaceShort, MessageSpaceShort, NotNdef, NoAccess, TooLong, Malformed, NoMessage, Empty, TagError, Lost, Several, NotUnderstood}

abbrev pub number_of : Cause → ℕ
number_of AnswerSpaceShort = 1
number_of (MessageSpaceShort n) = 2
number_of NotNdef = 10
number_of NoAccess = 11
number_of TooLong = 12
number_of Malformed = 13
number_of NoMessage = 14
number_of Empty = 15
number_of (TagError c) = 16
number_of Lost = 20
number_of Several = 21
number_of NotUnderstood = 22

-- of a tag that shows nothing
abbrev pub cause_of : Flaw → Cause
cause_of flaw.NotNdef = NotNdef
cause_of flaw.NotReadable = NoAccess
cause_of flaw.TooLong = TooLong
cause_of flaw.Malformed = Malformed
cause_of flaw.NoMessage = NoMessage

-- of an answer without data
abbrev pub cause_of_answer : AnswerRefusal → Cause
cause_of_answer (answer.TagError c) = TagError c
cause_of_answer answer.NotUnderstood = NotUnderstood
