-- The number of a tag's refusal.
use Rattle.std.specs.Prelude.{ℕ}
use Rattle.tag.specs.declared.refusal.TagRefusal.{TagRefusal}
use Rattle.tag.specs.declared.refusal.TagRefusal.TheVariants.{AnswerSpaceShort}

abbrev pub number_of : TagRefusal → ℕ
number_of AnswerSpaceShort = 1
