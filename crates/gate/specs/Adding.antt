-- What comes of a tag that is to be added.
use Rattle.std.specs.Prelude.{◌≡◌, Ok, Err, Result}
use Rattle.memory.specs.declared.block_length.BlockLength.{BlockLength}
use Rattle.memory.specs.declared.refusal.MemoryRefusal.{MemoryRefusal}
use Rattle.gate.specs.declared.answer.Answer.{Answer}
use Rattle.gate.specs.declared.answer.Answer.TheVariants.{TagAdded, Refused}
use Rattle.gate.specs.declared.new_tag.NewTag.{NewTag}
use Rattle.gate.specs.declared.refused.Refusal.TheVariants.{OfMemory}
use Rattle.gate.specs.declared.tags.Tags.{Tags}
use Rattle.gate.specs.Tagged.{SameTags, WithNew, blank_placed}

-- it stands behind the others, or its block length is refused and the tags are as they were
abbrev pub Adding : NewTag → Result BlockLength MemoryRefusal → Tags → Tags → Answer → Type 0
Adding tag (Ok unit) old new a = (a ≡ TagAdded tag.uid) × WithNew (blank_placed tag unit) old new
Adding tag (Err e) old new a = (a ≡ Refused (OfMemory e)) × SameTags old new
