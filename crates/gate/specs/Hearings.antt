-- What a frame does with the tags of a rehearsal, and what is answered.
use Rattle.std.specs.Prelude.{◌≡◌, ℕ, List, [], ◌∷◌, map, take}
use Rattle.std.specs.Global.{Vec}
use Rattle.field.specs.declared.heard.Heard.{Heard}
use Rattle.field.specs.declared.heard.Heard.TheVariants.{Nothing, One, Several}
use Rattle.field.specs.Exchange.{hears, heard_from}
use Rattle.gate.specs.declared.answer.Answer.{Answer}
use Rattle.gate.specs.declared.answer.Answer.TheVariants.{Silence, OneAnswer, SeveralAnswers}
use Rattle.gate.specs.declared.tags.Tags.{Tags}
use Rattle.gate.specs.Tagged.{placed}

-- what was heard, with the one answer from the front of the space
abbrev pub Tells : Heard → List ℕ → Answer → Type 0
Tells Nothing space a = a ≡ Silence
Tells (One n) space a = (v : Vec ℕ) × (a ≡ OneAnswer v) × (v.items ≡ take n space)
Tells Several space a = a ≡ SeveralAnswers

-- none of the answers that came back, the only one, or that there were several
abbrev pub Told : List (List ℕ) → Answer → Type 0
Told [] a = a ≡ Silence
Told (x ∷ []) a = (v : Vec ℕ) × (a ≡ OneAnswer v) × (v.items ≡ x)
Told (x ∷ y ∷ more) a = a ≡ SeveralAnswers

-- each tag in order hears the frame as its span lets it, and those answers that come back are told
pub record Hearing (old new : Tags) (frame : List ℕ) (a : Answer) : Type 0 where
  pub after : placed new ≡ map (hears frame) (placed old)
  pub told : Told (heard_from frame (placed old)) a
