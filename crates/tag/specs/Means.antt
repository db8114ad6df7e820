-- The code's tag, as what it means; and what each of its calls does.
use Rattle.std.specs.Prelude.{◌≡◌, ℕ, ◌+◌, ◌<◌, ◌≤◌, Bool, if◌then◌else◌, nat_lt, List, ◌∷◌, length, Some, None, Ok, Err, Option, Result}
use Rattle.std.specs.Option.{option_map}
use Rattle.memory.specs.declared.refusal.MemoryRefusal.{MemoryRefusal}
use Rattle.memory.specs.declared.refusal.MemoryRefusal.TheVariants.{Locked}
use Rattle.memory.specs.Model.{Model, count_of}
use Rattle.space.specs.Space.{laid}
use Rattle.request.specs.declared.error_code.ErrorCode.{ErrorCode}
use Rattle.request.specs.declared.error_code.ErrorCode.TheVariants.{Absent}
use Rattle.tag.specs.declared.tag.Tag.{Tag}
use Rattle.tag.specs.declared.refusal.TagRefusal.{TagRefusal}
use Rattle.tag.specs.declared.refusal.TagRefusal.TheVariants.{AnswerSpaceShort}
use Rattle.tag.specs.Rules.{Turn, blocks_from, turn}
use Rattle.tag.specs.Tag.{TagModel}

abbrev pub tag_of : {M : Type 0} → (M → Model) → Tag M → TagModel
tag_of model t = record { memory = model t.memory; uid = t.uid.0; state = t.state; marks = t.marks }

-- an answer lies over the front of the space; silence leaves it
abbrev pub laid_by : Option (List ℕ) → List ℕ → List ℕ
laid_by None space = space
laid_by (Some bs) space = laid bs space

-- a turn of the tag t, with the space as it was and as it is
pub record Takes (t t' : TagModel) (turn : Turn) (space space' : List ℕ) (r : Option ℕ) : Type 0 where
  pub after : t' ≡ turn.after
  pub answer : r ≡ option_map length turn.says
  pub left : space' ≡ laid_by turn.says space

-- the longest answer: 00h, and 32 blocks of 32 bytes with their lock bytes
abbrev pub longest : ℕ
longest = 1057

-- the refusal of a space that some answer does not fit in
abbrev pub room_in : List ℕ → Result (Unit {0}) TagRefusal
room_in space = if nat_lt (length space) longest then Err AnswerSpaceShort else Ok tt

-- a step: refused before anything is heard where the space is short, and else what the rules make of the frame
abbrev pub Steps : TagModel → TagModel → List ℕ → List ℕ → List ℕ → Result (Option ℕ) TagRefusal → Type 0
Steps t t' f space space' (Err e) = (length space < longest) × (e ≡ AnswerSpaceShort) × (t' ≡ t) × (space' ≡ space)
Steps t t' f space space' (Ok r) = (longest ≤ length space) × Takes t t' (turn t f) space space' r

-- the error that tells a memory's refusal of a change; it refuses a block that is locked under its own error
abbrev pub error_for : MemoryRefusal → ErrorCode → ErrorCode
error_for (Locked n) own = own
error_for _ own = Absent

-- a command on blocks that is carried out or not: what it answers behind 00h lies in the space, or nothing has changed
pub record Does (t t' : TagModel) (done : Result (TagModel × List ℕ) ErrorCode) (space space' : List ℕ) (n : ℕ) : Type 0 where
  pub answer : List ℕ
  pub carried : done ≡ Ok (t', answer)
  pub left : space' ≡ laid (0 ∷ answer) space
  pub long : n ≡ length (0 ∷ answer)

abbrev pub Works : TagModel → TagModel → Result (TagModel × List ℕ) ErrorCode → List ℕ → List ℕ → Result ℕ ErrorCode → Type 0
Works t t' done space space' (Ok n) = Does t t' done space space' n
Works t t' done space space' (Err e) = (done ≡ Err e) × (t' ≡ t) × (space' ≡ space)

-- blocks read into an answer, or refused where one is absent
abbrev pub ReadsInto : Model → Bool → ℕ → ℕ → List ℕ → List ℕ → Result ℕ ErrorCode → Type 0
ReadsInto m of n count space space' (Ok r) =
    (n + count ≤ count_of m) × (space' ≡ laid (0 ∷ blocks_from m of n count) space) × (r ≡ length (0 ∷ blocks_from m of n count))
ReadsInto m of n count space space' (Err e) = (count_of m < n + count) × (e ≡ Absent) × (space' ≡ space)
