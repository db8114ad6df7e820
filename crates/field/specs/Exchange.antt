-- One exchange: what each tag makes of the frame, and what is heard.
use Rattle.std.specs.Prelude.{◌≡◌, ℕ, ◌<◌, ◌≤◌, if◌then◌else◌, List, [], ◌∷◌, map, length, Some, None, Ok, Err, Option, Result}
use Rattle.std.specs.List.{flat_map}
use Rattle.std.specs.Option.{option_to_list}
use Rattle.space.specs.Space.{laid}
use Rattle.tag.specs.declared.refusal.TagRefusal.{TagRefusal}
use Rattle.tag.specs.declared.refusal.TagRefusal.TheVariants.{AnswerSpaceShort}
use Rattle.tag.specs.Means.{longest}
use Rattle.tag.specs.Rules.{turn}
use Rattle.field.specs.declared.heard.Heard.{Heard}
use Rattle.field.specs.declared.heard.Heard.TheVariants.{Nothing, One, Several}
use Rattle.field.specs.Placed.{Placed}
use Rattle.field.specs.Span.{fallen, reaches, answers}

-- a tag after the frame
unfoldable pub hears : List ℕ → Placed → Placed
hears f p =
    record { tag = if reaches p.span then (turn p.tag f).after else p.tag; span = fallen p.span }

-- its answer, if it has one that comes back
unfoldable pub says : List ℕ → Placed → List (List ℕ)
says f p = if answers p.span then option_to_list (turn p.tag f).says else []

-- the answers of a list of tags, in order
unfoldable pub heard_from : List ℕ → List Placed → List (List ℕ)
heard_from f ps = flat_map (says f) ps

-- each answer is laid over the front of the space, the later over the earlier
abbrev pub laid_all : List (List ℕ) → List ℕ → List ℕ
laid_all [] space = space
laid_all (a ∷ more) space = laid_all more (laid a space)

-- none, one or several
abbrev pub heard_of : List (List ℕ) → Heard
heard_of [] = Nothing
heard_of (a ∷ []) = One (length a)
heard_of (a ∷ b ∷ more) = Several

-- a number of bytes, or silence, as it is heard
abbrev pub heard_by : Option ℕ → Heard
heard_by None = Nothing
heard_by (Some n) = One n

abbrev pub together : Heard → Heard → Heard
together Nothing h = h
together (One n) Nothing = One n
together (One n) (One m) = Several
together (One n) Several = Several
together Several h = Several

-- the whole effect: every tag in order, what is heard, and the space
pub record Exchange (ts ts' : List Placed) (f space space' : List ℕ) (h : Heard) : Type 0 where
  pub after : ts' ≡ map (hears f) ts
  pub heard : h ≡ heard_of (heard_from f ts)
  pub left : space' ≡ laid_all (heard_from f ts) space

-- a short space is refused before any tag hears
abbrev pub Exchanged : List Placed → List Placed → List ℕ → List ℕ → List ℕ → Result Heard TagRefusal → Type 0
Exchanged ts ts' f space space' (Ok h) = (longest ≤ length space) × Exchange ts ts' f space space' h
Exchanged ts ts' f space space' (Err e) = (length space < longest) × (e ≡ AnswerSpaceShort) × (ts' ≡ ts) × (space' ≡ space)
