-- A tag in a field: the tag, and its span.
use Rattle.std.specs.Prelude.{List, [], ◌∷◌}
use Rattle.std.specs.List.{AllByRecursion}
use Rattle.memory.specs.Model.{Sound}
use Rattle.tag.specs.Tag.{TagModel}
use Rattle.field.specs.declared.span.Span.{Span}
use Rattle.field.specs.declared.span.Span.TheVariants.{Endless}

pub record Placed : Type 0 where
  pub tag : TagModel
  pub span : Span

-- every tag of the list has a sound memory
abbrev pub SoundAll : List Placed → Type 0
SoundAll ps = AllByRecursion (λ p. Sound p.tag.memory) ps

-- one tag that stays for good
abbrev pub for_good : TagModel → List Placed
for_good t = record { tag = t; span = Endless } ∷ []
