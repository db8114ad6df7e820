-- The code's view of a description: the fields that it names.
use Rattle.std.specs.Prelude.{◌≡◌, ℕ, true, List}
use Rattle.composer.specs.declared.description.Description.{Description}
use Rattle.composer.specs.declared.description.Extent.{Extent}
use Rattle.composer.specs.declared.fields.Fields.{Fields}
use Rattle.composer.specs.Composing.{field_of, described, inside, sound}
use Rattle.composer.specs.Fields.{content_of}

-- the bytes are those of an extent inside the store
pub record Names (store : List ℕ) (x : Extent) (bs : List ℕ) : Type 0 where
  pub inside : inside store x ≡ true
  pub bytes : bs ≡ field_of store x

-- the fields are those of a good description
pub record Describes (store : List ℕ) (d : Description) (f : Fields) : Type 0 where
  pub sound : sound store d ≡ true
  pub content : content_of f ≡ described store d
