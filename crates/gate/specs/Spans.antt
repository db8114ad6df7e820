-- What a word says of a span.
use Rattle.std.specs.Prelude.{◌≡◌, ℕ, List, codes}
use Rattle.field.specs.declared.span.Span.{Span}
use Rattle.field.specs.declared.span.Span.TheVariants.{Endless, Left}
use Rattle.gate.specs.Digits.{spelled}

abbrev pub Spells : List ℕ → Span → Type 0
Spells word Endless = word ≡ codes "endless"
Spells word (Left n) = n ≡ spelled word
