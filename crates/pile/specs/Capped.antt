-- A field that goes out of reach: each span is at most a number.
use Rattle.std.specs.Prelude.{ℕ, min}
use Rattle.field.specs.declared.span.Span.{Span}
use Rattle.field.specs.declared.span.Span.TheVariants.{Endless, Left}
use Rattle.field.specs.Placed.{Placed}

-- the smaller of a span and a number
abbrev pub capped : ℕ → Span → Span
capped s Endless = Left s
capped s (Left n) = Left (min n s)

-- the same tag, for so much longer at most
abbrev pub capped_at : ℕ → Placed → Placed
capped_at s p = record { tag = p.tag; span = capped s p.span }
