-- How long a tag stays in reach: endless, or a number of half exchanges.
use Rattle.std.specs.Prelude.{ℕ, ◌-◌, Bool, true, nat_lt, List, codes}
use Rattle.std.specs.Fmt.{decimal}
use Rattle.field.specs.declared.span.Span.{Span}
use Rattle.field.specs.declared.span.Span.TheVariants.{Endless, Left}

-- after an exchange a number falls by two, or to 0
abbrev pub fallen : Span → Span
fallen Endless = Endless
fallen (Left n) = Left (n - 2)

-- at 0 a tag gets no frame
abbrev pub reaches : Span → Bool
reaches Endless = true
reaches (Left n) = nat_lt 0 n

-- at 1 it gets the frame, and its answer is lost
abbrev pub answers : Span → Bool
answers Endless = true
answers (Left n) = nat_lt 1 n

-- what it is printed as
abbrev pub span_text : Span → List ℕ
span_text Endless = codes "endless"
span_text (Left n) = decimal n
