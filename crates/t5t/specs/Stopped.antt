-- The refusal of a call that stopped.
use Rattle.std.specs.Prelude.{ℕ}
use Rattle.refusal.specs.declared.refusal.Refusal.{Refusal}
use Rattle.t5t.specs.declared.stop.Stop.{Stop}

abbrev pub refusal_of : Stop → ℕ → Refusal
refusal_of s exchanges = record { cause = s.cause; step = s.step; block = s.block; exchanges = exchanges }
