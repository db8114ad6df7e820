-- What was heard, as the reply that lies in the space.
use Rattle.std.specs.Prelude.{◌≡◌, ℕ, ◌≤◌, List, length, take, Ok, Err, Result}
use Rattle.std.specs.Borrow.{Bor}
use Rattle.field.specs.declared.heard.Heard.{Heard}
use Rattle.field.specs.declared.heard.Heard.TheVariants.{Nothing, One, Several}
use Rattle.procedure.specs.Procedure.{Reply, silence, one, several}
use Rattle.refusal.specs.declared.cause.Cause.{Cause}

-- one answer lies in the front of the space
abbrev pub reply_by : Heard → List ℕ → Reply
reply_by Nothing space = silence
reply_by (One n) space = one (take n space)
reply_by Several space = several

-- and all of it
abbrev pub InSpace : Heard → List ℕ → Type 0
InSpace Nothing space = Unit {0}
InSpace (One n) space = n ≤ length space
InSpace Several space = Unit {0}

-- what was received, as data that is lent or as a cause
abbrev pub Receives : Result (Bor (List ℕ)) Cause → Result (List ℕ) Cause → Type 0
Receives (Ok d) x = x ≡ Ok d.now
Receives (Err c) x = x ≡ Err c
