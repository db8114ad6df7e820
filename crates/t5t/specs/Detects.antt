-- What a detection owes.
use Rattle.std.specs.Prelude.{◌≡◌, ℕ, ◌<◌, ◌≤◌, ◌⊎◌, length, Ok, Err, Result}
use Rattle.memory.specs.declared.block_length.BlockLength.{BlockLength}
use Rattle.tag.specs.Means.{longest}
use Rattle.procedure.specs.Procedure.{Air, Performs}
use Rattle.shown.specs.declared.container.Place.{Place}
use Rattle.refusal.specs.declared.cause.Cause.TheVariants.{AnswerSpaceShort}
use Rattle.t5t.specs.declared.session.Session.{Session}
use Rattle.t5t.specs.declared.detection.Found.{Found}
use Rattle.t5t.specs.declared.detection.NotFound.{NotFound}
use Rattle.refusal.specs.declared.refusal.Refusal.{Refusal}
use Rattle.refusal.specs.declared.step.Step.TheVariants.{Before}
use Rattle.t5t.specs.declared.stop.Stop.{Stop}
use Rattle.t5t.specs.Detection.{detection}

-- what a session says of its tag
abbrev pub place_of : {S : Type 0} → Session S → BlockLength × Place
place_of s = (s.unit, s.place)

abbrev pub stop_of : Refusal → Stop
stop_of r = record { cause = r.cause; step = r.step; block = r.block }

-- a short answer space is refused before all else, and nothing has changed
pub record TooShort (a b : Air) (r : Refusal) : Type 0 where
  pub short : length a.space < longest
  pub refusal : r ≡ record { cause = AnswerSpaceShort; step = Before; block = 0; exchanges = 0 }
  pub same : b ≡ a

-- the session, or the refusal and the sighted tag; the air and the number of exchanges are the procedure's
abbrev pub Detects : ℕ → Air → Air → Result Found NotFound → Type 0
Detects u a b (Ok f) =
    (longest ≤ length a.space) × (f.session.uid.0 ≡ u) × Performs (detection u) a b (Ok (place_of f.session)) 0 f.exchanges
Detects u a b (Err x) =
    (x.session.uid.0 ≡ u) × (TooShort a b x.refusal ⊎ ((longest ≤ length a.space) × Performs (detection u) a b (Err (stop_of x.refusal)) 0 x.refusal.exchanges))
