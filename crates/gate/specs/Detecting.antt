-- What a detection does with a rehearsal.
use Rattle.std.specs.Prelude.{◌≡◌, ℕ, List, [], ◌∷◌, ◌++◌, Ok, Err, vec_len, Result}
use Rattle.t5t.specs.declared.detection.Found.{Found}
use Rattle.t5t.specs.declared.detection.NotFound.{NotFound}
use Rattle.t5t.specs.Detects.{Detects, place_of}
use Rattle.gate.specs.declared.answer.Answer.{Answer}
use Rattle.gate.specs.declared.answer.Answer.TheVariants as answer
use Rattle.gate.specs.declared.kept_session.KeptSession.{KeptSession}
use Rattle.gate.specs.declared.refused.Refusal.TheVariants.{OfDetection}
use Rattle.gate.specs.declared.rehearsal.Rehearsal.{Rehearsal}
use Rattle.gate.specs.declared.session.Session.TheVariants as session
use Rattle.gate.specs.Rehearsals.{SameSessions}
use Rattle.gate.specs.Sessions.{air_over, fresh_air}

-- with its number, its block length and where the message TLV lies
abbrev pub kept_as : ℕ → Found → KeptSession
kept_as k f = record { number = k; unit = (place_of f.session).0; place = (place_of f.session).1; exchanges = f.exchanges }

-- a session with what was found stands behind the others; a refusal keeps none
abbrev pub Finds : Result Found NotFound → Rehearsal → Rehearsal → Answer → Type 0
Finds (Ok f) old new a =
    (new.sessions.items ≡ old.sessions.items ++ session.Detected f.session ∷ []) × (a ≡ answer.SessionKept (kept_as (vec_len old.sessions) f))
Finds (Err x) old new a = SameSessions old new × (a ≡ answer.Refused (OfDetection x.refusal))

-- over the rack of tags, with an answer space of its own
pub record Detecting (u : ℕ) (old new : Rehearsal) (a : Answer) : Type 0 where
  pub result : Result Found NotFound
  pub space : List ℕ
  pub detects : Detects u (fresh_air old.tags) (air_over new.tags space) result
  pub finds : Finds result old new a
  pub desk : new.desk ≡ old.desk
