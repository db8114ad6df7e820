-- What a reading does with a rehearsal.
use Rattle.std.specs.Prelude.{◌≡◌, ℕ, ◌<◌, List, take, replicate, Ok, Err, vec_len, Result}
use Rattle.std.specs.Global.{Vec}
use Rattle.t5t.specs.declared.reading.NotRead.{NotRead}
use Rattle.t5t.specs.declared.reading.Received.{Received}
use Rattle.gate.specs.declared.answer.Answer.{Answer}
use Rattle.gate.specs.declared.answer.Answer.TheVariants as answer
use Rattle.gate.specs.declared.desk.Desk.{Desk}
use Rattle.gate.specs.declared.refused.Refusal.TheVariants.{OfReading}
use Rattle.gate.specs.declared.rehearsal.Rehearsal.{Rehearsal}
use Rattle.gate.specs.Rehearsals.{SameSessions}
use Rattle.gate.specs.Sessions.{ReadAt, air_over, fresh_air}

-- what was read, the front of the message space, is answered, and is the current message; a refusal leaves that as it was
abbrev pub Receives : Result Received NotRead → List ℕ → Desk → Desk → Answer → Type 0
Receives (Ok x) left old new a =
    (v : Vec ℕ) × (v.items ≡ take x.length left) × (new.message.items ≡ take x.length left) × (a ≡ answer.MessageRead v x.exchanges)
Receives (Err y) left old new a = (new.message ≡ old.message) × (a ≡ answer.Refused (OfReading y))

-- with the session of that number, over the rack of tags, with an answer space and a message space of its own
pub record Receiving (k room : ℕ) (old new : Rehearsal) (a : Answer) : Type 0 where
  pub there : k < vec_len old.sessions
  pub result : Result Received NotRead
  pub space : List ℕ
  pub left : List ℕ
  pub reads : ReadAt old.sessions.items k (fresh_air old.tags) (air_over new.tags space) (replicate room 0) left result
  pub receives : Receives result left old.desk new.desk a
  pub sessions : SameSessions old new
  pub draft : new.desk.draft ≡ old.desk.draft
