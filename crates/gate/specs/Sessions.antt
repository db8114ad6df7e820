-- What is done with the sessions of a rehearsal.
use Rattle.std.specs.Prelude.{◌≡◌, ℕ, List, replicate, Result, slice_index_or}
use Rattle.memory.specs.BlockLength.{bytes_of}
use Rattle.tag.specs.Means.{longest}
use Rattle.procedure.specs.Procedure.{Air}
use Rattle.t5t.specs.declared.reading.NotRead.{NotRead}
use Rattle.t5t.specs.declared.reading.Received.{Received}
use Rattle.t5t.specs.Reads.{Reads}
use Rattle.gate.specs.declared.session.Session.{Session}
use Rattle.gate.specs.declared.session.Session.TheVariants as session
use Rattle.gate.specs.declared.tags.Tags.{Tags}
use Rattle.gate.specs.Tagged.{placed}

-- the air over the tags of a rehearsal
abbrev pub air_over : Tags → List ℕ → Air
air_over tags space = record { tags = placed tags; space = space }

-- with an answer space as a call makes it
abbrev pub fresh_air : Tags → Air
fresh_air tags = air_over tags (replicate longest 0)

-- a reading with the numbers of a session
abbrev pub ReadsWith : Session → Air → Air → List ℕ → List ℕ → Result Received NotRead → Type 0
ReadsWith (session.Detected d) a b space space' r = Reads d.uid.0 (bytes_of d.unit) d.place.container.end d.place.at a b space space' r
ReadsWith (session.Closed c) a b space space' r = Reads c.uid.0 (bytes_of c.unit) c.place.container.end c.place.at a b space space' r

-- with the session of that number
pub record ReadAt (sessions : List Session) (k : ℕ) (a b : Air) (space space' : List ℕ) (r : Result Received NotRead) : Type 0 where
  pub session : Session
  pub is : session ≡ slice_index_or sessions k session
  pub reads : ReadsWith session a b space space' r
