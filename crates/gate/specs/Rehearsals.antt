-- How a rehearsal follows another.
use Rattle.std.specs.Prelude.{◌≡◌}
use Rattle.gate.specs.declared.rehearsal.Rehearsal.{Rehearsal}
use Rattle.gate.specs.Desks.{SameDesk}
use Rattle.gate.specs.Tagged.{SameTags}

-- both have the same sessions
abbrev pub SameSessions : Rehearsal → Rehearsal → Type 0
SameSessions old new = new.sessions.items ≡ old.sessions.items

-- every tag, span and session is as it was
abbrev pub Still : Rehearsal → Rehearsal → Type 0
Still old new = SameTags old.tags new.tags × SameSessions old new

-- both have the same records to compose, the same message, the same tags, and the same sessions
abbrev pub Unchanged : Rehearsal → Rehearsal → Type 0
Unchanged old new =
    SameDesk old.desk new.desk × SameTags old.tags new.tags × SameSessions old new
