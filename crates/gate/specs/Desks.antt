-- How a desk follows another.
use Rattle.std.specs.Prelude.{◌≡◌, ◌+◌, vec_len}
use Rattle.gate.specs.declared.desk.Desk.{Desk}
use Rattle.gate.specs.Drafts.{Same}

-- both have the same records to compose, and the same message
abbrev pub SameDesk : Desk → Desk → Type 0
SameDesk old new = Same old.draft new.draft × (new.message ≡ old.message)

-- there is one record more to compose, and the message is the same
abbrev pub OneMore : Desk → Desk → Type 0
OneMore old new =
    (vec_len new.draft.descriptions ≡ vec_len old.draft.descriptions + 1) × (new.message ≡ old.message)
