-- A call, as its exchanges see it.
use Rattle.std.specs.Prelude.{◌≡◌, ◌+◌, Option}
use Rattle.field.specs.declared.field.Field as Field
use Rattle.procedure.specs.Procedure.{Air}
use Rattle.t5t.specs.Air.{air_of}
use Rattle.t5t.specs.declared.call.Call.{Call}
use Rattle.t5t.specs.declared.kept.Kept.{Kept}
use Rattle.t5t.specs.declared.link.Link.{Link}

-- the air of its field and its answer space
abbrev pub air_in : {F : Type 0} {G : Field.Ghosts F} → Call F G → Air
air_in {F} {G} c = air_of G.tags c.field.now c.space.now

-- it has the field and the space that it had
pub record SameAir {F : Type 0} {G : Field.Ghosts F} (c c' : Call F G) : Type 0 where
  pub field : c'.field.ghost_name ≡ c.field.ghost_name
  pub space : c'.space.ghost_name ≡ c.space.ghost_name

-- one frame more is counted
abbrev pub one_more : Link → Link
one_more l = record { uid = l.uid; unit = l.unit; kept = l.kept; exchanges = l.exchanges + 1 }

-- with the block that is kept then
abbrev pub keeping : Link → Option Kept → Link
keeping l kept = record { uid = l.uid; unit = l.unit; kept = kept; exchanges = l.exchanges }
