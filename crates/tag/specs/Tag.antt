-- What a tag is: a memory, a UID, a state and four marks.
use Rattle.std.specs.Prelude.{ℕ}
use Rattle.memory.specs.Model.{Model}
use Rattle.request.specs.declared.marks.Marks.{Marks}
use Rattle.request.specs.declared.state.State.{State}

pub record TagModel : Type 0 where
  pub memory : Model
  pub uid : ℕ
  pub state : State
  pub marks : Marks

abbrev pub with_state : TagModel → State → TagModel
with_state t s = record { memory = t.memory; uid = t.uid; state = s; marks = t.marks }

abbrev pub with_memory : TagModel → Model → TagModel
with_memory t m = record { memory = m; uid = t.uid; state = t.state; marks = t.marks }
