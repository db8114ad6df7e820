-- Detection: block 0, the container, and the walk to the message.
use Rattle.std.specs.Prelude.{◌≡◌, ℕ, ◌-◌, length, Some, Ok, Err, Option, Result}
use Rattle.field.specs.declared.heard.Heard.{Heard}
use Rattle.field.specs.declared.heard.Heard.TheVariants.{Nothing, One, Several}
use Rattle.memory.specs.declared.block_length.BlockLength.{BlockLength}
use Rattle.memory.specs.declared.block_length.BlockLength.TheVariants.{Four}
use Rattle.memory.specs.declared.refusal.MemoryRefusal.{MemoryRefusal}
use Rattle.memory.specs.BlockLength.{bytes_of, listed}
use Rattle.procedure.specs.Frames.{read_frame}
use Rattle.procedure.specs.Procedure.{Reply, silence, one, several, Procedure, answer, send, bind, Air, Performs}
use Rattle.shown.specs.declared.container.Container.{Container}
use Rattle.shown.specs.declared.container.Place.{Place}
use Rattle.shown.specs.Container.{container}
use Rattle.shown.specs.Walk.{walk}
use Rattle.t5t.specs.declared.kept.Kept.{Kept}
use Rattle.t5t.specs.declared.link.Link.{Link}
use Rattle.refusal.specs.declared.step.Step.TheVariants as Step
use Rattle.t5t.specs.declared.stop.Stop.{Stop}
use Rattle.t5t.specs.Asking.{replied, received, or_stop, asking, kept_after}

abbrev pub or_four : Result BlockLength MemoryRefusal → BlockLength
or_four (Ok b) = b
or_four (Err e) = Four

-- the block length that the first answer tells: as many bytes as stand behind its first; any other number is no data
abbrev pub unit_of : Reply → BlockLength
unit_of silence = Four
unit_of several = Four
unit_of (one a) = or_four (listed (length a - 1))

abbrev pub unit_by : Heard → BlockLength
unit_by Nothing = Four
unit_by Several = Four
unit_by (One n) = or_four (listed (n - 1))

-- with the block length
abbrev pub with_unit : {V : Type 0} → Result V Stop → BlockLength → Result (BlockLength × V) Stop
with_unit (Ok v) b = Ok (b, v)
with_unit (Err s) b = Err s

abbrev pub first_of : Reply → Result (BlockLength × Kept) Stop
first_of r = with_unit (received Step.Container 0 (replied (bytes_of (unit_of r)) r)) (unit_of r)

-- block 0
abbrev pub first : ℕ → Procedure (Result (BlockLength × Kept) Stop)
first u = send (read_frame u 0) (λ r. answer (first_of r))

-- the walk, from the container on
abbrev pub walking : ℕ → BlockLength → Container × Option Kept → Procedure (Result (Place × Option Kept) Stop)
walking u b c = asking Step.Walk u (bytes_of b) c.1 (walk c.0)

abbrev pub locating : ℕ → BlockLength × Kept → Procedure (Result (Place × Option Kept) Stop)
locating u f =
    bind (asking Step.Container u (bytes_of f.0) (Some f.1) (container (bytes_of f.0))) (or_stop (walking u f.0))

-- what is found: the block length, and where the message is
abbrev pub found : BlockLength → Place × Option Kept → Procedure (Result (BlockLength × Place) Stop)
found b p = answer (Ok (b, p.0))

abbrev pub detected : ℕ → BlockLength × Kept → Procedure (Result (BlockLength × Place) Stop)
detected u f = bind (locating u f) (or_stop (found f.0))

abbrev pub detection : ℕ → Procedure (Result (BlockLength × Place) Stop)
detection u = bind (first u) (or_stop (detected u))

-- block 0 is read
pub record FirstRead (l l' : Link) (a b : Air) (r : Result Kept Stop) : Type 0 where
  pub performs : Performs (first l.uid.0) a b (with_unit r l'.unit) l.exchanges l'.exchanges
  pub kept : l'.kept ≡ kept_after r l.kept
  pub uid : l'.uid ≡ l.uid
