-- What a tag does with a frame: the rules in their order, the first that applies decides.
use Rattle.std.specs.Prelude.{ℕ, zero, suc, ◌+◌, Bool, true, false, if◌then◌else◌, not, ◌&&◌, ◌||◌, List, [], ◌∷◌, ◌++◌, length, take, drop, Some, None, Ok, Err, Option, Result, ◌==◌, nat_le, nat_lt}
use Rattle.std.specs.Bool.{beq}
use Rattle.memory.specs.Model.{Model, count_of, block_at, lock_at, with_block, with_lock}
use Rattle.request.specs.declared.error_code.ErrorCode.{ErrorCode}
use Rattle.request.specs.declared.error_code.ErrorCode.TheVariants.{NotSupported, NotRecognized, OptionNotSupported, NoInformation, Absent, LockedAlready, Locked}
use Rattle.request.specs.declared.command.Command.{Command}
use Rattle.request.specs.declared.command.Work.{Work}
use Rattle.request.specs.declared.command.Work.TheVariants.{Read, Write, Lock, ReadMany}
use Rattle.request.specs.declared.marks.Marks.{Marks}
use Rattle.request.specs.declared.state.State.{State}
use Rattle.request.specs.declared.state.State.TheVariants.{Ready, Selected, Quiet}
use Rattle.request.specs.Command.{command_of}
use Rattle.request.specs.Errors.{code_of}
use Rattle.request.specs.Frame.{code_at, optioned, addressed, selective, intact, little, uid_at, body_of}
use Rattle.tag.specs.Tag.{TagModel, with_state, with_memory}

-- what comes of a frame: the tag afterwards, its answer or silence, and whether the command was carried out
pub record Turn : Type 0 where
  pub after : TagModel
  pub says : Option (List ℕ)
  pub carried : Bool

abbrev pub silence : TagModel → Turn
silence t = record { after = t; says = None; carried = false }

-- an error is 01h and its code; a command that is carried out answers 00h and what it read
abbrev pub replies : TagModel → Result (TagModel × List ℕ) ErrorCode → Turn
replies t (Err e) = record { after = t; says = Some (1 ∷ code_of e ∷ []); carried = false }
replies t (Ok done) = record { after = done.0; says = Some (0 ∷ done.1); carried = true }

-- another tag's frame: silence; a selected tag is selected no more where the other one is
abbrev pub released : State → State
released Ready = Ready
released Selected = Ready
released Quiet = Quiet

abbrev pub for_another : TagModel → ℕ → ℕ → Turn
for_another t long code = silence (if long == 10 && code == 0x25 then with_state t (released t.state) else t)

-- without AMS a quiet tag is silent; with SMS a tag that is not selected is
abbrev pub deaf : State → Bool → Bool
deaf Ready sms = sms
deaf Selected sms = false
deaf Quiet sms = true

-- codes 25h and 02h: to this tag alone and no longer than that, or silence
abbrev pub selects : TagModel → Bool → ℕ → Turn
selects t just code =
    if just
    then (if code == 0x25 then replies t (Ok (with_state t Selected, [])) else record { after = with_state t Quiet; says = None; carried = true })
    else silence t

-- a tag knows a command: the wide ones if it is wide, several blocks if multi, locking if lockable
abbrev pub knows_work : Marks → Work → Bool
knows_work marks Read = true
knows_work marks Write = true
knows_work marks Lock = marks.lockable
knows_work marks ReadMany = marks.multi

abbrev pub knows : Marks → Command → Bool
knows marks c = knows_work marks c.work && (not c.wide || marks.wide)

-- how long a number is, and how long the body of a command
abbrev pub number_length : Command → ℕ
number_length c = if c.wide then 2 else 1

abbrev pub extra_length : Work → ℕ → ℕ → ℕ
extra_length Read n unit = 0
extra_length Write n unit = unit
extra_length Lock n unit = 0
extra_length ReadMany n unit = n

abbrev pub body_length : Command → ℕ → ℕ
body_length c unit = number_length c + extra_length c.work (number_length c) unit

abbrev pub block_number : Command → List ℕ → ℕ
block_number c body = little (take (number_length c) body)

-- the number behind the block number: NB
abbrev pub count_number : Command → List ℕ → ℕ
count_number c body = little (take (number_length c) (drop (number_length c) body))

-- the blocks as they are answered, each behind its lock byte under OF
abbrev pub lock_byte : Bool → ℕ
lock_byte locked = if locked then 1 else 0

abbrev pub block_from : Model → Bool → ℕ → List ℕ
block_from m of n = (if of then lock_byte (lock_at m n) ∷ [] else []) ++ block_at m n

abbrev pub blocks_from : Model → Bool → ℕ → ℕ → List ℕ
blocks_from m of n zero = []
blocks_from m of n (suc k) = block_from m of n ++ blocks_from m of (n + 1) k

-- count blocks from n on: all of them are there, or none is read
abbrev pub reads_blocks : TagModel → Bool → ℕ → ℕ → Result (TagModel × List ℕ) ErrorCode
reads_blocks t of n count =
    if nat_le (n + count) (count_of t.memory) then Ok (t, blocks_from t.memory of n count) else Err Absent

-- a write or a lock of block n: the option flag is as the tag wants it, the block is there, and it is open
abbrev pub changes : TagModel → Bool → ℕ → ErrorCode → Model → Result (TagModel × List ℕ) ErrorCode
changes t of n locked done =
    if beq of t.marks.special
    then (if nat_lt n (count_of t.memory) then (if lock_at t.memory n then Err locked else Ok (with_memory t done, [])) else Err Absent)
    else Err OptionNotSupported

abbrev pub obeys : TagModel → Bool → Command → Work → List ℕ → Result (TagModel × List ℕ) ErrorCode
obeys t of c Read body = reads_blocks t of (block_number c body) 1
obeys t of c Write body =
    changes t of (block_number c body) Locked (with_block t.memory (block_number c body) (drop (number_length c) body))
obeys t of c Lock body = changes t of (block_number c body) LockedAlready (with_lock t.memory (block_number c body))
obeys t of c ReadMany body =
    if nat_le (count_number c body) 31 then reads_blocks t of (block_number c body) (count_number c body + 1) else Err NoInformation

-- an unknown code, then another length, then the work
abbrev pub blocks : TagModel → Bool → List ℕ → Option Command → Result (TagModel × List ℕ) ErrorCode
blocks t of body None = Err NotSupported
blocks t of body (Some c) =
    if knows t.marks c
    then (if length body == body_length c t.memory.unit then obeys t of c c.work body else Err NotRecognized)
    else Err NotSupported

-- codes 25h and 02h, or a command on blocks
abbrev pub heeds : TagModel → Bool → ℕ → ℕ → Bool → List ℕ → Turn
heeds t this long code of body =
    if code == 0x25 || code == 0x02 then selects t (this && long == 10) code else replies t (blocks t of body (command_of code))

-- a frame for one tag, and one for every tag or the selected one
abbrev pub of_one : TagModel → List ℕ → Turn
of_one t f =
    if uid_at f == t.uid then heeds t true (length f) (code_at f) (optioned f) (body_of f) else for_another t (length f) (code_at f)

abbrev pub of_many : TagModel → List ℕ → Turn
of_many t f =
    if deaf t.state (selective f) then silence t else heeds t false (length f) (code_at f) (optioned f) (body_of f)

-- the rules in their order
unfoldable pub turn : TagModel → List ℕ → Turn
turn t f = if intact f then (if addressed f then of_one t f else of_many t f) else silence t
