-- Bytes of a tag had by reading its blocks, the block last read being kept.
use Rattle.std.specs.Prelude.{◌≡◌, ℕ, ◌/◌, ◌%◌, if◌then◌else◌, List, drop, replicate, Some, None, Ok, Err, Option, Result, ◌==◌, slice_index}
use Rattle.space.specs.Space.{laid}
use Rattle.field.specs.Decode.{is_data, is_error}
use Rattle.procedure.specs.Frames.{read_frame}
use Rattle.procedure.specs.Procedure.{Reply, silence, one, several, Procedure, answer, send, bind, Air, Performs}
use Rattle.shown.specs.declared.flaw.Flaw.{Flaw}
use Rattle.shown.specs.Asks.{Asks, done, byte}
use Rattle.memory.specs.BlockLength.{bytes_of}
use Rattle.refusal.specs.declared.cause.Cause.{Cause}
use Rattle.refusal.specs.declared.cause.Cause.TheVariants.{TagError, Lost, Several, NotUnderstood}
use Rattle.t5t.specs.declared.kept.Kept.{Kept}
use Rattle.t5t.specs.declared.link.Link.{Link}
use Rattle.refusal.specs.declared.step.Step.{Step}
use Rattle.t5t.specs.declared.stop.Stop.{Stop}
use Rattle.refusal.specs.Cause.{cause_of}

-- what a reply says where so many bytes of data are expected
abbrev pub replied : ℕ → Reply → Result (List ℕ) Cause
replied n silence = Err Lost
replied n several = Err Several
replied n (one a) =
    if is_data a n then Ok (drop 1 a) else if is_error a then Err (TagError (slice_index a 1)) else Err NotUnderstood

-- a block as it is kept
abbrev pub kept_of : ℕ → List ℕ → Kept
kept_of n d = record { number = n; bytes = laid d (replicate 32 0) }

abbrev pub received : Step → ℕ → Result (List ℕ) Cause → Result Kept Stop
received step n (Ok d) = Ok (kept_of n d)
received step n (Err c) = Err (record { cause = c; step = step; block = n })

-- reads a block of a tag
abbrev pub reads : Step → ℕ → ℕ → ℕ → Procedure (Result Kept Stop)
reads step u unit n = send (read_frame u n) (λ r. answer (received step n (replied unit r)))

-- the block that is kept, if it has that number
abbrev pub kept_at : Option Kept → ℕ → Option Kept
kept_at None n = None
kept_at (Some k) n = if k.number == n then Some k else None

-- the block of that number: the one that is kept, or it is read
abbrev pub or_reads : Step → ℕ → ℕ → ℕ → Option Kept → Procedure (Result Kept Stop)
or_reads step u unit n (Some k) = answer (Ok k)
or_reads step u unit n None = reads step u unit n

abbrev pub block_of : Step → ℕ → ℕ → Option Kept → ℕ → Procedure (Result Kept Stop)
block_of step u unit k n = or_reads step u unit n (kept_at k n)

-- the last block that was sent
abbrev pub last_of : Option Kept → ℕ
last_of None = 0
last_of (Some k) = k.number

-- a flaw in what was read
abbrev pub flawed : Step → Option Kept → Flaw → Stop
flawed step k e = record { cause = cause_of e; step = step; block = last_of k }

abbrev pub stopped : {V : Type 0} → Step → Option Kept → Result V Flaw → Result V Stop
stopped step k (Ok v) = Ok v
stopped step k (Err e) = Err (flawed step k e)

-- with the block that is kept then
abbrev pub with_kept : {V : Type 0} → Result V Stop → Option Kept → Result (V × Option Kept) Stop
with_kept (Ok v) k = Ok (v, k)
with_kept (Err s) k = Err s

-- on with what was had, unless the call stops there
abbrev pub or_stop : {V W : Type 0} → (V → Procedure (Result W Stop)) → Result V Stop → Procedure (Result W Stop)
or_stop next (Ok v) = next v
or_stop next (Err s) = answer (Err s)

-- whatever asks for bytes: each is had from its block
abbrev pub asking : {V : Type 0} → Step → ℕ → ℕ → Option Kept → Asks (Result V Flaw) → Procedure (Result (V × Option Kept) Stop)
asking step u unit k (done (Ok v)) = answer (Ok (v, k))
asking step u unit k (done (Err e)) = answer (Err (flawed step k e))
asking step u unit k (byte a on) =
    bind (block_of step u unit k (a / unit)) (or_stop (λ k'. asking step u unit (Some k') (on (slice_index k'.bytes (a % unit)))))

-- a part of a call that asks for bytes: what it answers, and what the link and the air are then
pub record Asked {V : Type 0} (step : Step) (asks : Asks (Result V Flaw)) (l l' : Link) (a b : Air) (r : Result V Stop) : Type 0 where
  pub performs : Performs (asking step l.uid.0 (bytes_of l.unit) l.kept asks) a b (with_kept r l'.kept) l.exchanges l'.exchanges
  pub uid : l'.uid ≡ l.uid
  pub unit : l'.unit ≡ l.unit

-- the block that is kept after one was had, or was not
abbrev pub kept_after : Result Kept Stop → Option Kept → Option Kept
kept_after (Ok k) was = Some k
kept_after (Err s) was = was

-- a block that is had, kept or read
pub record Had (step : Step) (n : ℕ) (l l' : Link) (a b : Air) (r : Result Kept Stop) : Type 0 where
  pub performs : Performs (block_of step l.uid.0 (bytes_of l.unit) l.kept n) a b r l.exchanges l'.exchanges
  pub kept : l'.kept ≡ kept_after r l.kept
  pub uid : l'.uid ≡ l.uid
  pub unit : l'.unit ≡ l.unit

-- a block that is read
pub record BlockRead (step : Step) (n : ℕ) (l l' : Link) (a b : Air) (r : Result Kept Stop) : Type 0 where
  pub performs : Performs (reads step l.uid.0 (bytes_of l.unit) n) a b r l.exchanges l'.exchanges
  pub kept : l'.kept ≡ kept_after r l.kept
  pub uid : l'.uid ≡ l.uid
  pub unit : l'.unit ≡ l.unit
