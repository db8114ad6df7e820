-- What a command on blocks asks, once its body is read, and what the tag makes of it.
use Rattle.std.specs.Prelude.{◌≡◌, ℕ, Bool, if◌then◌else◌, List, length, Err, Result, nat_le}
use Rattle.memory.specs.Model.{with_block, with_lock}
use Rattle.request.specs.declared.command.Command.{Command}
use Rattle.request.specs.declared.error_code.ErrorCode.{ErrorCode}
use Rattle.request.specs.declared.error_code.ErrorCode.TheVariants.{NoInformation, LockedAlready, Locked}
use Rattle.tag.specs.declared.body.Job.{Job}
use Rattle.tag.specs.declared.body.Job.TheVariants.{ReadBlocks, WriteBlock, LockBlock}
use Rattle.tag.specs.Rules.{body_length, reads_blocks, changes, obeys}
use Rattle.tag.specs.Tag.{TagModel}

abbrev pub does_job : TagModel → Bool → Job → Result (TagModel × List ℕ) ErrorCode
does_job t of (ReadBlocks n count) = if nat_le count 32 then reads_blocks t of n count else Err NoInformation
does_job t of (WriteBlock n bytes) = changes t of n Locked (with_block t.memory n bytes.now)
does_job t of (LockBlock n) = changes t of n LockedAlready (with_lock t.memory n)

-- a write has the bytes of one block
abbrev pub Fills : ℕ → Job → Type 0
Fills unit (ReadBlocks n count) = Unit {0}
Fills unit (WriteBlock n bytes) = length bytes.now ≡ unit
Fills unit (LockBlock n) = Unit {0}

-- the job says what a tag with blocks of so many bytes makes of the command and its body
pub record Asks (c : Command) (body : List ℕ) (unit : ℕ) (j : Job) : Type 0 where
  pub long : length body ≡ body_length c unit
  pub whole : Fills unit j
  pub does : (t : TagModel) (of : Bool) → obeys t of c c.work body ≡ does_job t of j
