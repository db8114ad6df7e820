-- The commands that speak of blocks.
use Rattle.std.specs.Prelude.{◌≡◌, ℕ, true, false, if◌then◌else◌, Some, None, Option, Result, MatchResult, ◌==◌}
use Rattle.request.specs.declared.command.Command.{Command}
use Rattle.request.specs.declared.command.UnknownCode.{UnknownCode}
use Rattle.request.specs.declared.command.Work.TheVariants.{Read, Write, Lock, ReadMany}

-- the command of a code: 20h to 23h, and 30h to 33h with numbers of two bytes
abbrev pub command_of : ℕ → Option Command
command_of c =
    if c == 0x20 then Some (record { work = Read; wide = false }) else if c == 0x21 then Some (record { work = Write; wide = false })
    else if c == 0x22 then Some (record { work = Lock; wide = false }) else if c == 0x23 then Some (record { work = ReadMany; wide = false })
    else if c == 0x30 then Some (record { work = Read; wide = true }) else if c == 0x31 then Some (record { work = Write; wide = true })
    else if c == 0x32 then Some (record { work = Lock; wide = true }) else if c == 0x33 then Some (record { work = ReadMany; wide = true })
    else None

-- the result is the command of the code, or the code itself where it has none
abbrev pub Decodes : ℕ → Result Command UnknownCode → Type 0
Decodes code r = MatchResult r (λ c. command_of code ≡ Some c) (λ e. (command_of code ≡ None) × (e.0 ≡ code))
