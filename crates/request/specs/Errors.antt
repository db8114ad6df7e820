-- The code of each error.
use Rattle.std.specs.Prelude.{ℕ}
use Rattle.request.specs.declared.error_code.ErrorCode.{ErrorCode}
use Rattle.request.specs.declared.error_code.ErrorCode.TheVariants.{NotSupported, NotRecognized, OptionNotSupported, NoInformation, Absent, LockedAlready, Locked}

abbrev pub code_of : ErrorCode → ℕ
code_of NotSupported = 0x01
code_of NotRecognized = 0x02
code_of OptionNotSupported = 0x03
code_of NoInformation = 0x0F
code_of Absent = 0x10
code_of LockedAlready = 0x11
code_of Locked = 0x12
