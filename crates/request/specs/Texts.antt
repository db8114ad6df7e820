-- What a state and a UID are printed as.
use Rattle.std.specs.Prelude.{ℕ, ◌-◌, ◌^◌, false, true, List, [], codes}
use Rattle.std.specs.Fmt.{digits, format_spec, padded_integral}
use Rattle.request.specs.declared.state.State.{State}
use Rattle.request.specs.declared.state.State.TheVariants.{Ready, Selected, Quiet}

abbrev pub state_text : State → List ℕ
state_text Ready = codes "READY"
state_text Selected = codes "SELECTED"
state_text Quiet = codes "QUIET"

-- its hex digits in capitals, with zeros in front of them up to sixteen
abbrev pub uid_text : ℕ → List ℕ
uid_text u = padded_integral (format_spec 32 0 4 16 (2 ^ 64 - 1)) false [] (digits 16 true u)
