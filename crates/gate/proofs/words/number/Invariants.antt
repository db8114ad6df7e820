use Rattle.std.proofs.Common.{◌≡◌, take}
use Rattle.gate.specs.Digits.{spelled}
use Rattle.gate.proofs.words.number.Given as goal

-- the number that the digits so far spell
abbrev pub invariant-loop-byte : goal.invariant-loop-byte
invariant-loop-byte l = l.total ≡ spelled (take l.byte-index l.word)
