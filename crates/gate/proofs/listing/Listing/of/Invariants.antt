use Rattle.std.proofs.Common.{length}
use Rattle.ndef.specs.Reading.{contents, left}
use Rattle.gate.proofs.listing.Listing.of.Given as goal

-- the records that are left
abbrev pub decreases-loop-record : goal.decreases-loop-record
decreases-loop-record l = length (contents (left l.reader.message.now l.reader.place))
