use Rattle.std.proofs.Common.{length}
use Rattle.composer.proofs.Counted.{Counted}
use Rattle.composer.proofs.records.total_length.Given as goal

abbrev pub invariant-loop-fields : goal.invariant-loop-fields
invariant-loop-fields g l =
    Counted (g.R.Records.left l.fn.records) (g.R.Records.fault l.fn.records) (g.R.Records.left l.records) (g.R.Records.fault l.records) l.total

abbrev pub decreases-loop-fields : goal.decreases-loop-fields
decreases-loop-fields g l = length (g.R.Records.left l.records)
