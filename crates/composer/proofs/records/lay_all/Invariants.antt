use Rattle.std.proofs.Common.{length}
use Rattle.composer.proofs.Filled.{Filled}
use Rattle.composer.proofs.records.lay_all.Given as goal

abbrev pub invariant-loop-fields : goal.invariant-loop-fields
invariant-loop-fields g l =
    Filled (g.R.Records.left l.fn.records) l.initial.writer l.writer (g.R.Records.left l.records) (g.R.Records.fault l.records)

abbrev pub decreases-loop-fields : goal.decreases-loop-fields
decreases-loop-fields g l = length (g.R.Records.left l.records)
