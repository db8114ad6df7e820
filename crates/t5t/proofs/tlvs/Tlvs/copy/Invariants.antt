use Rattle.std.proofs.Common.{◌-◌}
use Rattle.t5t.proofs.Copies.{CopiesOn}
use Rattle.t5t.proofs.tlvs.Tlvs.copy.Given as goal

abbrev pub invariant-loop-done : goal.invariant-loop-done
invariant-loop-done g l =
    CopiesOn (record { at = l.first; long = l.length }) l.initial.self l.self l.initial.message l.message l.done

abbrev pub decreases-loop-done : goal.decreases-loop-done
decreases-loop-done g l = l.length - l.done
