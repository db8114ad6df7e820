use Rattle.rack.specs.Rack.{placed_of}
use Rattle.rack.proofs.Racks.{HeardBy}
use Rattle.rack.proofs.rack.Rack.exchange_all.Given as goal

abbrev pub invariant-loop-slot : goal.invariant-loop-slot
invariant-loop-slot g l =
    HeardBy (placed_of g.M.Memory.model) l.initial.slot-items l.slot-items l.frame l.initial.space l.space l.heard l.slot-index
