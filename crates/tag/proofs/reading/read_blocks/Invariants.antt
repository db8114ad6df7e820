use Rattle.std.proofs.Common.{◌≡◌, length}
use Rattle.tag.proofs.Answering.{Answering}
use Rattle.tag.proofs.reading.read_blocks.Given as goal

abbrev pub invariant-loop-block : goal.invariant-loop-block
invariant-loop-block g l =
    record {
      laid : Answering (g.M.Memory.model l.memory) l.optioned l.start l.end l.initial.space l.space l.at l.block;
      whole : length l.space ≡ 1057;
    }
