use Rattle.std.proofs.Common.{◌∙◌}
use Rattle.composer.proofs.Recomposes.{no_fault, over-none}
use Rattle.composer.proofs.recomposer.ReaderRecords.is_over.Goals as goal

pub returns : goal.returns
returns c good = c.is_over.ensures ∙ over-none _ _ c.args.self.now.within (no_fault _ good)
