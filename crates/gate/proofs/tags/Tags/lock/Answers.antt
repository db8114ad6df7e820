use Rattle.std.proofs.Common.{rules}
use Rattle.memory.specs.Model.{with_lock}
use Rattle.gate.proofs.Preparing.{prepared-first}
use Rattle.gate.proofs.tags.Tags.lock.Goals as goal

pub returns : goal.returns
returns c =
    prepared-first c.args.uid.0 (λ m. with_lock m c.args.block) _ _ _ _ c.prepare.ensures c.in_ok-index.ensures.0 (search rules)
