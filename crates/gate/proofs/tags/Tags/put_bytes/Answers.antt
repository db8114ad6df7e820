use Rattle.std.proofs.Common.{rules}
use Rattle.gate.specs.Preparing.{bytes_put}
use Rattle.gate.proofs.Preparing.{prepared-first}
use Rattle.gate.proofs.tags.Tags.put_bytes.Goals as goal

pub returns : goal.returns
returns c =
    prepared-first c.args.uid.0 (bytes_put c.args.address c.args.bytes.now) _ _ _ _ c.prepare.ensures c.in_ok-index.ensures.0 (search rules)
