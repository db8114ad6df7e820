use Rattle.std.proofs.Common.{refl, ap, ◌∙◌}
use Rattle.bench.specs.Bench.{bench_model}
use Rattle.tag.specs.Tag.{with_memory}
use Rattle.gate.proofs.tags.Tags.prepare.Goals as goal

pub returns : goal.returns
returns g c =
    let was = c.index_mut.result.now in
    let after = c.replace_memory.ensures.after ∙ ap (λ t. with_memory t (bench_model c.make.result)) c.replace_memory-memory.ensures.after in
    record { was = was; now = record { tag = c.replace_memory.new.self; span = was.span }; memory = c.make.result; is = c.index_mut.ensures.value; slots = refl; made = rw c.replace_memory-memory.ensures.given at c.make.ensures; placed = ap (λ t. record { tag = t; span = was.span }) after }
