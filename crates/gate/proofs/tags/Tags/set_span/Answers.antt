use Rattle.std.proofs.Common.{set, vec_items, ap, ◌∙◌}
use Rattle.gate.proofs.Firsts.{span_at, spanned-first}
use Rattle.gate.proofs.tags.Tags.set_span.Goals as goal

pub returns-clause-after : goal.returns-clause-after
returns-clause-after c =
    let u = c.args.uid.0 in
    let s = c.args.span in
    let x = c.index_mut.result.now in
    let xs = vec_items c.args.self.now.rack.slots in
    let here = ap (span_at u s xs x) c.in_ok-index.ensures.0 in
    ap (λ y. set xs c.in_ok-index.index (record { tag = y.tag; span = s })) c.index_mut.ensures.value ∙ here ∙ spanned-first u s xs x
