use Rattle.std.proofs.Common.{length, sym, ap, ◌∙◌, rules, arith}
use Rattle.composer.proofs.Filled.{goes, filled_more, filled-all}
use Rattle.composer.proofs.records.lay_all.Goals as goal

pub put-requires : goal.put-requires
put-requires g c =
    let same = ap length c.new-writer.ensures.space in
    let next = goes c.loop-fields.invariant (rw c.in-Some.is at c.in_ok-fields.ensures) c.requires.few (omega arith) in
    record { small = next.small; room = next.room }

pub loop-fields-preserved : goal.loop-fields-preserved
loop-fields-preserved g c =
    let gave = rw c.in-Some.is at c.in_ok-fields.ensures in
    filled_more c.loop-fields.invariant gave (c.is_over.ensures (sym gave.ends ∙ c.loop-fields.invariant.good)) c.put.ensures

pub returns-clause-after : goal.returns-clause-after
returns-clause-after g c =
    let over = rw c.in_default.is at c.in_ok-fields.ensures in
    let all = filled-all over.0 c.loop-fields.invariant in
    let named = c.loop-fields.invariant.same_space ∙ c.new-writer.ensures.same_space in
    let was = c.new-writer.ensures.space in
    search rules
