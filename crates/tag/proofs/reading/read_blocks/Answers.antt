use Rattle.std.proofs.Common.{◌≡◌, ◌∷◌, ◌+◌, ◌-◌, length, ap, ◌∙◌, arith}
use borrow.Rule.Slice.PartMut.{put_mid}
use Rattle.std.proofs.lemmas.Grind.{common_steps}
use Rattle.space.specs.Space.{laid, put}
use Rattle.tag.specs.Rules.{block_from, blocks_from}
use Rattle.tag.proofs.Answering.{answering_more, answering_room, answering_all, over_first, laid_behind}
use Rattle.tag.proofs.reading.read_blocks.Goals as goal

pub lay_block-at-requires-clause-room : goal.lay_block-at-requires-clause-room
lay_block-at-requires-clause-room g c =
    let room = answering_room (g.M.Memory.model c.args.memory.now) c.args.optioned c.args.first (c.args.first + c.args.count) _ _ _ _ c.loop-block.invariant.laid (g.met.M.Memory.sound c.args.memory.now) (omega arith) (omega arith) (omega arith) c.loop-block-test.true in
    grind (arith, common_steps)

pub loop-block-preserved : goal.loop-block-preserved
loop-block-preserved g c =
    let m = g.M.Memory.model c.args.memory.now in
    let l = c.loop-block in
    let bs = block_from m c.args.optioned l.block in
    let room = answering_room m c.args.optioned c.args.first (c.args.first + c.args.count) _ _ _ _ l.invariant.laid (g.met.M.Memory.sound c.args.memory.now) (omega arith) (omega arith) (omega arith) c.loop-block-test.true in
    let put : put_mid l.at (1057 - l.at) l.space c.lay_block-at.new.space ≡ put l.space l.at bs = ap (put_mid l.at (1057 - l.at) l.space) c.lay_block-at.ensures.left ∙ laid_behind l.space bs l.at (1057 - l.at) (omega arith) (omega arith) in
    record {
      laid = answering_more m c.args.optioned c.args.first (c.args.first + c.args.count) _ _ _ _ l.invariant.laid _ _ c.loop-block-test.true put (ap (λ n. l.at + n) c.lay_block-at.ensures.long);
      whole = grind (arith, common_steps);
    }

pub returns : goal.returns
returns g c =
    let m = g.M.Memory.model c.args.memory.now in
    let all = answering_all m c.args.optioned c.args.first (c.args.first + c.args.count) _ _ _ _ c.loop-block.invariant.laid c.loop-block-test.false in
    let count : c.args.first + c.args.count - c.args.first ≡ c.args.count = omega arith in
    let bs = blocks_from m c.args.optioned c.args.first in
    (omega arith, all.0 ∙ over_first _ c.args.space.now ∙ ap (λ n. laid (0 ∷ bs n) c.args.space.now) count, all.1 ∙ ap (λ n. length (0 ∷ bs n)) count)
