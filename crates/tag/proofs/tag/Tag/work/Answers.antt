use Rattle.std.proofs.Common.{sym, ap, ◌∙◌, subst}
use Rattle.tag.specs.Means.{tag_of, Works}
use Rattle.tag.specs.Rules.{blocks}
use Rattle.tag.proofs.Steps.{blocks_job}
use Rattle.tag.proofs.tag.Tag.work.Goals as goal

pub returns : goal.returns
returns g c =
    let t = tag_of g.M.Memory.model c.args.self.now in
    let order = c.args.order in
    let unit = c.bytes-unit.ensures ∙ c.block_length.ensures in
    let does = ap (blocks t order.optioned order.body.now) c.in-Some.is ∙ blocks_job t order.optioned order.body.now c.in-Some.command _ c.in-Some-read.job (sym c.is_known.ensures ∙ c.if-is_known.true) (sym unit) c.in-Some-read.ensures in
    subst (λ d. Works t (tag_of g.M.Memory.model c.carry_out.new.self) d c.args.space.now c.carry_out.new.space c.carry_out.result) (sym does) c.carry_out.ensures
