use Rattle.std.proofs.Common.{Ok, sym, refl, ap, ◌∙◌, take, arith}
use Rattle.memory.specs.BlockLength.{bytes_of}
use Rattle.shown.specs.Container.{sized}
use Rattle.t5t.specs.Asking.{stopped}
use Rattle.refusal.specs.declared.step.Step.TheVariants.{Container}
use Rattle.t5t.proofs.Askings.{and_goes}
use Rattle.t5t.proofs.Headers.{four_bytes, header_here}
use Rattle.t5t.proofs.Mapped.{mapped_ok}
use Rattle.t5t.proofs.call.Call.container.Goals as goal

pub returns-clause-asked : goal.returns-clause-asked
returns-clause-asked g c =
    let block = c.args.block in
    let self = c.args.self.now.link in
    let bs = take c.bytes.result block.bytes in
    let unit = c.bytes.ensures in
    let four = four_bytes self.unit in
    let header = c.in_ok-header.header in
    let is = mapped_ok _ c.checked.result header _ (λ e h. h) c.in_ok-header.ensures.cases in
    and_goes (sized (bytes_of self.unit)) (header_here self block _ c.requires.kept c.requires.first _ bs c.bytes.result refl (omega arith) (Ok header) refl (ap (stopped Container self.kept) (sym is ∙ c.checked.ensures))) c.sized.ensures.asked
