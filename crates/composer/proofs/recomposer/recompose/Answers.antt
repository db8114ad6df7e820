use Rattle.std.proofs.Common.{◌≡◌, length, ◌∙◌}
use Rattle.composer.specs.Composing.{leaves}
use Rattle.composer.specs.Message.{message}
use Rattle.composer.specs.Records.{bad_header, fit}
use Rattle.ndef.specs.Reading.{contents, fault, left, records}
use Rattle.composer.proofs.Recomposes.{recomposes}
use Rattle.composer.proofs.recomposer.recompose.Goals as goal

pub returns : goal.returns
returns c =
    let start : left c.new.result.message.now c.new.result.place ≡ records c.args.message.now = λ i. left (c.new.ensures.message i) (c.new.ensures.place i) in
    recomposes _ (λ k. (c.type_inv.message k).fits) _ _ _ (c.compose_all.ensures.answer ∙ (λ i. fit (bad_header (fault (start i))) (contents (start i)) (length c.args.space.now)))
    (c.compose_all.ensures.after ∙ (λ i. leaves c.compose_all.result (message (contents (start i))) c.args.space.now))
