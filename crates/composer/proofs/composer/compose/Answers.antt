use Rattle.composer.proofs.Composes.{composes}
use Rattle.composer.proofs.composer.compose.Goals as goal

pub returns : goal.returns
returns c = composes _ _ _ _ _ c.compose_all.ensures.answer c.compose_all.ensures.after
