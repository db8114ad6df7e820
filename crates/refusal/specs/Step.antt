-- The number of each step.
use Rattle.std.specs.Prelude.{ℕ}
use Rattle.refusal.specs.declared.step.Step.{Step}
use Rattle.refusal.specs.declared.step.Step.TheVariants.{Before, Container, Walk, Read}

abbrev pub step_number : Step → ℕ
step_number Before = 0
step_number Container = 1
step_number Walk = 2
step_number Read = 3
