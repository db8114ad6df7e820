use Rattle.std.proofs.Common.{vec_items, sym, refl, subst}
use Rattle.gate.specs.declared.answer.Answer.TheVariants.{OneAnswer}
use Rattle.gate.specs.Hearings.{Tells}
use Rattle.gate.proofs.answer.Answer.of_heard.Goals as goal

pub returns-in-One : goal.returns-in-One
returns-in-One c =
    let v = c.truncate.new.self in
    subst (λ h. Tells h (vec_items c.args.space) (OneAnswer v)) (sym c.in-One.is) (v, refl, c.truncate.ensures.items)
