use Rattle.std.proofs.Common.{take, refl, ap, ◌∙◌}
use Rattle.gate.proofs.desk.Desk.receive.Goals as goal

pub returns-clause-received : goal.returns-clause-received
returns-clause-received c =
    let copied = c.copy_from_slice.ensures.items ∙ c.as_slice.ensures.value in
    (c.truncate.new.self, c.truncate.ensures.items ∙ ap (take c.args.received.length) copied, c.adopt.ensures.message, refl)
