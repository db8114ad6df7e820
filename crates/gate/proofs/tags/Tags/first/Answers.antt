use Rattle.std.proofs.Common.{◌≡◌, ◌∙◌, vec_items, length, sym, ap, rules, tests}
use Rattle.std.specs.List.{position}
use Rattle.std.proofs.lemmas.Iterator.{YieldsList-from_slice}
use Rattle.std.proofs.lemmas.Iterator.Search.{position_from_yields_List}
use Rattle.gate.specs.Tagged.{has_uid}
use Rattle.gate.proofs.Firsts.{first_at}
use Rattle.gate.proofs.tags.Tags.first.Goals as goal

pub returns : goal.returns
returns c =
    let slots = vec_items c.args.self.now.rack.slots in
    let at : c.position.result ≡ position (has_uid c.args.uid.0) slots =
    position_from_yields_List (has_uid c.args.uid.0) _ _ c.position.result c.position.ensures.ran (YieldsList-from_slice slots (c.iter.ensures.rest ∙ c.deref.ensures.value)) (λ x b q k. search (rules, tests)) in
    rw c.ok_or.ensures.value (first_at c.args.uid.0 slots _ _ _ (sym c.deref.ensures.len ∙ ap length c.deref.ensures.value) at)
