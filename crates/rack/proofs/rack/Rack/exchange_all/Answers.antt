use Rattle.std.proofs.Common.{◌≡◌, ◌≤◌, map, length, drop, get_or, sym, ap, subst, take_at, arith}
use Rattle.std.proofs.lemmas.Grind.{common_steps}
use Rattle.field.specs.Exchange.{Exchange}
use Rattle.tag.specs.Means.{longest}
use Rattle.rack.specs.Rack.{placed_of}
use Rattle.rack.proofs.Racks.{heard-none, heard_more, heard_all}
use Rattle.rack.proofs.rack.Rack.exchange_all.Goals as goal

pub loop-slot-init : goal.loop-slot-init
loop-slot-init g c = heard-none _ _ _ _

pub loop-slot-preserved : goal.loop-slot-preserved
loop-slot-preserved g c =
    let slots = c.loop-slot.slot-items in
    heard_more (placed_of g.M.Memory.model) c.deref_mut-slot-items.result.now slots c.args.frame.now c.args.space.now c.loop-slot.space c.exchange.new.space c.loop-slot.heard c.in_ok-exchange.field-0 c.and-heard.result c.loop-slot.slot-index (get_or slots c.loop-slot.slot-index c.slot-item.result) c.exchange.new.self c.loop-slot.invariant (omega (arith, c.loop-slot.auto.slot-items)) (ap (get_or slots c.loop-slot.slot-index) c.slot-item.is) c.in_ok-exchange.ensures.1 c.and-heard.ensures

pub returns : goal.returns
returns g c =
    let placed = placed_of g.M.Memory.model in
    let old = c.args.self.now.slots in
    let last = c.loop-slot.slot-items in
    let long : length last ≡ old.len = omega (arith, c.loop-slot.auto.slot-items, c.deref_mut-slot-items.ensures.len) in
    let room : longest ≤ length c.args.space.now = grind (arith, common_steps) in
    let all = heard_all placed _ _ _ _ _ _ _ c.loop-slot.invariant (omega (arith, c.loop-slot.auto.slot-items)) in
    let from = subst (λ l. Exchange (map placed l) (map placed last) c.args.frame.now c.args.space.now c.loop-slot.space c.loop-slot.heard) c.deref_mut-slot-items.ensures.value all in
    (room, subst (λ l. Exchange (map placed old.items) (map placed l) c.args.frame.now c.args.space.now c.loop-slot.space c.loop-slot.heard) (sym (take_at last (drop (length last) old.items) old.len long)) from)
