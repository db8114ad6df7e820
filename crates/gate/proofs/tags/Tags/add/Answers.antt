use Rattle.std.proofs.Common.{◌≡◌, ◌*◌, [], ◌∷◌, ◌++◌, map, replicate, vec_items, ap, ◌∙◌}
use Rattle.std.proofs.lemmas.List.{map_push}
use Rattle.bench.specs.Bench.{bench_of, bench_model}
use Rattle.memory.specs.BlockLength.{bytes_of}
use Rattle.memory.specs.Model.{Model}
use Rattle.request.specs.declared.state.State.TheVariants.{Ready}
use Rattle.tag.specs.Tag.{TagModel}
use Rattle.field.specs.Placed.{Placed}
use Rattle.rack.specs.Rack.{placed_of}
use Rattle.gate.proofs.tags.Tags.add.Goals as goal

pub returns-clause-added : goal.returns-clause-added
returns-clause-added c =
    let blank = c.in_ok-memory.ensures in
    let unit-is = blank.0 in
    let bytes-are = blank.1 in
    let locks-are = blank.2 in
    let u = bytes_of c.args.unit in
    let memory-is : bench_model c.in_ok-memory.memory ≡ bench_of u (replicate (u * c.args.new.count) 0) (replicate c.args.new.count 0) = λ i. bench_of (bytes_of (unit-is i)) (bytes-are i) (locks-are i) in
    let over : Model → TagModel = λ m. record { memory = m; uid = c.args.new.uid.0; state = Ready; marks = c.args.new.marks } in
    let old = vec_items c.args.self.now.rack.slots in
    let behind : TagModel → Placed = λ t. record { tag = t; span = c.args.new.span } in
    ap (map (placed_of bench_model)) c.in_ok-push.ensures.items ∙ map_push (placed_of bench_model) old _ ∙ ap (λ t. map (placed_of bench_model) old ++ behind t ∷ []) (c.new-tag.ensures ∙ ap over memory-is)
