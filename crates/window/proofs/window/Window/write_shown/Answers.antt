use Rattle.std.proofs.Common.{arith, ◌≡◌, ◌+◌, ◌<◌, length, subst, Result}
use Rattle.std.proofs.lemmas.Grind.{common_steps}
use Rattle.memory.specs.declared.refusal.MemoryRefusal.{MemoryRefusal}
use Rattle.memory.specs.Calls.{Writes}
use Rattle.window.specs.Window.{shown}
use Rattle.window.proofs.Windows.{told, window_writes}
use Rattle.window.proofs.window.Window.write_shown.Goals as goal

pub returns-clause-writes : goal.returns-clause-writes
returns-clause-writes g c =
    let w = c.args.self.now in
    let below : c.block_below-below.result ≡ w.first + c.args.block = c.block_below-below.ensures.below in
    let there : c.args.block < shown (g.M.Memory.model w.below) w.first w.count = grind (arith, common_steps) in
    let whole : length c.args.bytes.now ≡ (g.M.Memory.model w.below).unit = grind (arith, common_steps) in
    let answers : ◌≡◌ {A = Result (Unit {0}) MemoryRefusal} c.map_err.result (told c.args.block c.write.result) = grind (arith, common_steps) in
    let writes : Writes (g.M.Memory.model w.below) (g.M.Memory.model c.write.new.self) (w.first + c.args.block) c.args.bytes.now c.write.result = subst (λ n. Writes (g.M.Memory.model w.below) (g.M.Memory.model c.write.new.self) n c.args.bytes.now c.write.result) below c.write.ensures in
    rw answers (window_writes (g.M.Memory.model w.below) (g.met.M.Memory.sound w.below) w.first w.count c.args.block there (g.M.Memory.model c.write.new.self) c.args.bytes.now c.write.result whole writes)
