use Rattle.std.proofs.Common.{◌≡◌, ◌-◌, eqb, length, take, drop, subst, arith, length-drop, take_all}
use Rattle.ndef.specs.Reader.{Lays}
use Rattle.ndef.proofs.Finds.{found}
use Rattle.ndef.proofs.reader.Reader.record.Goals as goal

pub returns-clause-found : goal.returns-clause-found
returns-clause-found c =
    let m = c.args.self.now.message.now in
    let p = c.args.self.now.place in
    let rest : take (length m - p) (drop p m) ≡ drop p m = take_all _ _ (omega (arith, length-drop p m)) in
    let lays = subst (λ bs. Lays (eqb p 0) bs c.in_ok-layout.layout) rest c.in_ok-layout.ensures in
    found m p _ lays _ _ _ (record { kind_at = c.part-kind.ensures; id_at = c.part-id.ensures; payload_at = c.part-payload.ensures })
