use Rattle.std.proofs.Common.{◌≤◌, [], ◌∷◌, length, subst, arith}
use Rattle.composer.specs.Writer.{Writes}
use Rattle.composer.proofs.Written.{further}
use Rattle.composer.proofs.fields.Fields.put.Goals as goal

pub returns : goal.returns
returns c =
    let w = c.args.writer.now in
    let room : w.at ≤ length w.space.now = omega arith in
    let flags = rw c.is_at_start-first.ensures at c.flags.ensures in
    let start = subst (λ h. Writes w c.put.new.self (h ∷ length c.args.self.now.kind.now ∷ [])) flags c.put.ensures in
    further room (further room (further room (further room (further room start c.put_payload_length.ensures) c.put_id_length.ensures) c.put-2.ensures) c.put-3.ensures) c.put-4.ensures
