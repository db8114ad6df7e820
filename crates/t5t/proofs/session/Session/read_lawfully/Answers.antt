use Rattle.memory.specs.BlockLength.{bytes_of}
use Rattle.t5t.proofs.ReadingLaws.{reading_laws}
use Rattle.t5t.proofs.session.Session.read_lawfully.Goals as goal

pub returns-clause-laws : goal.returns-clause-laws
returns-clause-laws g c =
    let s = c.args.self.now in
    reading_laws s.uid.0 (bytes_of s.unit) s.low s.place _ _ (g.met.F.Field.sound c.args.field.now) _ _ c.read_there.result c.read_there.ensures
