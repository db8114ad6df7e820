use Rattle.t5t.proofs.DetectionLaws.{detection_laws}
use Rattle.t5t.proofs.session.Sighted.find_lawfully.Goals as goal

pub returns-clause-laws : goal.returns-clause-laws
returns-clause-laws g c = detection_laws c.args.self.uid.0 c.well_formed.0.1.1.0.1.1.0.1 _ _ (g.met.F.Field.sound c.args.field.now) c.find.result c.find.ensures
