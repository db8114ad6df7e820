use Rattle.std.proofs.Common.{[], ◌∷◌, ◌++◌, Ok, Err, sym, refl, ap, ◌∙◌, subst}
use Rattle.t5t.specs.Detects.{Detects}
use Rattle.gate.specs.declared.answer.Answer.TheVariants as answer
use Rattle.gate.specs.declared.session.Session.TheVariants as session
use Rattle.gate.specs.Detecting.{kept_as}
use Rattle.gate.specs.Sessions.{air_over, fresh_air}
use Rattle.gate.proofs.rehearsal.Rehearsal.detect.Goals as goal

pub returns-in-Ok : goal.returns-in-Ok
returns-in-Ok c =
    let found = c.in-Ok.found in
    let left = c.detect.new.space in
    let detects = subst (λ t. Detects c.args.uid.0 (fresh_air c.args.self.now.tags) (air_over t left) (Ok found)) (sym c.keep.ensures.tags) c.in-Ok.ensures in
    let behind = c.keep.ensures.kept.0 ∙ ap (λ l. l ++ session.Detected found.session ∷ []) c.reserve.ensures.items in
    let told = c.keep.ensures.kept.1 ∙ ap (λ n. answer.SessionKept (kept_as n found)) c.reserve.ensures.len in
    record { unchanged = tt; detected = record { result = Ok found; space = left; detects = detects; finds = (behind, told); desk = c.keep.ensures.desk } }

pub returns-in-Err : goal.returns-in-Err
returns-in-Err c =
    record { unchanged = tt; detected = record { result = Err c.in-Err.not_found; space = c.detect.new.space; detects = c.in-Err.ensures; finds = (c.reserve.ensures.items, ap answer.Refused c.into.ensures); desk = refl } }
