use Rattle.std.proofs.Common.{◌+◌, ◌≤◌, Err, sym, ap, ◌∙◌, subst}
use Rattle.std.proofs.lemmas.Result.{err_from_is_err_and}
use Rattle.memory.specs.BlockLength.{bytes_of}
use Rattle.shown.specs.Container.{limit}
use Rattle.t5t.proofs.Askings.{none_made, made_weaker}
use Rattle.t5t.proofs.Calls.{same_then}
use Rattle.t5t.proofs.Locates.{unsighted, uncontained, walked, from_none}
use Rattle.t5t.proofs.call.Call.locate.Goals as goal

pub returns-in_err-block : goal.returns-in_err-block
returns-in_err-block g c =
    let p = err_from_is_err_and c.from_residual.result c.from_residual.ensures.1 in
    let l = c.first_block.new.self.link in
    let done = unsighted c.args.self.now.link l _ _ c.in_err-block.field-0.0 c.from_residual.result (p.1 ∙ ap Err p.2) c.in_err-block.ensures.read in
    record {
      located = from_none c.requires done;
      within = none_made (λ x. (x.container.begin ≤ x.at) × (x.at + 2 ≤ x.container.end) × (x.container.end ≤ limit x.container.header (bytes_of l.unit))) c.from_residual.result p.1;
      uid = c.in_err-block.ensures.read.uid;
      air = c.in_err-block.ensures.air;
    }

pub returns-in_err-container : goal.returns-in_err-container
returns-in_err-container g c =
    let p = err_from_is_err_and c.from_residual-in_err-container.result c.from_residual-in_err-container.ensures.1 in
    let l = c.container.new.self.link in
    let was = c.in_ok-block.ensures.read in
    let asked = c.in_err-container.ensures.asked in
    let done = uncontained c.args.self.now.link c.first_block.new.self.link _ _ c.in_ok-block.block was l _ c.in_err-container.field-0.0 c.from_residual-in_err-container.result (p.1 ∙ ap Err p.2) asked in
    record {
      located = from_none c.requires done;
      within = none_made (λ x. (x.container.begin ≤ x.at) × (x.at + 2 ≤ x.container.end) × (x.container.end ≤ limit x.container.header (bytes_of l.unit))) c.from_residual-in_err-container.result p.1;
      uid = asked.uid ∙ was.uid;
      air = same_then c.in_ok-block.ensures.air c.in_err-container.ensures.air;
    }

pub returns : goal.returns
returns g c =
    let l = c.walk.new.self.link in
    let was = c.in_ok-block.ensures.read in
    let asked = c.in_ok-container.ensures.asked in
    let walk = c.walk.ensures.asked in
    let container = c.in_ok-container.container in
    let same = sym (walk.unit ∙ asked.unit) in
    let end = subst (λ u. container.end ≤ limit container.header (bytes_of u)) same c.in_ok-container.ensures.within.2 in
    let done = walked c.args.self.now.link c.first_block.new.self.link _ _ c.in_ok-block.block was c.container.new.self.link _ container asked l _ c.walk.result walk in
    record {
      located = from_none c.requires done;
      within = made_weaker c.walk.result (λ x w. (subst (λ z. z.begin ≤ x.at) (sym w.0) w.1, subst (λ z. x.at + 2 ≤ z.end) (sym w.0) w.2, subst (λ z. z.end ≤ limit z.header (bytes_of l.unit)) (sym w.0) end)) c.walk.ensures.within;
      uid = walk.uid ∙ asked.uid ∙ was.uid;
      air = same_then c.in_ok-block.ensures.air (same_then c.in_ok-container.ensures.air c.walk.ensures.air);
    }
