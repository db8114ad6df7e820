use Rattle.std.proofs.Common.{Err, sym, ap, ◌∙◌, subst}
use Rattle.std.proofs.lemmas.Result.{err_from_is_err_and}
use Rattle.t5t.specs.Calls.{air_in}
use Rattle.t5t.specs.Copied.{MessageRead}
use Rattle.t5t.proofs.Readings.{behind_t, unread, read_empty, read_short, read_all, read_broken}
use Rattle.t5t.proofs.tlvs.Tlvs.read_message.Goals as goal

pub returns-in_err-value-clause-read : goal.returns-in_err-value-clause-read
returns-in_err-value-clause-read g c =
    let p = err_from_is_err_and c.from_residual.result c.from_residual.ensures.1 in
    let t = c.args.self.now in
    let l' = c.length_field.new.self.call.now in
    let done = unread t.container.end t.at t.call.now.link l'.link _ _ c.args.message.now c.in_err-value.field-0.0 (behind_t t.container.end t.at c.in_err-value.ensures.takes.asked) in
    subst (MessageRead t.container.end t.at t.call.now.link l'.link (air_in t.call.now) (air_in l') c.args.message.now c.args.message.now) (sym (p.1 ∙ ap Err p.2)) done

pub returns-then-value-eq0-clause-read : goal.returns-then-value-eq0-clause-read
returns-then-value-eq0-clause-read g c =
    let t = c.args.self.now in
    let l' = c.length_field.new.self.call.now in
    let done = read_empty t.container.end t.at t.call.now.link l'.link _ _ c.args.message.now c.in_ok-value.value (behind_t t.container.end t.at c.in_ok-value.ensures.takes.asked) c.stop.result c.if-value-eq0.true c.stop.ensures in
    subst (λ z. MessageRead t.container.end t.at t.call.now.link l'.link (air_in t.call.now) (air_in l') c.args.message.now c.args.message.now (Err z)) (sym c.into.ensures) done

pub returns-then-message-value-clause-read : goal.returns-then-message-value-clause-read
returns-then-message-value-clause-read g c =
    let t = c.args.self.now in
    let l' = c.length_field.new.self.call.now in
    let done = read_short t.container.end t.at t.call.now.link l'.link _ _ c.args.message.now c.in_ok-value.value (behind_t t.container.end t.at c.in_ok-value.ensures.takes.asked) c.if-value-eq0.false c.stop-then-message-value.result c.if-message-value.true c.stop-then-message-value.ensures in
    subst (λ z. MessageRead t.container.end t.at t.call.now.link l'.link (air_in t.call.now) (air_in l') c.args.message.now c.args.message.now (Err z)) (sym c.into-then-message-value.ensures) done

pub returns-in_err-copy-clause-read : goal.returns-in_err-copy-clause-read
returns-in_err-copy-clause-read g c =
    let p = err_from_is_err_and c.from_residual-in_err-copy.result c.from_residual-in_err-copy.ensures.1 in
    let t = c.args.self.now in
    let l' = c.length_field.new.self.call.now in
    let l'' = c.copy.new.self.call.now in
    let done = read_broken t.container.end t.at t.call.now.link l'.link _ _ c.args.message.now c.in_ok-value.value (behind_t t.container.end t.at c.in_ok-value.ensures.takes.asked) c.if-value-eq0.false c.if-message-value.false l''.link _ c.copy.new.message c.in_err-copy.field-0.0 c.in_err-copy.ensures.copied in
    subst (MessageRead t.container.end t.at t.call.now.link l''.link (air_in t.call.now) (air_in l'') c.args.message.now c.copy.new.message) (sym (p.1 ∙ ap Err p.2)) done

pub returns-clause-read : goal.returns-clause-read
returns-clause-read g c =
    let t = c.args.self.now in
    let l' = c.length_field.new.self.call.now in
    read_all t.container.end t.at t.call.now.link l'.link _ _ c.args.message.now c.in_ok-value.value (behind_t t.container.end t.at c.in_ok-value.ensures.takes.asked) c.if-value-eq0.false c.if-message-value.false c.copy.new.self.call.now.link _ c.copy.new.message tt c.in_ok-copy.ensures.copied
