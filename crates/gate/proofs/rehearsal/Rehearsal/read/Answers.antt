use Rattle.std.proofs.Common.{◌≡◌, ◌<◌, length, drop, replicate, Ok, Err, vec_len, slice_index_or, refl, ap, ◌∙◌, subst, rules, take_at}
use Rattle.gate.specs.declared.answer.Answer.TheVariants as answer
use Rattle.gate.specs.Receiving.{Receives}
use Rattle.gate.specs.Sessions.{ReadsWith, air_over, fresh_air}
use Rattle.gate.proofs.rehearsal.Rehearsal.read.Goals as goal

pub returns-in-Ok : goal.returns-in-Ok
returns-in-Ok c =
    let self = c.args.self.now in
    let session = c.in_ok-session.session.now in
    let received = c.in-Ok.received in
    let left = c.read.new.space in
    let message = c.in_ok-message.message in
    let last = c.read.new.message in
    let there : c.args.number < vec_len self.sessions = search rules in
    let is : session ≡ slice_index_or self.sessions.items c.args.number session = search rules in
    let room : c.as_mut_slice.result.now ≡ replicate c.args.room 0 = c.as_mut_slice.ensures.value ∙ c.in_ok-message.ensures.items_if_clones_equal (λ y e. e) in
    let reads = subst (λ m. ReadsWith session (fresh_air self.tags) (air_over c.read.new.self left) m last (Ok received)) room c.in-Ok.ensures in
    let long : length last ≡ message.len = c.read.auto.message ∙ c.as_mut_slice.ensures.len in
    let same = take_at last (drop (length last) message.items) message.len long in
    let receives = subst (λ l. Receives (Ok received) l self.desk c.receive.new.self c.receive.result) same c.receive.ensures.received in
    record { unchanged = tt; received = record { there = there; result = Ok received; space = left; left = last; reads = record { session = session; is = is; reads = reads }; receives = receives; sessions = refl; draft = c.receive.ensures.draft } }

pub returns-in-Err : goal.returns-in-Err
returns-in-Err c =
    let self = c.args.self.now in
    let session = c.in_ok-session.session.now in
    let not_read = c.in-Err.not_read in
    let left = c.read.new.space in
    let last = c.read.new.message in
    let there : c.args.number < vec_len self.sessions = search rules in
    let is : session ≡ slice_index_or self.sessions.items c.args.number session = search rules in
    let room : c.as_mut_slice.result.now ≡ replicate c.args.room 0 = c.as_mut_slice.ensures.value ∙ c.in_ok-message.ensures.items_if_clones_equal (λ y e. e) in
    let reads = subst (λ m. ReadsWith session (fresh_air self.tags) (air_over c.read.new.self left) m last (Err not_read)) room c.in-Err.ensures in
    record { unchanged = tt; received = record { there = there; result = Err not_read; space = left; left = last; reads = record { session = session; is = is; reads = reads }; receives = (refl, ap answer.Refused c.into.ensures); sessions = refl; draft = refl } }
