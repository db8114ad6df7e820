use Rattle.std.proofs.Common.{◌≡◌, sym, ap, ◌∙◌, subst}
use Rattle.memory.specs.BlockLength.{bytes_of}
use Rattle.procedure.specs.Procedure.{Performs}
use Rattle.refusal.specs.declared.step.Step.TheVariants as Step
use Rattle.t5t.specs.Asking.{replied, received, kept_after}
use Rattle.t5t.specs.Calls.{air_in}
use Rattle.t5t.specs.Detection.{unit_of, with_unit, first, first_of}
use Rattle.t5t.specs.Heard.{reply_by}
use Rattle.t5t.proofs.Replies.{in_space, performs-one, unit-told}
use Rattle.t5t.proofs.call.Call.first_block.Goals as goal

pub returns-clause-read : goal.returns-clause-read
returns-clause-read g c =
    let sent = c.send_read-heard.ensures in
    let link = sent.link in
    let kept = c.keep.ensures in
    let h = c.send_read-heard.result in
    let s = c.send_read-heard.new.self.space.now in
    let told : c.unit_of-self.result ≡ unit_of (reply_by h s) = c.unit_of-self.ensures ∙ unit-told h s (in_space sent.exchange) in
    let unit = ap (λ l. l.unit) kept.link in
    let is : with_unit c.keep.result c.keep.new.self.link.unit ≡ first_of (reply_by h s) = (λ i. with_unit (kept.answer i) (unit i)) ∙ (λ i. with_unit (received Step.Container 0 (replied (bytes_of (told i)) (reply_by h s))) (told i)) in
    let count = ap (λ l. l.exchanges) kept.link ∙ ap (λ l. l.exchanges) link in
    let one = performs-one sent.exchange first_of (with_unit c.keep.result c.keep.new.self.link.unit) c.args.self.now.link.exchanges c.keep.new.self.link.exchanges is count in
    record {
      performs = subst (λ b. Performs (first c.args.self.now.link.uid.0) (air_in c.args.self.now) b (with_unit c.keep.result c.keep.new.self.link.unit) c.args.self.now.link.exchanges c.keep.new.self.link.exchanges) (sym kept.stays) one;
      kept = ap (λ l. l.kept) kept.link ∙ ap (λ l. kept_after c.keep.result l.kept) link;
      uid = ap (λ l. l.uid) kept.link ∙ ap (λ l. l.uid) link;
    }
