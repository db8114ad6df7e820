-- Procedures put together. Assumes nothing.
use Rattle.std.proofs.Common.{◌≡◌, ℕ, ◌+◌, List, sym, refl, ap, ◌∙◌, arith}
use Rattle.field.specs.Exchange.{heard_from}
use Rattle.procedure.specs.Procedure.{reply_of, Procedure, answer, send, bind, Air, stirred, Outcome, counted, perform, Performs, Sends}

-- the second procedure starts from where the first has left the air, and the frames of both count
abbrev pub onwards : {V W : Type 0} → Outcome V → (V → Procedure W) → Outcome W
onwards o next =
    record { value = (perform (next o.value) o.air).value; air = (perform (next o.value) o.air).air; sent = o.sent + (perform (next o.value) o.air).sent }

pub perform-bind : {V W : Type 0} (p : Procedure V) (next : V → Procedure W) (a : Air) → perform (bind p next) a ≡ onwards (perform p a) next
perform-bind (answer v) next a =
    let z : (perform (next v) a).sent ≡ 0 + (perform (next v) a).sent = omega arith in
    λ i. record { value = (perform (next v) a).value; air = (perform (next v) a).air; sent = z i }
perform-bind (send f on) next a =
    let rest = perform-bind (on (reply_of (heard_from f a.tags))) next (stirred f a) in
    let o = perform (on (reply_of (heard_from f a.tags))) (stirred f a) in
    let n = perform (next o.value) o.air in
    let z : o.sent + n.sent + 1 ≡ o.sent + 1 + n.sent = omega arith in
    ap counted rest ∙ (λ i. record { value = n.value; air = n.air; sent = z i })

-- an answer at once
pub performs-none : {V : Type 0} (a : Air) (v : V) (n : ℕ) → Performs (answer v) a a v n n
performs-none a v n = record { value = refl; air = refl; sent = omega arith }

-- one call after the other
pub performs_then : {V W : Type 0} (p : Procedure V) (next : V → Procedure W) (a b c : Air) (v : V) (w : W) (n m k : ℕ) → Performs p a b v n m → Performs (next v) b c w m k → Performs (bind p next) a c w n k
performs_then p next a b c v w n m k x y =
    let whole = perform-bind p next a in
    let va = x.value in
    let vb = x.air in
    let vc = x.sent in
    let vd = y.sent in
    let ve : (perform (next v) b).sent ≡ (perform (next (perform p a).value) (perform p a).air).sent = λ i. (perform (next (va i)) (vb i)).sent in
    let vf = ap (λ o. o.sent) whole in
    record {
      value = y.value ∙ (λ i. (perform (next (va i)) (vb i)).value) ∙ sym (ap (λ o. o.value) whole);
      air = y.air ∙ (λ i. (perform (next (va i)) (vb i)).air) ∙ sym (ap (λ o. o.air) whole);
      sent = omega arith;
    }

pub sends_bind : {V W : Type 0} (such : List ℕ → Type 0) (p : Procedure V) (next : V → Procedure W) → Sends such p → ((v : V) → Sends such (next v)) → Sends such (bind p next)
sends_bind such (answer v) next s t = t v
sends_bind such (send f on) next s t = (s.0, λ r. sends_bind such (on r) next (s.1 r) t)
