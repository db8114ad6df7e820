-- What was heard, as the reply of a procedure. Assumes nothing.
use Rattle.std.proofs.Common.{◌≡◌, ℕ, ◌+◌, ◌-◌, List, [], ◌∷◌, length, drop, sym, refl, ap, ◌∙◌, subst, arith, length-append, length-take-le, take_at}
use Rattle.memory.specs.BlockLength.{listed}
use Rattle.t5t.specs.Detection.{or_four, unit_of, unit_by}
use Rattle.field.specs.declared.heard.Heard.TheVariants.{Nothing, One, Several}
use Rattle.field.specs.declared.heard.Heard.{Heard}
use Rattle.field.specs.Exchange.{heard_from, heard_of, laid_all, Exchange}
use Rattle.field.specs.Placed.{Placed}
use Rattle.procedure.specs.Procedure.{Reply, one, reply_of, answer, send, Performs}
use Rattle.t5t.specs.Heard.{reply_by, InSpace}

reply_laid : (hs : List (List ℕ)) (s : List ℕ) → reply_of hs ≡ reply_by (heard_of hs) (laid_all hs s)
reply_laid [] s = refl
reply_laid (a ∷ []) s = ap one (sym (take_at a (drop (length a) s) (length a) refl))
reply_laid (a ∷ b ∷ hs) s = refl

in_laid : (hs : List (List ℕ)) (s : List ℕ) → InSpace (heard_of hs) (laid_all hs s)
in_laid [] s = tt
in_laid (a ∷ []) s = let l = length-append a (drop (length a) s) in omega arith
in_laid (a ∷ b ∷ hs) s = tt

module _ {ts ts' : List Placed} {f s s' : List ℕ} {h : Heard} (x : Exchange ts ts' f s s' h) where
  -- the reply that was heard lies in the space
  pub reply_is : reply_of (heard_from f ts) ≡ reply_by h s'
  reply_is =
      let a = sym x.heard in
      let b = sym x.left in
      reply_laid (heard_from f ts) s ∙ (λ i. reply_by (a i) (b i))

  pub in_space : InSpace h s'
  in_space =
      let a = sym x.heard in
      let b = sym x.left in
      subst (λ z. InSpace h z) b (subst (λ z. InSpace z (laid_all (heard_from f ts) s)) a (in_laid (heard_from f ts) s))

  -- one frame, and what is made of its reply
  pub performs-one : {V : Type 0} (on : Reply → V) (v : V) (n m : ℕ) → v ≡ on (reply_by h s') → m ≡ n + 1 → Performs (send f (λ r. answer (on r))) (record { tags = ts; space = s }) (record { tags = ts'; space = s' }) v n m
  performs-one on v n m ev em =
      let a = x.after in
      let b = x.left in
      record { value = ev ∙ ap on (sym reply_is); air = λ i. record { tags = a i; space = b i }; sent = omega arith }

-- the block length that is told is the same for what was heard and for the reply
pub unit-told : (h : Heard) (s : List ℕ) → InSpace h s → unit_by h ≡ unit_of (reply_by h s)
unit-told Nothing s low = refl
unit-told (One n) s low = ap (λ k. or_four (listed (k - 1))) (sym (length-take-le n s low))
unit-told Several s low = refl
