-- The loop that adds up what the records take. Assumes nothing.
use Rattle.std.proofs.Common.{◌≡◌, ℕ, ◌-◌, ◌<◌, ◌≤◌, min, true, false, cond, ◌⊎◌, List, [], ◌∷◌, length, None, Ok, Err, Option, sym, refl, ap, ◌∙◌, inl, inr, arith}
use Rattle.std.proofs.lemmas.Bool.{cond-true, cond-false}
use Rattle.header.specs.declared.refusal.RecordRefusal.{RecordRefusal}
use Rattle.header.specs.declared.refusal.RecordRefusal.TheVariants.{BadDescription}
use Rattle.composer.specs.Composing.{longest, fitted}
use Rattle.composer.specs.Message.{none, message}
use Rattle.composer.specs.Records.{fit, Sized}
use Rattle.ndef.specs.Content.{Content}
use Rattle.composer.proofs.Amounts.{amount, message-length}
use Rattle.composer.proofs.Fitted.{fitted-long, fitted_fits, fitted_short}

-- the largest `usize`
abbrev most : ℕ
most = 18446744073709551615

-- of the records cs, those before cs' take `total` bytes, or more than a number can tell
pub record Counted (cs : List Content) (f : Option RecordRefusal) (cs' : List Content) (f' : Option RecordRefusal) (total : ℕ) : Type 0 where
  pub ends : f ≡ f'
  pub part : amount cs' ≤ amount cs
  pub sum : total ≡ min (amount cs - amount cs') most

-- a list whose records take no bytes is empty
none-counted : (cs : List Content) → amount cs ≡ 0 → none cs ≡ true
none-counted [] e = refl
none-counted (c ∷ cs) e = absurd (omega arith)

some_counted : (cs : List Content) → 0 < amount cs → none cs ≡ false
some_counted [] h = absurd (omega arith)
some_counted (c ∷ cs) h = refl

module _ {cs : List Content} {f : Option RecordRefusal} {cs' : List Content} {f' : Option RecordRefusal} {total : ℕ} (so_far : Counted cs f cs' f' total) where
  module _ (over : (cs' ≡ []) × (f' ≡ None)) where
    answer : (room : ℕ) → fit f cs room ≡ cond (none cs) (Err (BadDescription 0)) (fitted (message cs) room)
    answer room = ap (λ o. fit o cs room) (so_far.ends ∙ over.1)

    counted_all : total ≡ min (amount cs) most
    counted_all = let nothing : amount cs' ≡ 0 = ap amount over.0 in omega (arith, so_far.sum)

    pub counted_refused : (total ≡ 0) ⊎ (longest < total) → (room : ℕ) → fit f cs room ≡ Err (BadDescription 0)
    counted_refused (inl z) room =
        let all = counted_all in
        answer room ∙ cond-true _ _ _ (none-counted cs (omega arith))
    counted_refused (inr h) room =
        let all = counted_all in
        let long = message-length true cs in
        answer room ∙ cond-false _ _ _ (some_counted cs (omega arith)) ∙ fitted-long (message cs) room (omega arith)

    pub counted_sized : 0 < total → total ≤ longest → Sized f cs total
    counted_sized some short =
        let all = counted_all in
        let long = message-length true cs in
        let is : total ≡ length (message cs) = omega arith in
        let go = λ (room : ℕ). answer room ∙ cond-false _ _ _ (some_counted cs (omega arith)) in
        record {
          good = so_far.ends ∙ over.1;
          is = is;
          few = short;
          short = λ room h. go room ∙ fitted_short (message cs) room (omega arith) (omega arith);
          enough = λ room h. go room ∙ fitted_fits (message cs) room (omega arith) (omega arith) ∙ ap Ok (sym is);
        }
