-- The answer for a message that is to go into a space, by its length. Assumes nothing.
use Rattle.std.proofs.Common.{◌≡◌, ℕ, ◌<◌, ◌≤◌, List, length, Ok, Err, Result, sym, ◌∙◌, ⊎_elim}
use Rattle.std.proofs.lemmas.Bool.{cond-true, cond-false, cases_lt, lt-ltb, le-ltb, le-leb, lt-leb}
use Rattle.header.specs.declared.refusal.RecordRefusal.{RecordRefusal}
use Rattle.header.specs.declared.refusal.RecordRefusal.TheVariants.{SpaceShort, BadDescription}
use Rattle.composer.specs.Composing.{longest, fitted}

pub no_answer : {n : ℕ} {e : RecordRefusal} → ◌≡◌ {A = Result ℕ RecordRefusal} (Err e) (Ok n) → ⊥
no_answer {n} {e} p = cc

module _ (m : List ℕ) where
  pub fitted-long : (room : ℕ) → longest < length m → fitted m room ≡ Err (BadDescription 0)
  fitted-long room h = cond-true _ _ _ (lt-ltb longest (length m) h)

  pub fitted_fits : (room : ℕ) → length m ≤ longest → length m ≤ room → fitted m room ≡ Ok (length m)
  fitted_fits room h r = cond-false _ _ _ (le-ltb longest (length m) h) ∙ cond-true _ _ _ (le-leb (length m) room r)

  pub fitted_short : (room : ℕ) → length m ≤ longest → room < length m → fitted m room ≡ Err SpaceShort
  fitted_short room h r = cond-false _ _ _ (le-ltb longest (length m) h) ∙ cond-false _ _ _ (lt-leb (length m) room r)

  -- it is answered with its length, where it is not too long
  pub record Taken (n : ℕ) : Type 0 where
    pub is : n ≡ length m
    pub short : length m ≤ longest

  pub fitted_ok : (room n : ℕ) → fitted m room ≡ Ok n → Taken n
  fitted_ok room n e =
      ⊎_elim (λ h. absurd (no_answer (sym (fitted-long room h) ∙ e)))
      (λ h.
      ⊎_elim (λ r. absurd (no_answer (sym (fitted_short room h r) ∙ e)))
      (λ r. let g : Ok (length m) ≡ Ok n = sym (fitted_fits room h r) ∙ e in record { is = sym (cc); short = h })
      (cases_lt room (length m)))
      (cases_lt longest (length m))
