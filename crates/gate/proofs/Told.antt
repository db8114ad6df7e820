-- What is told of the answers that came back. Assumes nothing.
use Rattle.std.proofs.Common.{◌≡◌, ℕ, List, [], ◌∷◌, length, take, drop, refl, ap, ◌∙◌, subst, take_at}
use Rattle.field.specs.declared.heard.Heard.{Heard}
use Rattle.field.specs.Exchange.{heard_of, laid_all}
use Rattle.gate.specs.declared.answer.Answer.{Answer}
use Rattle.gate.specs.Hearings.{Tells, Told}

told : (answers : List (List ℕ)) (space after : List ℕ) (a : Answer) → after ≡ laid_all answers space → Tells (heard_of answers) after a → Told answers a
told [] space after a left tells = tells
told (x ∷ []) space after a left tells =
    (tells.0, tells.1, tells.2 ∙ ap (take (length x)) left ∙ take_at x (drop (length x) space) (length x) refl)
told (x ∷ y ∷ more) space after a left tells = tells

pub told-heard : (answers : List (List ℕ)) (h : Heard) (space after : List ℕ) (a : Answer) → h ≡ heard_of answers → after ≡ laid_all answers space → Tells h after a → Told answers a
told-heard answers h space after a heard left tells =
    told answers space after a left (subst (λ k. Tells k after a) heard tells)
