-- The laws of an exchange, for whoever builds on fields: what it does to each tag, and whose answer it brings. Assumes
-- nothing.
use Rattle.std.proofs.Common.{◌≡◌, ℕ, ◌-◌, ◌≤◌, false, List, [], ◌∷◌, ◌++◌, map, length, Some, None, Option, sym, refl, ap, ◌∙◌, inl, inr, append-nil, arith}
use mathlib.Core.List.{map-append}
use Rattle.std.specs.List.{AllByRecursion, flat_map}
use Rattle.std.specs.Option.{option_to_list}
use Rattle.std.proofs.lemmas.Bool.{cond-false, cond_both, true≢false, le-ltb, ltb-false}
use Rattle.memory.specs.Model.{Sound}
use Rattle.tag.specs.Means.{longest}
use Rattle.tag.specs.Rules.{silence, turn}
use Rattle.tag.proofs.Another.{another_silent}
use Rattle.tag.proofs.Keeps.{Short, turn_keeps}
use Rattle.field.specs.declared.span.Span.{Span}
use Rattle.field.specs.declared.span.Span.TheVariants.{Endless, Left}
use Rattle.field.specs.Addressed.{AddressedTo, Aside, Lone, NoLonger}
use Rattle.field.specs.Exchange.{hears, says, heard_from}
use Rattle.field.specs.Placed.{Placed, SoundAll}
use Rattle.field.specs.Span.{fallen, reaches, answers}
use Rattle.field.proofs.Exchanges.{answers-reaches, heard-append}

-- ---- spans

-- no span grows
pub span_falls : (s : Span) → NoLonger (fallen s) s
span_falls Endless = tt
span_falls (Left n) = omega arith

pub hears_falls : (f : List ℕ) (p : Placed) → NoLonger (hears f p).span p.span
unfolding hears
hears_falls f p = span_falls p.span

-- a tag that is out of reach stays there
pub gone_for_good : (s : Span) → reaches s ≡ false → reaches (fallen s) ≡ false
gone_for_good Endless e = e
gone_for_good (Left n) e = le-ltb 0 (n - 2) (let h = ltb-false 0 n e in omega arith)

-- ---- a frame for one tag

module _ (u : ℕ) (f : List ℕ) (to : AddressedTo u f) where
  -- a tag aside keeps its bytes, locks and state, and is not heard
  silent_turn : (p : Placed) → (p.tag.uid ≡ u → ⊥) → turn p.tag f ≡ silence p.tag
  silent_turn p other =
      another_silent p.tag f to.addressed (λ e. other (sym e ∙ to.uid)) to.selects-none

  pub aside_kept : (p : Placed) → Aside u p → (hears f p).tag ≡ p.tag
  unfolding hears
  aside_kept p (inl other) =
      cond_both (reaches p.span) (turn p.tag f).after p.tag (λ t. t ≡ p.tag) (λ r. ap (λ t. t.after) (silent_turn p other)) (λ r. refl)
  aside_kept p (inr gone) = cond-false _ _ _ gone

  pub aside_silent : (p : Placed) → Aside u p → says f p ≡ []
  unfolding says
  aside_silent p (inl other) =
      cond_both (answers p.span) (option_to_list (turn p.tag f).says) [] (λ l. l ≡ []) (λ r. ap (λ t. option_to_list t.says) (silent_turn p other)) (λ r. refl)
  aside_silent p (inr gone) =
      cond_both (answers p.span) (option_to_list (turn p.tag f).says) [] (λ l. l ≡ []) (λ a. absurd (true≢false (sym (answers-reaches p.span a) ∙ gone))) (λ r. refl)

  -- and stays aside
  pub aside_stays : (p : Placed) → Aside u p → Aside u (hears f p)
  unfolding hears
  aside_stays p (inl other) = inl (λ e. other (sym (ap (λ t. t.uid) (aside_kept p (inl other))) ∙ e))
  aside_stays p (inr gone) = inr (gone_for_good p.span gone)

  asides_silent : (ps : List Placed) → AllByRecursion (Aside u) ps → heard_from f ps ≡ []
  unfolding heard_from
  asides_silent [] a = refl
  asides_silent (p ∷ ps) a = ap (λ l. l ++ flat_map (says f) ps) (aside_silent p a.0) ∙ asides_silent ps a.1

  asides_stay : (ps : List Placed) → AllByRecursion (Aside u) ps → AllByRecursion (Aside u) (map (hears f) ps)
  asides_stay [] a = tt
  asides_stay (p ∷ ps) a = (aside_stays p a.0, asides_stay ps a.1)

  -- a list with one bearer of the UID answers as that tag alone
  pub lone_heard : (ts : List Placed) (p : Placed) → Lone u ts p → heard_from f ts ≡ heard_from f (p ∷ [])
  lone_heard ts p l =
      let a = asides_silent l.front l.before in
      let b = asides_silent l.back l.behind in
      ap (heard_from f) l.whole ∙ heard-append f l.front (p ∷ l.back) ∙ ap (λ x. x ++ heard_from f (p ∷ l.back)) a ∙ heard-append f (p ∷ []) l.back ∙ ap (λ x. heard_from f (p ∷ []) ++ x) b ∙ append-nil (heard_from f (p ∷ []))

  -- and has one bearer afterwards
  pub lone_stays : (ts : List Placed) (p : Placed) → Lone u ts p → Lone u (map (hears f) ts) (hears f p)
  lone_stays ts p l =
      record {
        front = map (hears f) l.front;
        back = map (hears f) l.back;
        whole = ap (map (hears f)) l.whole ∙ map-append (hears f) l.front (p ∷ l.back);
        before = asides_stay l.front l.before;
        behind = asides_stay l.back l.behind;
      }

-- ---- any frame

abbrev pub Brief : List ℕ → Type 0
Brief a = length a ≤ longest

short-listed : (o : Option (List ℕ)) → Short o → AllByRecursion Brief (option_to_list o)
short-listed None s = tt
short-listed (Some a) s = (s, tt)

both : (xs ys : List (List ℕ)) → AllByRecursion Brief xs → AllByRecursion Brief ys → AllByRecursion Brief (xs ++ ys)
both [] ys a b = b
both (x ∷ xs) ys a b = (a.0, both xs ys a.1 b)

says-brief : (f : List ℕ) (p : Placed) → Sound p.tag.memory → AllByRecursion Brief (says f p)
unfolding says
says-brief f p s =
    cond_both (answers p.span) (option_to_list (turn p.tag f).says) [] (AllByRecursion Brief) (λ a. short-listed _ (turn_keeps p.tag s f).short) (λ a. tt)

-- no answer is longer than the longest
pub heard-brief : (f : List ℕ) (ps : List Placed) → SoundAll ps → AllByRecursion Brief (heard_from f ps)
unfolding heard_from
heard-brief f [] s = tt
heard-brief f (p ∷ ps) s = both (says f p) (flat_map (says f) ps) (says-brief f p s.0) (heard-brief f ps s.1)

-- every memory stays sound
hears-sound : (f : List ℕ) (p : Placed) → Sound p.tag.memory → Sound (hears f p).tag.memory
unfolding hears
hears-sound f p s =
    cond_both (reaches p.span) (turn p.tag f).after p.tag (λ t. Sound t.memory) (λ r. (turn_keeps p.tag s f).sound) (λ r. s)

pub sound_stays : (f : List ℕ) (ps : List Placed) → SoundAll ps → SoundAll (map (hears f) ps)
sound_stays f [] s = tt
sound_stays f (p ∷ ps) s = (hears-sound f p s.0, sound_stays f ps s.1)
