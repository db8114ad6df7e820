-- Exchanges put together from smaller ones. Assumes nothing.
use Rattle.std.proofs.Common.{◌≡◌, ℕ, Bool, true, false, cond, List, [], ◌∷◌, ◌++◌, map, length, Some, None, Option, sym, refl, ap, ◌∙◌, append_assoc, append-nil, arith}
use mathlib.Core.List.{map-append}
use Rattle.std.specs.List.{flat_map}
use Rattle.std.specs.Option.{option_map, option_to_list}
use Rattle.std.proofs.lemmas.Bool.{lt-ltb, ltb-true}
use Rattle.tag.specs.Means.{Takes, laid_by}
use Rattle.tag.specs.Rules.{turn}
use Rattle.tag.specs.Tag.{TagModel}
use Rattle.field.specs.declared.heard.Heard.{Heard}
use Rattle.field.specs.declared.heard.Heard.TheVariants.{Nothing}
use Rattle.field.specs.declared.span.Span.{Span}
use Rattle.field.specs.declared.span.Span.TheVariants.{Endless, Left}
pub use Rattle.field.specs.Exchange.{heard_by}
use Rattle.field.specs.Exchange.{hears, says, heard_from, laid_all, heard_of, together, Exchange}
use Rattle.field.specs.Placed.{Placed, SoundAll}
use Rattle.field.specs.Span.{fallen, reaches, answers}

-- ---- two fields in one

joined_append : (f : Placed → List (List ℕ)) (xs ys : List Placed) → flat_map f (xs ++ ys) ≡ flat_map f xs ++ flat_map f ys
joined_append f [] ys = refl
joined_append f (x ∷ xs) ys = ap (λ l. f x ++ l) (joined_append f xs ys) ∙ sym (append_assoc (f x) (flat_map f xs) (flat_map f ys))

pub heard-append : (f : List ℕ) (xs ys : List Placed) → heard_from f (xs ++ ys) ≡ heard_from f xs ++ heard_from f ys
unfolding heard_from
heard-append f xs ys = joined_append (says f) xs ys

pub laid-append : (xs ys : List (List ℕ)) (s : List ℕ) → laid_all (xs ++ ys) s ≡ laid_all ys (laid_all xs s)
laid-append [] ys s = refl
laid-append (x ∷ xs) ys s = laid-append xs ys _

pub counted-append : (xs ys : List (List ℕ)) → heard_of (xs ++ ys) ≡ together (heard_of xs) (heard_of ys)
counted-append [] ys = refl
counted-append (a ∷ []) [] = refl
counted-append (a ∷ []) (b ∷ []) = refl
counted-append (a ∷ []) (b ∷ c ∷ ys) = refl
counted-append (a ∷ b ∷ xs) ys = refl

-- each part of an exchange of two fields, for `grind`
pub ruleset appended = (map-append, heard-append, laid-append, counted-append)

pub exchange_both : {ls ls' rs rs' : List Placed} {f s s' s'' : List ℕ} {a b : Heard} → Exchange ls ls' f s s' a → Exchange rs rs' f s' s'' b → Exchange (ls ++ rs) (ls' ++ rs') f s s'' (together a b)
exchange_both {ls} {ls'} {rs} {rs'} {f} {s} {s'} {s''} {a} {b} x y =
    let ea = x.after in
    let eb = y.after in
    let ha = x.heard in
    let hb = y.heard in
    record {
      after = (λ i. ea i ++ eb i) ∙ sym (map-append (hears f) ls rs);
      heard = (λ i. together (ha i) (hb i)) ∙ sym (counted-append (heard_from f ls) (heard_from f rs)) ∙ ap heard_of (sym (heard-append f ls rs));
      left = y.left ∙ ap (laid_all (heard_from f rs)) x.left ∙ sym (laid-append (heard_from f ls) (heard_from f rs) s) ∙ ap (λ l. laid_all l s) (sym (heard-append f ls rs));
    }

pub sound_both : (ls rs : List Placed) → SoundAll ls → SoundAll rs → SoundAll (ls ++ rs)
sound_both [] rs x y = y
sound_both (l ∷ ls) rs x y = (x.0, sound_both ls rs x.1 y)

-- ---- one tag

-- whose answer comes back, gets the frame
pub answers-reaches : (sp : Span) → answers sp ≡ true → reaches sp ≡ true
answers-reaches Endless e = refl
answers-reaches (Left n) e = lt-ltb 0 n (let h = ltb-true 1 n e in omega arith)

said : (o : Option (List ℕ)) (s : List ℕ) → laid_all (option_to_list o) s ≡ laid_by o s
said None s = refl
said (Some a) s = refl

counted : (o : Option (List ℕ)) → heard_by (option_map length o) ≡ heard_of (option_to_list o)
counted None = refl
counted (Some a) = refl

abbrev pub at_span : TagModel → Span → Placed
at_span t sp = record { tag = t; span = sp }

heard-one : (f : List ℕ) (p : Placed) → heard_from f (p ∷ []) ≡ says f p
unfolding heard_from
heard-one f p = append-nil _

hears-one : (f : List ℕ) (t : TagModel) (sp : Span) (b : Bool) → reaches sp ≡ b → hears f (at_span t sp) ≡ at_span (cond b (turn t f).after t) (fallen sp)
unfolding hears
hears-one f t sp b e = λ i. at_span (cond (e i) (turn t f).after t) (fallen sp)

says-one : (f : List ℕ) (t : TagModel) (sp : Span) (b : Bool) → answers sp ≡ b → says f (at_span t sp) ≡ cond b (option_to_list (turn t f).says) []
unfolding says
says-one f t sp b e = λ i. cond (e i) (option_to_list (turn t f).says) []

module _ (t : TagModel) (sp sp' : Span) (f s : List ℕ) (fell : sp' ≡ fallen sp) where
  after_slot : (t' : TagModel) (b : Bool) → t' ≡ cond b (turn t f).after t → reaches sp ≡ b → at_span t' sp' ∷ [] ≡ map (hears f) (at_span t sp ∷ [])
  after_slot t' b e r = (λ i. at_span (e i) (fell i) ∷ []) ∙ ap (λ p. p ∷ []) (sym (hears-one f t sp b r))

  -- the answer comes back
  pub slot_answered : (t' : TagModel) (s' : List ℕ) (r : Option ℕ) (h : Heard) → answers sp ≡ true → h ≡ heard_by r → Takes t t' (turn t f) s s' r → Exchange (at_span t sp ∷ []) (at_span t' sp' ∷ []) f s s' h
  slot_answered t' s' r h e eh x =
      let heard-is = heard-one f (at_span t sp) ∙ says-one f t sp true e in
      record {
        after = after_slot t' true x.after (answers-reaches sp e);
        heard = eh ∙ ap heard_by x.answer ∙ counted (turn t f).says ∙ ap heard_of (sym heard-is);
        left = x.left ∙ sym (said (turn t f).says s) ∙ ap (λ l. laid_all l s) (sym heard-is);
      }

  unheard : (t' : TagModel) (b : Bool) → answers sp ≡ false → t' ≡ cond b (turn t f).after t → reaches sp ≡ b → Exchange (at_span t sp ∷ []) (at_span t' sp' ∷ []) f s s Nothing
  unheard t' b e et r =
      let silent = sym (heard-one f (at_span t sp) ∙ says-one f t sp false e) in
      record { after = after_slot t' b et r; heard = ap heard_of silent; left = ap (λ l. laid_all l s) silent }

  -- it is lost
  pub slot_lost : (t' : TagModel) (lost lost' : List ℕ) (r : Option ℕ) → answers sp ≡ false → reaches sp ≡ true → Takes t t' (turn t f) lost lost' r → Exchange (at_span t sp ∷ []) (at_span t' sp' ∷ []) f s s Nothing
  slot_lost t' lost lost' r e e' x = unheard t' true e x.after e'

  -- the frame does not come to the tag
  pub slot_out : answers sp ≡ false → reaches sp ≡ false → Exchange (at_span t sp ∷ []) (at_span t sp' ∷ []) f s s Nothing
  slot_out e e' = unheard t false e refl e'

-- no tag at all
pub exchange_none : (f s : List ℕ) → Exchange [] [] f s s Nothing
unfolding heard_from
exchange_none f s = record { after = refl; heard = refl; left = refl }
