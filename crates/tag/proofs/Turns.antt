-- The first rules, by whom a frame is for. Assumes nothing.
use Rattle.std.proofs.Common.{◌≡◌, ℕ, Bool, true, false, cond, List, length, sym, ap, ◌∙◌, ⊎_elim, arith}
use Rattle.std.proofs.lemmas.Bool.{cond-true, cond-false, cases_Bool, eq-eqb, ne_eqb}
use Rattle.request.specs.declared.frame.Frame.{Frame}
use Rattle.request.specs.declared.frame.Reach.{Reach}
use Rattle.request.specs.declared.frame.Reach.TheVariants.{Every, TheSelected, One}
use Rattle.tag.specs.declared.order.Order.{Order}
use Rattle.tag.specs.declared.order.Order.TheVariants.{Nothing}
use Rattle.request.specs.declared.uid.Uid.{Uid}
use Rattle.request.specs.Frame.{code_at, optioned, addressed, selective, intact, uid_at, body_of}
use Rattle.tag.specs.Orders.{Orders, does, heeds_frame}
use Rattle.request.specs.Parsed.{Parsed}
use Rattle.tag.specs.Rules.{silence, for_another, deaf, heeds, of_one, of_many, turn}
use Rattle.tag.specs.Tag.{TagModel}

-- no tag heeds a frame that is not intact
pub order_broken : (f : List ℕ) (uid : ℕ) → intact f ≡ false → Orders f uid Nothing
unfolding turn
order_broken f uid b t e = cond-false _ _ _ b

-- the number of a reach, and its UID
tells : Reach → ℕ
tells Every = 0
tells TheSelected = 1
tells (One u) = 2

uid_in : Reach → ℕ
uid_in Every = 0
uid_in TheSelected = 0
uid_in (One u) = u.0

module _ (f : List ℕ) (x : Frame) (p : Parsed f x) where
  opened : (t : TagModel) → turn t f ≡ cond (addressed f) (of_one t f) (of_many t f)
  unfolding turn
  opened t = cond-true _ _ _ p.intact

  parts : (t : TagModel) (this : Bool) → heeds t this (length f) (code_at f) (optioned f) (body_of f) ≡ heeds_frame t this x
  parts t this =
      let a = sym p.long in
      let b = sym p.code in
      let c = sym p.optioned in
      let d = sym p.body in
      λ i. heeds t this (a i) (b i) (c i) (d i)

  one-addressed : (u : Uid) → x.reach ≡ One u → addressed f ≡ true
  unfolding tells
  one-addressed u e =
      ⊎_elim (λ h. h)
      (λ h. ⊎_elim (λ s. absurd (let z = ap tells (sym e ∙ p.reach ∙ cond-false _ _ _ h ∙ cond-true _ _ _ s) in omega arith)) (λ s. absurd (let z = ap tells (sym e ∙ p.reach ∙ cond-false _ _ _ h ∙ cond-false _ _ _ s) in omega arith)) (cases_Bool (selective f)))
      (cases_Bool (addressed f))

  many : (n : ℕ) → tells x.reach ≡ n → (n ≡ 2 → ⊥) → addressed f ≡ false
  unfolding tells
  many n e ne =
      ⊎_elim (λ h. absurd (ne (sym e ∙ ap tells (p.reach ∙ cond-true _ _ _ h)))) (λ h. h) (cases_Bool (addressed f))

  selected_selective : x.reach ≡ TheSelected → selective f ≡ true
  unfolding tells
  selected_selective e =
      ⊎_elim (λ s. s) (λ s. absurd (let z = ap tells (sym e ∙ p.reach ∙ cond-false _ _ _ (many 1 (ap tells e) (λ z. omega arith)) ∙ cond-false _ _ _ s) in omega arith)) (cases_Bool (selective f))

  every_open : x.reach ≡ Every → selective f ≡ false
  unfolding tells
  every_open e =
      ⊎_elim (λ s. absurd (let z = ap tells (sym e ∙ p.reach ∙ cond-false _ _ _ (many 0 (ap tells e) (λ z. omega arith)) ∙ cond-true _ _ _ s) in omega arith)) (λ s. s) (cases_Bool (selective f))

  uid-is : (u : Uid) → x.reach ≡ One u → u.0 ≡ uid_at f
  unfolding uid_in
  uid-is u e = ap uid_in (sym e ∙ p.reach ∙ cond-true _ _ _ (one-addressed u e))

  pub order_this : (u : Uid) (uid : ℕ) (o : Order) → x.reach ≡ One u → u.0 ≡ uid → ((t : TagModel) → heeds_frame t true x ≡ does t o) → Orders f uid o
  order_this u uid o e same d t is =
      opened t ∙ cond-true _ _ _ (one-addressed u e) ∙ cond-true _ _ _ (eq-eqb (uid_at f) t.uid (sym (uid-is u e) ∙ same ∙ sym is)) ∙ parts t true ∙ d t

  pub order_another : (u : Uid) (uid : ℕ) (o : Order) → x.reach ≡ One u → (u.0 ≡ uid → ⊥) → ((t : TagModel) → for_another t x.length x.code ≡ does t o) → Orders f uid o
  order_another u uid o e other d t is =
      let a = sym p.long in
      let b = sym p.code in
      opened t ∙ cond-true _ _ _ (one-addressed u e) ∙ cond-false _ _ _ (ne_eqb (uid_at f) t.uid (λ same. other (uid-is u e ∙ same ∙ is))) ∙ (λ i. for_another t (a i) (b i)) ∙ d t

  to_many : (selects : Bool) (uid : ℕ) (o : Order) → addressed f ≡ false → selective f ≡ selects → ((t : TagModel) → cond (deaf t.state selects) (silence t) (heeds_frame t false x) ≡ does t o) → Orders f uid o
  to_many selects uid o n s d t is =
      let q = parts t false in
      opened t ∙ cond-false _ _ _ n ∙ (λ i. cond (deaf t.state (s i)) (silence t) (q i)) ∙ d t

  pub order_selected : (uid : ℕ) (o : Order) → x.reach ≡ TheSelected → ((t : TagModel) → cond (deaf t.state true) (silence t) (heeds_frame t false x) ≡ does t o) → Orders f uid o
  unfolding tells
  order_selected uid o e d = to_many true uid o (many 1 (ap tells e) (λ z. omega arith)) (selected_selective e) d

  pub order_every : (uid : ℕ) (o : Order) → x.reach ≡ Every → ((t : TagModel) → cond (deaf t.state false) (silence t) (heeds_frame t false x) ≡ does t o) → Orders f uid o
  unfolding tells
  order_every uid o e d = to_many false uid o (many 0 (ap tells e) (λ z. omega arith)) (every_open e) d
