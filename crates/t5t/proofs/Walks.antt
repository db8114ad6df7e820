-- The walk over the TLVs, turn by turn. Assumes nothing.
use Rattle.std.proofs.Common.{◌≡◌, ℕ, zero, suc, ◌+◌, ◌-◌, ◌<◌, ◌≤◌, eqb, ltb, Ok, Err, Result, sym, refl, ◌∙◌, subst, arith}
use Rattle.std.proofs.lemmas.Bool.{cond-true, lt-ltb, le-ltb, eq-eqb, ne_eqb}
use Rattle.field.specs.declared.field.Field as Field
use Rattle.procedure.specs.Procedure.{Air}
use Rattle.shown.specs.declared.container.Container.{Container}
use Rattle.shown.specs.declared.container.Place.{Place}
use Rattle.shown.specs.declared.flaw.Flaw.{Flaw}
use Rattle.shown.specs.declared.flaw.Flaw.TheVariants.{Malformed, NoMessage}
use Rattle.shown.specs.declared.value.Value.{Value}
use Rattle.shown.specs.Asks.{Asks, done, and_then, just_byte}
use Rattle.shown.specs.Walk.{before, length_field, behind, typed, walk_from, walk}
use Rattle.t5t.specs.declared.link.Link.{Link}
use Rattle.refusal.specs.declared.step.Step.TheVariants.{Walk}
use Rattle.t5t.specs.declared.stop.Stop.{Stop}
use Rattle.t5t.specs.Calls.{air_in, SameAir}
use Rattle.t5t.specs.declared.tlvs.Tlvs.{Tlvs}
use Rattle.t5t.specs.Takes.{Takes}
use Rattle.t5t.proofs.Calls.{same_then}
use Rattle.t5t.specs.Asking.{flawed, Asked}
use Rattle.t5t.proofs.Askings.{and_goes, and_stops, asked_done, asked_flaw, asked_true, asked_false}

-- the walk began at l₀ and a₀, and is at `at` now: whatever it comes to from here on, it comes to from there
pub record Walking (c : Container) (l₀ l : Link) (a₀ a : Air) (at : ℕ) : Type 0 where
  pub fuel : ℕ
  pub enough : c.end ≤ at + fuel
  pub rest : (l' : Link) (b : Air) (r : Result Place Stop) → Asked Walk (walk_from fuel c at) l l' a b r → Asked Walk (walk c) l₀ l' a₀ b r
  pub from : c.begin ≤ at
  pub unit : l.unit ≡ l₀.unit

pub walking-none : (c : Container) (l : Link) (a : Air) → Walking c l l a a c.begin
walking-none c l a =
    record { fuel = c.end - c.begin; enough = omega arith; rest = λ l' b r x. x; from = omega arith; unit = refl }

-- the end of the TLVs
ended : (c : Container) (k at : ℕ) (l : Link) (a : Air) (s : Stop) → c.end ≤ at → s ≡ flawed Walk l.kept NoMessage → Asked Walk (walk_from k c at) l l a a (Err s)
ended c zero at l a s over is = asked_flaw Walk l a NoMessage s is
ended c (suc k) at l a s over is =
    asked_false (ltb at c.end) (and_then (just_byte at) (typed (walk_from k c) c at)) (le-ltb at c.end over) (asked_flaw Walk l a NoMessage s is)

pub walking-over : (c : Container) (l₀ l : Link) (a₀ a : Air) (at : ℕ) (s : Stop) → Walking c l₀ l a₀ a at → c.end ≤ at → s ≡ flawed Walk l.kept NoMessage → Asked Walk (walk c) l₀ l a₀ a (Err s)
walking-over c l₀ l a₀ a at s w over is = w.rest l a (Err s) (ended c w.fuel at l a s over is)

-- a turn, from what follows T
turned : (c : Container) (k at : ℕ) (l l' l'' : Link) (a b d : Air) (t : ℕ) (r : Result Place Stop) → at < c.end → Asked Walk (just_byte at) l l' a b (Ok t) → Asked Walk (typed (walk_from (k - 1) c) c at t) l' l'' b d r → c.end ≤ at + k → Asked Walk (walk_from k c at) l l'' a d r
turned c zero at l l' l'' a b d t r some got on enough = absurd (omega arith)
turned c (suc k) at l l' l'' a b d t r some got on enough =
    let e : suc k - 1 ≡ k = omega arith in
    let go = subst (λ n. Asked Walk (typed (walk_from n c) c at t) l' l'' b d r) e on in
    asked_true (ltb at c.end) (done (Err NoMessage)) (lt-ltb at c.end some) (and_goes (typed (walk_from k c) c at) got go)

module _ (c : Container) (l₀ l : Link) (a₀ a : Air) (at : ℕ) (w : Walking c l₀ l a₀ a at) (some : at < c.end) (l' : Link) (b : Air) where
  lost_first : (k : ℕ) (s : Stop) (r : Result Place Stop) → r ≡ Err s → c.end ≤ at + k → Asked Walk (just_byte at) l l' a b (Err s) → Asked Walk (walk_from k c at) l l' a b r
  lost_first zero s r is enough x = absurd (omega arith)
  lost_first (suc k) s r is enough x =
      asked_true (ltb at c.end) (done (Err NoMessage)) (lt-ltb at c.end some) (and_stops (typed (walk_from k c) c at) r is x)

  -- T is not had
  pub walking_lost : (s : Stop) (r : Result Place Stop) → r ≡ Err s → Asked Walk (just_byte at) l l' a b (Err s) → Asked Walk (walk c) l₀ l' a₀ b r
  walking_lost s r is x = w.rest l' b r (lost_first w.fuel s r is w.enough x)

  module _ (t : ℕ) (got : Asked Walk (just_byte at) l l' a b (Ok t)) where
    abbrev on : ℕ → Asks (Result Place Flaw)
    on = walk_from (w.fuel - 1) c

    onward : (l'' : Link) (d : Air) (r : Result Place Stop) → Asked Walk (typed on c at t) l' l'' b d r → Asked Walk (walk c) l₀ l'' a₀ d r
    onward l'' d r x = w.rest l'' d r (turned c w.fuel at l l' l'' a b d t r some got x w.enough)

    -- T is FEh
    pub walking_terminated : (s : Stop) → t ≡ 0xFE → s ≡ flawed Walk l'.kept NoMessage → Asked Walk (walk c) l₀ l' a₀ b (Err s)
    walking_terminated s is es =
        onward l' b (Err s) (asked_true (eqb t 0xFE) (and_then (length_field c.end at) (behind on c at t)) (eq-eqb t 0xFE is) (asked_flaw Walk l' b NoMessage s es))

    module _ (other : t ≡ 0xFE → ⊥) (l'' : Link) (d : Air) where
      not_over : (m : Link) (e : Air) (r : Result Place Stop) → Asked Walk (and_then (length_field c.end at) (behind on c at t)) l' m b e r → Asked Walk (walk c) l₀ m a₀ e r
      not_over m e r x = onward m e r (asked_false (eqb t 0xFE) (done (Err NoMessage)) (ne_eqb t 0xFE other) x)

      -- the L-field is not had, or is bad
      pub walking-bad : (s : Stop) (r : Result Place Stop) → r ≡ Err s → Asked Walk (length_field c.end at) l' l'' b d (Err s) → Asked Walk (walk c) l₀ l'' a₀ d r
      walking-bad s r is x = not_over l'' d r (and_stops (behind on c at t) r is x)

      module _ (v : Value) (field : Asked Walk (length_field c.end at) l' l'' b d (Ok v)) where
        -- the message
        pub walking-found : t ≡ 0x03 → Asked Walk (walk c) l₀ l'' a₀ d (Ok (record { container = c; at = at }))
        walking-found is =
            not_over l'' d (Ok (record { container = c; at = at })) (and_goes (behind on c at t) field (asked_true (eqb t 0x03) (on (v.at + v.long)) (eq-eqb t 0x03 is) (asked_done Walk l'' d (record { container = c; at = at }))))

        -- any other TLV is skipped
        pub walking_on : (t ≡ 0x03 → ⊥) → at + 2 ≤ v.at → Walking c l₀ l'' a₀ d (v.at + v.long)
        walking_on skipped far =
            let enough = w.enough in
            let from = w.from in
            record {
              fuel = w.fuel - 1;
              enough = omega arith;
              rest = λ m e r x. not_over m e r (and_goes (behind on c at t) field (asked_false (eqb t 0x03) (done (Ok (record { container = c; at = at }))) (ne_eqb t 0x03 skipped) x));
              from = omega arith;
              unit = field.unit ∙ got.unit ∙ w.unit;
            }

-- the same of a walk over TLVs, with what stays as it is
pub record WalksOn {F : Type 0} {G : Field.Ghosts F} (t₀ t : Tlvs F G) : Type 0 where
  pub walking : Walking t₀.container t₀.call.now.link t.call.now.link (air_in t₀.call.now) (air_in t.call.now) t.at
  pub container : t.container ≡ t₀.container
  pub air : SameAir t₀.call.now t.call.now
  pub call : t.call.ghost_name ≡ t₀.call.ghost_name
  pub onward : t₀.at ≤ t.at

module _ {F : Type 0} {G : Field.Ghosts F} (t₀ t : Tlvs F G) (w : WalksOn t₀ t) (some : t.at < t.container.end) (t' : Tlvs F G) where
  abbrev c₀ : Container
  c₀ = t₀.container

  abbrev more : t.at < c₀.end
  more = subst (λ z. t.at < z.end) w.container some

  -- T is asked for, since it stands before the end
  asked-t : (x : Result ℕ Stop) → Takes (before t.container.end t.at) t t' x → Asked Walk (just_byte t.at) t.call.now.link t'.call.now.link (air_in t.call.now) (air_in t'.call.now) x
  asked-t x y =
      subst (λ z. Asked Walk z t.call.now.link t'.call.now.link (air_in t.call.now) (air_in t'.call.now) x) (cond-true _ (just_byte t.at) (done (Err Malformed)) (lt-ltb t.at t.container.end some)) y.asked

  -- T is not had
  pub walks_lost : (s : Stop) (r : Result Place Stop) → r ≡ Err s → Takes (before t.container.end t.at) t t' (Err s) → Takes (walk c₀) t₀ t' r
  walks_lost s r is x =
      let far = w.onward in
      let on = x.onward in
      record { asked = walking_lost c₀ _ _ _ _ t.at w.walking more _ _ s r is (asked-t (Err s) x); container = x.container ∙ w.container; air = same_then w.air x.air; call = x.call ∙ w.call; onward = omega arith }

  module _ (k : ℕ) (x : Takes (before t.container.end t.at) t t' (Ok k)) where
    -- T is FEh
    pub walks_terminated : (s : Stop) → k ≡ 0xFE → s ≡ flawed Walk t'.call.now.link.kept NoMessage → Takes (walk c₀) t₀ t' (Err s)
    walks_terminated s is es =
        let far = w.onward in
        let on = x.onward in
        record { asked = walking_terminated c₀ _ _ _ _ t.at w.walking more _ _ k (asked-t (Ok k) x) s is es; container = x.container ∙ w.container; air = same_then w.air x.air; call = x.call ∙ w.call; onward = omega arith }

    module _ (other : k ≡ 0xFE → ⊥) (passed : t'.at ≡ t.at + 1) (t'' : Tlvs F G) where
      -- the L-field of the TLV at T
      asked-field : (v : Result Value Stop) → Takes (length_field t'.container.end (t'.at - 1)) t' t'' v → Asked Walk (length_field c₀.end t.at) t'.call.now.link t''.call.now.link (air_in t'.call.now) (air_in t''.call.now) v
      asked-field v y =
          let at : t'.at - 1 ≡ t.at = omega arith in
          let same = x.container ∙ w.container in
          subst (λ z. Asked Walk z t'.call.now.link t''.call.now.link (air_in t'.call.now) (air_in t''.call.now) v) (λ i. length_field (same i).end (at i)) y.asked

      -- the L-field is not had, or is bad
      pub walks-bad : (s : Stop) (r : Result Place Stop) → r ≡ Err s → Takes (length_field t'.container.end (t'.at - 1)) t' t'' (Err s) → Takes (walk c₀) t₀ t'' r
      walks-bad s r is y =
          let far = w.onward in
          let on = x.onward in
          let on2 = y.onward in
          record { asked = walking-bad c₀ _ _ _ _ t.at w.walking more _ _ k (asked-t (Ok k) x) other _ _ s r is (asked-field (Err s) y); container = y.container ∙ x.container ∙ w.container; air = same_then w.air (same_then x.air y.air); call = y.call ∙ x.call ∙ w.call; onward = omega arith }

      module _ (v : Value) (y : Takes (length_field t'.container.end (t'.at - 1)) t' t'' (Ok v)) where
        -- the message
        pub walks-found : k ≡ 0x03 → Takes (walk c₀) t₀ t'' (Ok (record { container = t''.container; at = t.at }))
        walks-found is =
            let far = w.onward in
            let on = x.onward in
            let on2 = y.onward in
            let same = y.container ∙ x.container ∙ w.container in
            record { asked = subst (λ z. Asked Walk (walk c₀) t₀.call.now.link t''.call.now.link (air_in t₀.call.now) (air_in t''.call.now) (Ok (record { container = z; at = t.at }))) (sym same) (walking-found c₀ _ _ _ _ t.at w.walking more _ _ k (asked-t (Ok k) x) other _ _ v (asked-field (Ok v) y) is); container = same; air = same_then w.air (same_then x.air y.air); call = y.call ∙ x.call ∙ w.call; onward = omega arith }

        -- any other TLV is skipped
        pub walks_on : (k ≡ 0x03 → ⊥) → t'.at + 1 ≤ v.at → Walking c₀ t₀.call.now.link t''.call.now.link (air_in t₀.call.now) (air_in t''.call.now) (v.at + v.long)
        walks_on skipped far = walking_on c₀ _ _ _ _ t.at w.walking more _ _ k (asked-t (Ok k) x) other _ _ v (asked-field (Ok v) y) skipped (omega arith)

-- the end of the TLVs is reached
pub walks-over : {F : Type 0} {G : Field.Ghosts F} (t₀ t : Tlvs F G) (w : WalksOn t₀ t) (s : Stop) → t.container.end ≤ t.at → s ≡ flawed Walk t.call.now.link.kept NoMessage → Takes (walk t₀.container) t₀ t (Err s)
walks-over t₀ t w s over is =
    record { asked = walking-over t₀.container _ _ _ _ t.at s w.walking (subst (λ z. z.end ≤ t.at) w.container over) is; container = w.container; air = w.air; call = w.call; onward = w.onward }
