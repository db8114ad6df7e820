-- Reading put together from its parts. Assumes nothing.
use Rattle.std.proofs.Common.{◌≡◌, ℕ, ◌+◌, ◌-◌, ◌<◌, ◌≤◌, Bool, cond, ltb, List, [], length, Ok, Err, Result, sym, refl, subst, arith}
use Rattle.std.proofs.lemmas.Bool.{eq-eqb, ne_eqb, lt-ltb, le-ltb}
use Rattle.memory.specs.BlockLength.{bytes_of}
use Rattle.procedure.specs.Procedure.{Procedure, answer, Air, Performs}
use Rattle.procedure.proofs.Binds.{performs-none, performs_then}
use Rattle.shown.specs.declared.value.Value.{Value}
use Rattle.shown.specs.Walk.{length_field}
use Rattle.refusal.specs.declared.cause.Cause.{Cause}
use Rattle.refusal.specs.declared.cause.Cause.TheVariants.{Empty, MessageSpaceShort}
use Rattle.t5t.specs.declared.copying.Broken.{Broken}
use Rattle.t5t.specs.declared.link.Link.{Link}
use Rattle.refusal.specs.declared.step.Step.TheVariants as Step
use Rattle.t5t.specs.declared.stop.Stop.{Stop}
use Rattle.t5t.specs.Asking.{asking, last_of, Asked}
use Rattle.t5t.specs.Copied.{got_by, Copied, MessageRead}
use Rattle.t5t.specs.Reading.{Break, copying, refused_at, copied, or_broken, reading_from}

module _ (end at : ℕ) (l₀ l₁ : Link) (a₀ a₁ : Air) (s : List ℕ) where
  abbrev u : ℕ
  u = l₀.uid.0

  abbrev unit : ℕ
  unit = bytes_of l₀.unit

  -- the L-field is not had, or is bad
  pub unread : (z : Stop) → Asked Step.Walk (length_field end at) l₀ l₁ a₀ a₁ (Err z) → MessageRead end at l₀ l₁ a₀ a₁ s s (Err (record { stop = z; got = 0 }))
  unread z x =
      record {
        got = [];
        performs = performs_then (asking Step.Walk u unit l₀.kept (length_field end at)) (or_broken (copied u unit (length s))) a₀ a₁ a₁ (Err z) (Err (record { stop = z; got = [] })) l₀.exchanges l₁.exchanges l₁.exchanges x.performs (performs-none a₁ (Err (record { stop = z; got = [] })) l₁.exchanges);
        left = refl;
        long = refl;
      }

  module _ (v : Value) (x : Asked Step.Walk (length_field end at) l₀ l₁ a₀ a₁ (Ok v)) where
    -- what follows the L-field
    onward : (b : Air) (r : Result (List ℕ) Break) (n : ℕ) → Performs (copied u unit (length s) (v, l₁.kept)) a₁ b r l₁.exchanges n → Performs (reading_from l₀.kept u unit end at (length s)) a₀ b r l₀.exchanges n
    onward b r n y =
        performs_then (asking Step.Walk u unit l₀.kept (length_field end at)) (or_broken (copied u unit (length s))) a₀ a₁ b (Ok (v, l₁.kept)) r l₀.exchanges l₁.exchanges n x.performs y

    abbrev rest : Procedure (Result (List ℕ) Break)
    rest = copying v.long u unit l₁.kept v.at v.long []

    abbrev short_or : Bool → Procedure (Result (List ℕ) Break)
    short_or t = cond t (refused_at l₁.kept (MessageSpaceShort v.long)) rest

    refused : (c : Cause) (z : Stop) → z ≡ record { cause = c; step = Step.Walk; block = last_of l₁.kept } → Performs (copied u unit (length s) (v, l₁.kept)) a₁ a₁ (Err (record { stop = record { cause = c; step = Step.Walk; block = last_of l₁.kept }; got = [] })) l₁.exchanges l₁.exchanges → MessageRead end at l₀ l₁ a₀ a₁ s s (Err (record { stop = z; got = 0 }))
    refused c z is y =
        record {
          got = [];
          performs = subst (λ w. Performs (reading_from l₀.kept u unit end at (length s)) a₀ a₁ (Err (record { stop = w; got = [] })) l₀.exchanges l₁.exchanges) (sym is) (onward a₁ _ l₁.exchanges y);
          left = refl;
          long = refl;
        }

    -- the message is empty
    pub read_empty : (z : Stop) → v.long ≡ 0 → z ≡ record { cause = Empty; step = Step.Walk; block = last_of l₁.kept } → MessageRead end at l₀ l₁ a₀ a₁ s s (Err (record { stop = z; got = 0 }))
    read_empty z none is =
        let e : Result (List ℕ) Break = Err (record { stop = record { cause = Empty; step = Step.Walk; block = last_of l₁.kept }; got = [] }) in
        refused Empty z is (subst (λ t. Performs (cond t (answer e) (short_or (ltb (length s) v.long))) a₁ a₁ e l₁.exchanges l₁.exchanges) (sym (eq-eqb v.long 0 none)) (performs-none a₁ e l₁.exchanges))

    module _ (some : v.long ≡ 0 → ⊥) where
      not_empty : (b : Air) (r : Result (List ℕ) Break) (n : ℕ) → Performs (short_or (ltb (length s) v.long)) a₁ b r l₁.exchanges n → Performs (copied u unit (length s) (v, l₁.kept)) a₁ b r l₁.exchanges n
      not_empty b r n y =
          subst (λ t. Performs (cond t (refused_at l₁.kept Empty) (short_or (ltb (length s) v.long))) a₁ b r l₁.exchanges n) (sym (ne_eqb v.long 0 some)) y

      -- the space is too short
      pub read_short : (z : Stop) → length s < v.long → z ≡ record { cause = MessageSpaceShort v.long; step = Step.Walk; block = last_of l₁.kept } → MessageRead end at l₀ l₁ a₀ a₁ s s (Err (record { stop = z; got = 0 }))
      read_short z short is =
          let e : Result (List ℕ) Break = Err (record { stop = record { cause = MessageSpaceShort v.long; step = Step.Walk; block = last_of l₁.kept }; got = [] }) in
          refused (MessageSpaceShort v.long) z is (not_empty a₁ e l₁.exchanges (subst (λ t. Performs (short_or t) a₁ a₁ e l₁.exchanges l₁.exchanges) (sym (lt-ltb (length s) v.long short)) (performs-none a₁ e l₁.exchanges)))

      module _ (fits : v.long ≤ length s) (l₂ : Link) (a₂ : Air) (s' : List ℕ) where
        all : (r : Result (Unit {0}) Broken) (y : Copied v l₁ l₂ a₁ a₂ s s' r) → Performs (reading_from l₀.kept u unit end at (length s)) a₀ a₂ (got_by r y.got) l₀.exchanges l₂.exchanges
        all r y =
            let eu = x.uid in
            let en = x.unit in
            let copies = subst (λ z. Performs (copying v.long z.0 unit l₁.kept v.at v.long []) a₁ a₂ (got_by r y.got) l₁.exchanges l₂.exchanges) eu (subst (λ z. Performs (copying v.long l₁.uid.0 (bytes_of z) l₁.kept v.at v.long []) a₁ a₂ (got_by r y.got) l₁.exchanges l₂.exchanges) en y.performs) in
            onward a₂ (got_by r y.got) l₂.exchanges (not_empty a₂ (got_by r y.got) l₂.exchanges (subst (λ t. Performs (short_or t) a₁ a₂ (got_by r y.got) l₁.exchanges l₂.exchanges) (sym (le-ltb (length s) v.long fits)) copies))

        -- the value is copied
        pub read_all : (q : Unit {0}) → Copied v l₁ l₂ a₁ a₂ s s' (Ok q) → MessageRead end at l₀ l₂ a₀ a₂ s s' (Ok v.long)
        read_all q y = record { got = y.got; performs = all (Ok q) y; left = y.left; long = y.long }

        -- or breaks off
        pub read_broken : (e : Broken) → Copied v l₁ l₂ a₁ a₂ s s' (Err e) → MessageRead end at l₀ l₂ a₀ a₂ s s' (Err e)
        read_broken e y = record { got = y.got; performs = all (Err e) y; left = y.left; long = y.long }

-- one byte on, and the TLV begins one byte before
pub behind_t : (end at : ℕ) {l l' : Link} {a b : Air} {r : Result Value Stop} → Asked Step.Walk (length_field end (at + 1 - 1)) l l' a b r → Asked Step.Walk (length_field end at) l l' a b r
behind_t end at {l} {l'} {a} {b} {r} x =
    let e : at + 1 - 1 ≡ at = omega arith in
    subst (λ k. Asked Step.Walk (length_field end k) l l' a b r) e x
