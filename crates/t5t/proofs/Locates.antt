-- Detection put together from its parts. Assumes nothing.
use Rattle.std.proofs.Common.{◌≡◌, ℕ, ◌*◌, ◌≤◌, eqb, Some, Ok, Err, Result, sym, ◌∙◌, subst, arith}
use Rattle.std.proofs.lemmas.Bool.{cond_both}
use Rattle.memory.specs.declared.block_length.BlockLength.{BlockLength}
use Rattle.memory.specs.BlockLength.{bytes_of}
use Rattle.procedure.specs.Procedure.{Procedure, Air, Performs}
use Rattle.procedure.proofs.Binds.{performs-none, performs_then}
use Rattle.shown.specs.declared.container.Container.{Container}
use Rattle.shown.specs.declared.container.Place.{Place}
use Rattle.shown.specs.declared.header.Header.{Header}
use Rattle.shown.specs.Container.{container, limit}
use Rattle.shown.specs.Walk.{walk}
use Rattle.t5t.specs.declared.kept.Kept.{Kept}
use Rattle.t5t.specs.declared.link.Link.{Link}
use Rattle.refusal.specs.declared.step.Step.TheVariants as Step
use Rattle.t5t.specs.declared.stop.Stop.{Stop}
use Rattle.t5t.specs.Asking.{or_stop, with_kept, asking, Asked}
use Rattle.t5t.specs.Detection.{first, walking, locating, found, detected, detection, with_unit, FirstRead}

-- block numbers of two bytes reach at least as far as the container may
pub limit_low : (h : Header) (b : BlockLength) → limit h (bytes_of b) ≤ 65536 * bytes_of b
limit_low h b =
    cond_both (eqb h.magic 0xE1) (256 * bytes_of b) (65536 * bytes_of b) (λ n. n ≤ 65536 * bytes_of b) (λ e. omega arith) (λ e. omega arith)

module _ (l₀ l₁ : Link) (a₀ a₁ : Air) where
  -- block 0 is not had
  pub unsighted : (s : Stop) (r : Result Place Stop) → r ≡ Err s → FirstRead l₀ l₁ a₀ a₁ (Err s) → Performs (detection l₀.uid.0) a₀ a₁ (with_unit r l₁.unit) l₀.exchanges l₁.exchanges
  unsighted s r is f =
      let u = l₀.uid.0 in
      subst (λ z. Performs (detection u) a₀ a₁ (with_unit z l₁.unit) l₀.exchanges l₁.exchanges) (sym is) (performs_then (first u) (or_stop (detected u)) a₀ a₁ a₁ (Err s) (Err s) l₀.exchanges l₁.exchanges l₁.exchanges f.performs (performs-none a₁ (Err s) l₁.exchanges))

  module _ (k : Kept) (f : FirstRead l₀ l₁ a₀ a₁ (Ok k)) (l₂ : Link) (a₂ : Air) where
    abbrev b : BlockLength
    b = l₁.unit

    abbrev u : ℕ
    u = l₀.uid.0

    -- what follows block 0
    onward : (a : Air) (r : Result (BlockLength × Place) Stop) (n : ℕ) → Performs (detected u (b, k)) a₁ a r l₁.exchanges n → Performs (detection u) a₀ a r l₀.exchanges n
    onward a r n x = performs_then (first u) (or_stop (detected u)) a₀ a₁ a (Ok (b, k)) r l₀.exchanges l₁.exchanges n f.performs x

    -- the container, as it is asked for of this tag
    asked_container : (r : Result Container Stop) → Asked Step.Container (container (bytes_of b)) l₁ l₂ a₁ a₂ r → Performs (asking Step.Container u (bytes_of b) (Some k) (container (bytes_of b))) a₁ a₂ (with_kept r l₂.kept) l₁.exchanges l₂.exchanges
    asked_container r x =
        let eu = f.uid in
        let ek = f.kept in
        subst (λ z. Performs (asking Step.Container u (bytes_of b) z (container (bytes_of b))) a₁ a₂ (with_kept r l₂.kept) l₁.exchanges l₂.exchanges) ek (subst (λ z. Performs (asking Step.Container z.0 (bytes_of b) l₁.kept (container (bytes_of b))) a₁ a₂ (with_kept r l₂.kept) l₁.exchanges l₂.exchanges) eu x.performs)

    -- the container is not had, or is flawed
    pub uncontained : (s : Stop) (r : Result Place Stop) → r ≡ Err s → Asked Step.Container (container (bytes_of b)) l₁ l₂ a₁ a₂ (Err s) → Performs (detection u) a₀ a₂ (with_unit r l₂.unit) l₀.exchanges l₂.exchanges
    uncontained s r is x =
        let first_part = asked_container (Err s) x in
        let locates = performs_then (asking Step.Container u (bytes_of b) (Some k) (container (bytes_of b))) (or_stop (walking u b)) a₁ a₂ a₂ (Err s) (Err s) l₁.exchanges l₂.exchanges l₂.exchanges first_part (performs-none a₂ (Err s) l₂.exchanges) in
        let whole = performs_then (locating u (b, k)) (or_stop (found b)) a₁ a₂ a₂ (Err s) (Err s) l₁.exchanges l₂.exchanges l₂.exchanges locates (performs-none a₂ (Err s) l₂.exchanges) in
        subst (λ z. Performs (detection u) a₀ a₂ (with_unit z l₂.unit) l₀.exchanges l₂.exchanges) (sym is) (onward a₂ (Err s) l₂.exchanges whole)

    module _ (c : Container) (x : Asked Step.Container (container (bytes_of b)) l₁ l₂ a₁ a₂ (Ok c)) (l₃ : Link) (a₃ : Air) where
      ended : (r : Result Place Stop) → Performs (or_stop (found b) (with_kept r l₃.kept)) a₃ a₃ (with_unit r b) l₃.exchanges l₃.exchanges
      ended (Ok p) = performs-none a₃ (Ok (b, p)) l₃.exchanges
      ended (Err s) = performs-none a₃ (Err s) l₃.exchanges

      -- the walk
      pub walked : (r : Result Place Stop) → Asked Step.Walk (walk c) l₂ l₃ a₂ a₃ r → Performs (detection u) a₀ a₃ (with_unit r l₃.unit) l₀.exchanges l₃.exchanges
      walked r y =
          let eu = x.uid ∙ f.uid in
          let eb = x.unit in
          let walks : Performs (walking u b (c, l₂.kept)) a₂ a₃ (with_kept r l₃.kept) l₂.exchanges l₃.exchanges = subst (λ z. Performs (asking Step.Walk z.0 (bytes_of b) l₂.kept (walk c)) a₂ a₃ (with_kept r l₃.kept) l₂.exchanges l₃.exchanges) eu (subst (λ z. Performs (asking Step.Walk l₂.uid.0 (bytes_of z) l₂.kept (walk c)) a₂ a₃ (with_kept r l₃.kept) l₂.exchanges l₃.exchanges) eb y.performs) in
          let locates = performs_then (asking Step.Container u (bytes_of b) (Some k) (container (bytes_of b))) (or_stop (walking u b)) a₁ a₂ a₃ (Ok (c, l₂.kept)) (with_kept r l₃.kept) l₁.exchanges l₂.exchanges l₃.exchanges (asked_container (Ok c) x) walks in
          let whole = performs_then (locating u (b, k)) (or_stop (found b)) a₁ a₃ a₃ (with_kept r l₃.kept) (with_unit r b) l₁.exchanges l₃.exchanges l₃.exchanges locates (ended r) in
          subst (λ z. Performs (detection u) a₀ a₃ (with_unit r z) l₀.exchanges l₃.exchanges) (sym (y.unit ∙ eb)) (onward a₃ (with_unit r b) l₃.exchanges whole)

-- a count that begins at 0
pub from_none : {V : Type 0} {p : Procedure V} {a b : Air} {v : V} {n m : ℕ} → n ≡ 0 → Performs p a b v n m → Performs p a b v 0 m
from_none {V} {p} {a} {b} {v} {n} {m} e x = subst (λ k. Performs p a b v k m) e x
