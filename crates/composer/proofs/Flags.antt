-- The header's first byte, put together and taken apart. Each of the two laws is one test, which antt computes for every
-- byte there is. Assumes nothing.
use Rattle.std.proofs.Common.{◌≡◌, ℕ, zero, suc, ◌<◌, Bool, true, false, not, ◌&&◌, ◌||◌, eqb, sym, refl, ap, ◌∙◌, subst, ⊎_elim, arith, lit<}
use mathlib.Core.Bool.{beq}
use Rattle.std.proofs.lemmas.Bool.{and_parts, or_cases, eqb-true, cases_eq, not-true, false≢true}
use Rattle.header.specs.declared.format.Format.{Format}
use Rattle.header.specs.declared.format.Format.TheVariants.{Empty, WellKnown, Media, Uri, External, Unknown, Unchanged, Reserved}
use Rattle.header.specs.Format.{number, format_at, format_of}
use Rattle.header.specs.Header.{has, mb, me, cf, sr, il}
use Rattle.ndef.proofs.Listings.{same}
use Rattle.composer.specs.Message.{header_byte}

-- ---- tests over both truth values, and over all numbers below n

abbrev always : (Bool → Bool) → Bool
always f = f true && f false

always_at : (f : Bool → Bool) → always f ≡ true → (b : Bool) → f b ≡ true
always_at f t true = (and_parts _ _ t).0
always_at f t false = (and_parts _ _ t).1

abbrev below : ℕ → (ℕ → Bool) → Bool
below zero f = true
below (suc n) f = f n && below n f

below_at : (n : ℕ) (f : ℕ → Bool) → below n f ≡ true → (k : ℕ) → k < n → f k ≡ true
below_at zero f t k h = absurd (omega arith)
below_at (suc n) f t k h =
    ⊎_elim (λ e. subst (λ i. f i ≡ true) (sym e) (and_parts _ _ t).0) (λ ne. below_at n f (and_parts _ _ t).1 k (omega arith)) (cases_eq k n)

-- a format is known by its number
format-number : (f : Format) → format_at (number f) ≡ f
format-number Empty = refl
format-number WellKnown = refl
format-number Media = refl
format-number Uri = refl
format-number External = refl
format-number Unknown = refl
format-number Unchanged = refl
format-number Reserved = refl

number_low : (f : Format) → number f < 8
number_low Empty = lit< tt
number_low WellKnown = lit< tt
number_low Media = lit< tt
number_low Uri = lit< tt
number_low External = lit< tt
number_low Unknown = lit< tt
number_low Unchanged = lit< tt
number_low Reserved = lit< tt

-- ---- the two laws

-- what the first byte says
pub record Says (first last short named : Bool) (f : Format) (h : ℕ) : Type 0 where
  pub says-mb : has mb h ≡ first
  pub says-me : has me h ≡ last
  pub says-cf : has cf h ≡ false
  pub says-sr : has sr h ≡ short
  pub says-il : has il h ≡ named
  pub says-format : format_of h ≡ f

abbrev says_test : Bool → Bool → Bool → Bool → ℕ → Bool
says_test a b c d n =
    let h = header_byte a b c d n in
    beq (has mb h) a && beq (has me h) b && not (has cf h) && beq (has sr h) c && beq (has il h) d && eqb (number (format_of h)) n

said : (a b c d : Bool) (f : Format) → says_test a b c d (number f) ≡ true → Says a b c d f (header_byte a b c d (number f))
said a b c d f t =
    let p = and_parts _ _ t in
    let q = and_parts _ _ p.0 in
    let r = and_parts _ _ q.0 in
    let s = and_parts _ _ r.0 in
    let u = and_parts _ _ s.0 in
    record {
      says-mb = same _ _ u.0;
      says-me = same _ _ u.1;
      says-cf = not-true _ s.1;
      says-sr = same _ _ r.1;
      says-il = same _ _ q.1;
      says-format = sym (format-number _) ∙ ap format_at (eqb-true _ _ p.1) ∙ format-number f;
    }

-- a byte put together says what went into it
pub says : (a b c d : Bool) (f : Format) → Says a b c d f (header_byte a b c d (number f))
says a b c d f =
    said a b c d f
    (below_at 8 (says_test a b c d) (always_at (λ z. below 8 (says_test a b c z)) (always_at (λ y. always (λ z. below 8 (says_test a b y z))) (always_at (λ x. always (λ y. always (λ z. below 8 (says_test a x y z)))) (always_at (λ w. always (λ x. always (λ y. always (λ z. below 8 (says_test w x y z))))) refl a) b) c) d) (number f) (number_low f))

abbrev again : ℕ → Bool
again h = has cf h || eqb (header_byte (has mb h) (has me h) (has sr h) (has il h) (number (format_of h))) h

-- a byte without CF, taken apart and put together, is the same
pub rebuilt : (h : ℕ) → h < 256 → has cf h ≡ false → header_byte (has mb h) (has me h) (has sr h) (has il h) (number (format_of h)) ≡ h
rebuilt h low plain =
    ⊎_elim (λ e. absurd (false≢true (sym plain ∙ e))) (λ e. eqb-true _ _ e) (or_cases _ _ (below_at 256 again refl h low))
