-- The listing of a message, one record at a time: `left` without its count of turns. Assumes nothing.
use Rattle.std.proofs.Common.{◌≡◌, ℕ, zero, suc, ◌+◌, ◌-◌, ◌<◌, ◌≤◌, Bool, true, false, cond, not, ◌&&◌, eqb, leb, List, length, drop, sym, refl, ap, ◌∙◌, ⊎_elim, arith, lit≤, length-drop}
use mathlib.Core.Bool.{beq}
use Rattle.std.proofs.lemmas.Bool.{and_parts, leb-true, not-true, cases_Bool, cond-true, cond-false}
use Rattle.header.specs.Format.{format_of, allows}
use Rattle.header.specs.Header.{has, fixed, mb, me, cf, sr, il}
use Rattle.ndef.specs.Reading.{flags_of, kind_length, id_length, payload_length, size, good, good_at, entry_at, ended, bad, one, over, listing, left}

-- a header has three bytes at least, and seven at most
fixed_range : (short named : Bool) → (3 ≤ 2 + cond short 1 4 + cond named 1 0) × (2 + cond short 1 4 + cond named 1 0 ≤ 7)
fixed_range true true = (lit≤ tt, lit≤ tt)
fixed_range true false = (lit≤ tt, lit≤ tt)
fixed_range false true = (lit≤ tt, lit≤ tt)
fixed_range false false = (lit≤ tt, lit≤ tt)

pub fixed_low : (h : ℕ) → 3 ≤ fixed h
fixed_low h = (fixed_range (has sr h) (has il h)).0

pub size_low : (bs : List ℕ) → 3 ≤ size bs
size_low bs = omega (arith, fixed_low (flags_of bs))

pub same : (a b : Bool) → beq a b ≡ true → a ≡ b
same true true e = refl
same true false e = sym e
same false true e = e
same false false e = refl

-- what is so of a good record
pub record Good (first : Bool) (bs : List ℕ) : Type 0 where
  pub within : size bs ≤ length bs
  pub begins : has mb (flags_of bs) ≡ first
  pub ends : has me (flags_of bs) ≡ eqb (size bs) (length bs)
  pub unchunked : has cf (flags_of bs) ≡ false
  pub allowed : allows (format_of (flags_of bs)) (kind_length bs) (id_length bs) (payload_length bs) ≡ true

pub good_facts : (first : Bool) (bs : List ℕ) → good first bs ≡ true → Good first bs
good_facts first bs g =
    let h = flags_of bs in
    let in-it = leb (size bs) (length bs) in
    let at-start = beq (has mb h) first in
    let at-end = beq (has me h) (eqb (size bs) (length bs)) in
    let a = and_parts (in-it && at-start && at-end && not (has cf h)) (allows (format_of h) (kind_length bs) (id_length bs) (payload_length bs)) g in
    let b = and_parts (in-it && at-start && at-end) (not (has cf h)) a.0 in
    let c = and_parts (in-it && at-start) at-end b.0 in
    let d = and_parts in-it at-start c.0 in
    record {
      within = leb-true (size bs) (length bs) d.0;
      begins = same (has mb h) first d.1;
      ends = same (has me h) (eqb (size bs) (length bs)) c.1;
      unchunked = not-true (has cf h) b.1;
      allowed = a.1;
    }

-- it ends within the message, behind the place where it starts
pub record Steps (m : List ℕ) (p : ℕ) : Type 0 where
  pub on : p < p + size (drop p m)
  pub within : p + size (drop p m) ≤ length m

pub steps : (m : List ℕ) (p : ℕ) → p ≤ length m → good_at m p ≡ true → Steps m p
steps m p h g =
    let low = size_low (drop p m) in
    let high = (good_facts (eqb p 0) (drop p m) g).within in
    let long = length-drop p m in
    record { on = omega arith; within = omega arith }

-- the count of turns does not matter where it is large enough
enough : (k j : ℕ) (m : List ℕ) (p : ℕ) → p ≤ length m → length m - p < k → length m - p < j → listing k m p ≡ listing j m p
unfolding listing
enough zero j m p h hk hj = absurd (omega arith)
enough (suc k) zero m p h hk hj = absurd (omega arith)
enough (suc k) (suc j) m p h hk hj =
    ⊎_elim
    (λ g. let s = steps m p h g in ap (λ l. cond (over m p) ended (cond (good_at m p) (one (entry_at m p) l) (bad p))) (enough k j m (p + size (drop p m)) s.within (omega (arith, s.on, s.within)) (omega (arith, s.on, s.within))))
    (λ g. ap (cond (over m p) ended) (cond-false _ _ _ g ∙ sym (cond-false _ _ _ g)))
    (cases_Bool (good_at m p))

pub left_over : (m : List ℕ) (p : ℕ) → over m p ≡ true → left m p ≡ ended
unfolding left listing
left_over m p o = cond-true _ _ _ o

pub left-good : (m : List ℕ) (p : ℕ) → p ≤ length m → over m p ≡ false → good_at m p ≡ true → left m p ≡ one (entry_at m p) (left m (p + size (drop p m)))
unfolding left listing
left-good m p h o g =
    let s = steps m p h g in
    cond-false _ _ _ o ∙ cond-true _ _ _ g ∙ ap (one (entry_at m p)) (enough (length m - p) (suc (length m - (p + size (drop p m)))) m (p + size (drop p m)) s.within (omega (arith, s.on, s.within)) (omega arith))

pub left-bad : (m : List ℕ) (p : ℕ) → over m p ≡ false → good_at m p ≡ false → left m p ≡ bad p
unfolding left listing
left-bad m p o g = cond-false _ _ _ o ∙ cond-false _ _ _ g
