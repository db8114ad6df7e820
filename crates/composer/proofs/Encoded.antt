-- One record, composed and then read: the reader finds the lengths and the fields that went in. Assumes nothing.
use Rattle.std.proofs.Common.{◌≡◌, ℕ, ◌+◌, ◌-◌, ◌/◌, ◌%◌, ◌^◌, ◌<◌, ◌≤◌, Bool, true, false, cond, not, eqb, List, [], ◌∷◌, ◌++◌, length, get_or, take, drop, sym, refl, ap, ◌∙◌, subst, append_assoc, arith, length-append, take_at, drop_at}
use mathlib.Core.Bool.{beq}
use Rattle.std.proofs.lemmas.Bool.{cond-true, cond-false, and_from, le-leb, ltb-false}
use Rattle.ndef.specs.Content.{Content}
use Rattle.header.specs.Format.{allows}
use Rattle.header.specs.Header.{has, fixed, sr, il}
use Rattle.ndef.specs.Reading.{flags_of, wide, id_length, payload_length, size, good}
use Rattle.composer.specs.Message.{short, named, four_bytes, header, encoded, encoded_length}
use Rattle.ndef.proofs.Contents.{content_at}
use Rattle.composer.proofs.Flags.{Says, says}

pub wide_four : (n : ℕ) → n < 2 ^ 32 → wide (n / 16777216 % 256) (n / 65536 % 256) (n / 256 % 256) (n % 256) ≡ n
wide_four n h =
    let e : n / 65536 ≡ n / 256 / 256 = omega arith in
    let f : n / 16777216 ≡ n / 65536 / 256 = omega arith in
    let top : n / 16777216 % 256 ≡ n / 16777216 = omega arith in
    omega arith

pub four_wide : (a b c d : ℕ) → a < 256 → b < 256 → c < 256 → d < 256 → four_bytes (wide a b c d) ≡ a ∷ b ∷ c ∷ d ∷ []
four_wide a b c d ha hb hc hd =
    let n = wide a b c d in
    let ea : n / 16777216 % 256 ≡ a = omega arith in
    let eb : n / 65536 % 256 ≡ b = omega arith in
    let ec : n / 256 % 256 ≡ c = omega arith in
    let ed : n % 256 ≡ d = omega arith in
    cc

-- ---- the lengths

-- the fixed part of a header over its two length bits, with what follows it
abbrev front : (short named : Bool) → (h kind payload id : ℕ) → List ℕ → List ℕ
front s n h k p i rest = ((h ∷ k ∷ []) ++ cond s (p ∷ []) (four_bytes p) ++ cond n (i ∷ []) []) ++ rest

pub record Lengths (s n : Bool) (k p i : ℕ) (bs : List ℕ) : Type 0 where
  pub fixed-is : fixed (flags_of bs) ≡ 2 + cond s 1 4 + cond n 1 0
  pub payload-is : payload_length bs ≡ p
  pub id-is : id_length bs ≡ i

lengths : (s n : Bool) (h k p i : ℕ) (rest : List ℕ) → has sr h ≡ s → has il h ≡ n → p < 2 ^ 32 → (n ≡ false → i ≡ 0) → Lengths s n k p i (front s n h k p i rest)
lengths true true h k p i rest es en hp hi =
    let f : fixed h ≡ 4 = ap (λ b. 2 + cond b 1 4 + cond (has il h) 1 0) es ∙ ap (λ b. 3 + cond b 1 0) en in
    record { fixed-is = f; payload-is = cond-true _ _ _ es; id-is = cond-true _ _ _ en ∙ ap (λ j. get_or (front true true h k p i rest) (j - 1) 0) f }
lengths true false h k p i rest es en hp hi =
    record {
      fixed-is = ap (λ b. 2 + cond b 1 4 + cond (has il h) 1 0) es ∙ ap (λ b. 3 + cond b 1 0) en;
      payload-is = cond-true _ _ _ es;
      id-is = cond-false _ _ _ en ∙ sym (hi refl);
    }
lengths false true h k p i rest es en hp hi =
    let f : fixed h ≡ 7 = ap (λ b. 2 + cond b 1 4 + cond (has il h) 1 0) es ∙ ap (λ b. 6 + cond b 1 0) en in
    record {
      fixed-is = f;
      payload-is = cond-false _ _ _ es ∙ wide_four p hp;
      id-is = cond-true _ _ _ en ∙ ap (λ j. get_or (front false true h k p i rest) (j - 1) 0) f;
    }
lengths false false h k p i rest es en hp hi =
    record {
      fixed-is = ap (λ b. 2 + cond b 1 4 + cond (has il h) 1 0) es ∙ ap (λ b. 6 + cond b 1 0) en;
      payload-is = cond-false _ _ _ es ∙ wide_four p hp;
      id-is = cond-false _ _ _ en ∙ sym (hi refl);
    }

-- ---- the fields

header-length : (s n : Bool) (h k p i : ℕ) → length ((h ∷ k ∷ []) ++ cond s (p ∷ []) (four_bytes p) ++ cond n (i ∷ []) []) ≡ 2 + cond s 1 4 + cond n 1 0
header-length true true h k p i = refl
header-length true false h k p i = refl
header-length false true h k p i = refl
header-length false false h k p i = refl

pub encoded-length : (first last : Bool) (c : Content) → length (encoded first last c) ≡ encoded_length c
encoded-length first last c =
    let h = header first last c in
    length-append (h ++ c.kind ++ c.id) c.payload ∙ ap (λ n. n + length c.payload) (length-append (h ++ c.kind) c.id ∙ ap (λ n. n + length c.id) (length-append h c.kind ∙ ap (λ n. n + length c.kind) (header-length (short c) (named c) (flags_of h) (length c.kind) (length c.payload) (length c.id))))

-- a part that lies between two others
middle : (whole xs ys zs : List ℕ) (n k : ℕ) → whole ≡ xs ++ (ys ++ zs) → length xs ≡ n → length ys ≡ k → take k (drop n whole) ≡ ys
middle whole xs ys zs n k e en ek =
    ap (λ l. take k (drop n l)) e ∙ ap (take k) (drop_at xs (ys ++ zs) n en) ∙ take_at ys zs k ek

alike : (a b : Bool) → a ≡ b → beq a b ≡ true
alike true true e = refl
alike true false e = sym e
alike false true e = e
alike false false e = refl

module _ (first last : Bool) (c : Content) (tail : List ℕ) (t : length c.payload < 2 ^ 32) where
  abbrev bytes : List ℕ
  bytes = encoded first last c ++ tail

  tells : Says first last (short c) (named c) c.format (flags_of bytes)
  tells = says first last (short c) (named c) c.format

  apart : bytes ≡ header first last c ++ (c.kind ++ (c.id ++ (c.payload ++ tail)))
  apart = simp append_assoc

  found : Lengths (short c) (named c) (length c.kind) (length c.payload) (length c.id) bytes
  found =
      subst (Lengths (short c) (named c) (length c.kind) (length c.payload) (length c.id)) (sym apart)
      (lengths (short c) (named c) _ _ _ _ _ tells.says-sr tells.says-il t (λ e. let h = ltb-false 0 (length c.id) e in omega arith))

  header_is : length (header first last c) ≡ fixed (flags_of bytes)
  header_is =
      header-length (short c) (named c) (flags_of bytes) (length c.kind) (length c.payload) (length c.id) ∙ sym found.fixed-is

  to_id : length (header first last c ++ c.kind) ≡ fixed (flags_of bytes) + length c.kind
  to_id = length-append (header first last c) c.kind ∙ ap (λ n. n + length c.kind) header_is

  to_payload : length (header first last c ++ c.kind ++ c.id) ≡ fixed (flags_of bytes) + length c.kind + id_length bytes
  to_payload =
      length-append (header first last c ++ c.kind) c.id ∙ ap (λ n. n + length c.id) to_id ∙ ap (λ n. fixed (flags_of bytes) + length c.kind + n) (sym found.id-is)

  pub encoded-size : size bytes ≡ length (encoded first last c)
  encoded-size =
      ap (λ n. fixed (flags_of bytes) + length c.kind + id_length bytes + n) found.payload-is ∙ sym (length-append (header first last c ++ c.kind ++ c.id) c.payload ∙ ap (λ n. n + length c.payload) to_payload)

  pub encoded-content : content_at bytes ≡ c
  encoded-content =
      let a = middle bytes (header first last c) c.kind (c.id ++ (c.payload ++ tail)) _ _ apart header_is refl in
      let b = middle bytes (header first last c ++ c.kind) c.id (c.payload ++ tail) _ _ (simp append_assoc) to_id (sym found.id-is) in
      let d = middle bytes (header first last c ++ c.kind ++ c.id) c.payload tail _ _ (simp append_assoc) to_payload (sym found.payload-is) in
      λ i. record { format = tells.says-format i; kind = a i; id = b i; payload = d i }

  pub encoded-good : allows c.format (length c.kind) (length c.id) (length c.payload) ≡ true → last ≡ eqb (length (encoded first last c)) (length bytes) → good first bytes ≡ true
  encoded-good allowed ends =
      let long = length-append (encoded first last c) tail in
      let sized = encoded-size in
      let within : size bytes ≤ length bytes = omega arith in
      and_from _ _
      (and_from _ _
      (and_from _ _ (and_from _ _ (le-leb _ _ within) (alike _ _ tells.says-mb))
      (alike _ _ (tells.says-me ∙ ends ∙ ap (λ n. eqb n (length bytes)) (sym sized))))
      (ap not tells.says-cf))
      ((λ i. allows (tells.says-format i) (length c.kind) (found.id-is i) (found.payload-is i)) ∙ allowed)
