-- What a tag makes of the frames that a gate sends. Assumes nothing.
use Rattle.std.proofs.Common.{◌≡◌, ℕ, ◌+◌, ◌*◌, ◌/◌, ◌%◌, ◌<◌, ◌≤◌, Bool, true, false, cond, ◌||◌, eqb, leb, List, [], ◌∷◌, ◌++◌, Ok, Err, sym, refl, ap, ◌∙◌, subst, inl, ⊎_elim, arith}
use Rattle.std.proofs.lemmas.Bool.{cond-true, cond_both, cases_Bool, cases_eq, eq-eqb, le-leb, lt-leb, leb-true, leb-false}
use Rattle.memory.specs.Model.{count_of}
use Rattle.request.specs.declared.error_code.ErrorCode.TheVariants.{NotSupported, Absent}
use Rattle.request.specs.Frame.{little}
use Rattle.tag.specs.Rules.{replies, reads_blocks, blocks_from, turn}
use Rattle.tag.specs.Tag.{TagModel}
use Rattle.field.specs.Addressed.{AddressedTo}
use Rattle.field.specs.Exchange.{hears}
use Rattle.field.specs.Span.{reaches}
use Rattle.field.proofs.Addressed.{aside_kept}
use Rattle.procedure.proofs.Alone.{Harmless}
use Rattle.procedure.specs.Frames.{uid_bytes, read_frame}

-- a UID is had back from its bytes
pub uid-back : (u : ℕ) → u < 18446744073709551616 → little (uid_bytes u) ≡ u
uid-back u h = omega arith

-- ---- reading a block

abbrev pub narrow_read : ℕ → ℕ → List ℕ
narrow_read u n = 0x22 ∷ 0x20 ∷ uid_bytes u ++ (n ∷ [])

abbrev pub wide_read : ℕ → ℕ → List ℕ
wide_read u n = 0x22 ∷ 0x30 ∷ uid_bytes u ++ (n % 256 ∷ n / 256 ∷ [])

pub read_narrow : (u n : ℕ) → n ≤ 255 → read_frame u n ≡ narrow_read u n
read_narrow u n h = ap (λ b. 0x22 ∷ cond b 0x20 0x30 ∷ uid_bytes u ++ cond b (n ∷ []) (n % 256 ∷ n / 256 ∷ [])) (le-leb n 255 h)

pub read_wide : (u n : ℕ) → 255 < n → read_frame u n ≡ wide_read u n
read_wide u n h = ap (λ b. 0x22 ∷ cond b 0x20 0x30 ∷ uid_bytes u ++ cond b (n ∷ []) (n % 256 ∷ n / 256 ∷ [])) (lt-leb n 255 h)

-- either of the two
read_either : (P : List ℕ → Type 0) (u n : ℕ) → P (narrow_read u n) → P (wide_read u n) → P (read_frame u n)
read_either P u n a b =
    ⊎_elim (λ h. subst P (sym (read_narrow u n (leb-true n 255 h))) a) (λ h. subst P (sym (read_wide u n (leb-false n 255 h))) b) (cases_Bool (leb n 255))

pub read-addressed : (u n : ℕ) → u < 18446744073709551616 → AddressedTo u (read_frame u n)
read-addressed u n h =
    read_either (AddressedTo u) u n (record { addressed = refl; uid = uid-back u h; selects-none = λ e. omega arith }) (record { addressed = refl; uid = uid-back u h; selects-none = λ e. omega arith })

module _ (t : TagModel) (u n : ℕ) (h : u < 18446744073709551616) (same : t.uid ≡ u) where
  this : eqb (little (uid_bytes u)) t.uid ≡ true
  this = eq-eqb (little (uid_bytes u)) t.uid (uid-back u h ∙ sym same)

  narrow_turn : turn t (narrow_read u n) ≡ replies t (reads_blocks t false n 1)
  unfolding turn
  narrow_turn =
      let e : n + 256 * 0 ≡ n = omega arith in
      cond-true _ _ _ this ∙ ap (λ k. replies t (reads_blocks t false k 1)) e

  wide-turn : turn t (wide_read u n) ≡ replies t (cond t.marks.wide (reads_blocks t false n 1) (Err NotSupported))
  unfolding turn
  wide-turn =
      let e : n % 256 + 256 * (n / 256 + 256 * 0) ≡ n = omega arith in
      cond-true _ _ _ this ∙ ap (λ k. replies t (cond t.marks.wide (reads_blocks t false k 1) (Err NotSupported))) e

  -- the tag reads the block, unless the number is two bytes and the tag knows none such
  pub read-turn : turn t (read_frame u n) ≡ replies t (cond (leb n 255 || t.marks.wide) (reads_blocks t false n 1) (Err NotSupported))
  read-turn =
      ⊎_elim (λ b. ap (turn t) (read_narrow u n (leb-true n 255 b)) ∙ narrow_turn ∙ ap (λ x. replies t (cond (x || t.marks.wide) (reads_blocks t false n 1) (Err NotSupported))) (sym b))
      (λ b. ap (turn t) (read_wide u n (leb-false n 255 b)) ∙ wide-turn ∙ ap (λ x. replies t (cond (x || t.marks.wide) (reads_blocks t false n 1) (Err NotSupported))) (sym b)) (cases_Bool (leb n 255))

-- a tag that reads is as it was
reads_same : (t : TagModel) (n : ℕ) (b : Bool) → (replies t (cond b (reads_blocks t false n 1) (Err NotSupported))).after ≡ t
reads_same t n b =
    let there = leb (n + 1) (count_of t.memory) in
    let x = blocks_from t.memory false n 1 in
    cond_both b (cond there (Ok (t, x)) (Err Absent)) (Err NotSupported) (λ r. (replies t r).after ≡ t) (λ h. cond_both there (Ok (t, x)) (Err Absent) (λ r. (replies t r).after ≡ t) (λ k. refl) (λ k. refl)) (λ h. refl)

-- no tag is changed by a frame that reads
pub read_harmless : (u n : ℕ) → u < 18446744073709551616 → Harmless (read_frame u n)
unfolding hears
read_harmless u n h p =
    ⊎_elim
    (λ same. cond_both (reaches p.span) (turn p.tag (read_frame u n)).after p.tag (λ t. t ≡ p.tag) (λ r. ap (λ x. x.after) (read-turn p.tag u n h same) ∙ reads_same p.tag n (leb n 255 || p.tag.marks.wide)) (λ r. refl))
    (λ other. aside_kept u (read_frame u n) (read-addressed u n h) p (inl other)) (cases_eq p.tag.uid u)
