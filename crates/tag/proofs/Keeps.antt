-- What every turn keeps: the UID, the marks, a sound memory of the same shape; and no answer is longer than the longest.
-- Assumes nothing.
use Rattle.std.proofs.Common.{◌≡◌, ℕ, ◌+◌, ◌*◌, ◌<◌, ◌≤◌, Bool, true, false, cond, ◌&&◌, ◌||◌, eqb, ltb, leb, List, [], ◌∷◌, ◌++◌, length, take, drop, Some, None, Ok, Err, Option, Result, sym, refl, ap, ◌∙◌, subst, arith, length-append, length-drop, length-set, length-take-le}
use mathlib.Core.Bool.{beq}
use Rattle.std.proofs.lemmas.Bool.{cond_both, ltb-true, leb-true, eqb-true}
use Rattle.memory.specs.Model.{Model, Sound, count_of, lock_at, with_block, with_lock}
use Rattle.request.specs.declared.command.Command.{Command}
use Rattle.request.specs.declared.command.Work.{Work}
use Rattle.request.specs.declared.command.Work.TheVariants.{Read, Write, Lock, ReadMany}
use Rattle.request.specs.declared.error_code.ErrorCode.{ErrorCode}
use Rattle.request.specs.declared.error_code.ErrorCode.TheVariants.{NotSupported, NotRecognized, OptionNotSupported, NoInformation, Absent, LockedAlready, Locked}
use Rattle.request.specs.declared.state.State.{State}
use Rattle.request.specs.declared.state.State.TheVariants.{Selected, Quiet}
use Rattle.request.specs.Errors.{code_of}
use Rattle.request.specs.Frame.{code_at, optioned, addressed, selective, intact, uid_at, body_of}
use Rattle.tag.specs.Means.{longest}
use Rattle.request.specs.Command.{command_of}
use Rattle.tag.specs.Rules.{Turn, silence, replies, released, for_another, deaf, selects, knows, number_length, extra_length, body_length, block_number, count_number, blocks_from, reads_blocks, changes, obeys, blocks, heeds, of_one, of_many, turn}
use Rattle.tag.specs.Tag.{TagModel, with_state, with_memory}
use Rattle.tag.proofs.Blocks.{block_ends, blocks_low}

-- an answer, or silence, of at most so many bytes
abbrev pub Short : Option (List ℕ) → Type 0
Short None = Unit
Short (Some a) = length a ≤ longest

pub record Keeps (t : TagModel) (r : Turn) : Type 0 where
  pub uid : r.after.uid ≡ t.uid
  pub marks : r.after.marks ≡ t.marks
  pub unit : r.after.memory.unit ≡ t.memory.unit
  pub count : count_of r.after.memory ≡ count_of t.memory
  pub sound : Sound r.after.memory
  pub short : Short r.says

-- a list of at most two bytes
pub short-one : (a : ℕ) → Short (Some (a ∷ []))
short-one a = omega arith

pub short_two : (a b : ℕ) → Short (Some (a ∷ b ∷ []))
short_two a b = omega arith

-- a block of the memory's length leaves it sound
pub sound_block : (m : Model) (n : ℕ) (bs : List ℕ) → Sound m → n < count_of m → length bs ≡ m.unit → Sound (with_block m n bs)
sound_block m n bs s h e =
    let at = n * m.unit in
    let a = length-take-le at m.bytes (let b = block_ends m n s h in omega arith) in
    let b = length-append (take at m.bytes ++ bs) (drop (at + length bs) m.bytes) in
    let c = length-append (take at m.bytes) bs in
    let d = length-drop (at + length bs) m.bytes in
    let x = block_ends m n s h in
    let w = s.whole in
    let long : length (take at m.bytes ++ bs ++ drop (at + length bs) m.bytes) ≡ length m.bytes = omega arith in
    record { unit = s.unit; few = s.few; whole = long ∙ w }

pub sound_lock : (m : Model) (n : ℕ) → Sound m → Sound (with_lock m n)
sound_lock m n s =
    let e = length-set m.locks n true in
    record { unit = s.unit; few = subst (λ k. k ≤ 65536) (sym e) s.few; whole = s.whole ∙ ap (λ k. k * m.unit) (sym e) }

module _ (t : TagModel) (s : Sound t.memory) where
  abbrev kept : Turn → Type 0
  kept r = Keeps t r

  abbrev replied : Result (TagModel × List ℕ) ErrorCode → Type 0
  replied r = Keeps t (replies t r)

  silent : (x : State) → kept (silence (with_state t x))
  silent x = record { uid = refl; marks = refl; unit = refl; count = refl; sound = s; short = tt }

  still : kept (silence t)
  still = record { uid = refl; marks = refl; unit = refl; count = refl; sound = s; short = tt }

  refused : (e : ErrorCode) → replied (Err e)
  refused e = record { uid = refl; marks = refl; unit = refl; count = refl; sound = s; short = short_two 1 (code_of e) }

  read : (of : Bool) (n k : ℕ) → k ≤ 32 → replied (reads_blocks t of n k)
  read of n k few =
      cond_both (leb (n + k) (count_of t.memory)) (Ok (t, blocks_from t.memory of n k)) (Err Absent) replied
      (λ h. let low = blocks_low t.memory of n k s (leb-true (n + k) (count_of t.memory) h) in record { uid = refl; marks = refl; unit = refl; count = refl; sound = s; short = omega arith })
      (λ h. refused Absent)

  -- a write or a lock that is carried out
  module _ (e : ErrorCode) (m : Model) (same : m.unit ≡ t.memory.unit) (many : count_of m ≡ count_of t.memory) where
    done : Sound m → replied (Ok (with_memory t m, []))
    done sound = record { uid = refl; marks = refl; unit = same; count = many; sound = sound; short = short-one 0 }

    changed : (of : Bool) (n : ℕ) → (n < count_of t.memory → Sound m) → replied (changes t of n e m)
    changed of n sound =
        let open-one = cond (lock_at t.memory n) (Err e) (Ok (with_memory t m, [])) in
        let there = cond (ltb n (count_of t.memory)) open-one (Err Absent) in
        cond_both (beq of t.marks.special) there (Err OptionNotSupported) replied
        (λ b. cond_both (ltb n (count_of t.memory)) open-one (Err Absent) replied (λ h. cond_both (lock_at t.memory n) (Err e) (Ok (with_memory t m, [])) replied (λ l. refused e) (λ l. done (sound (ltb-true n (count_of t.memory) h)))) (λ h. refused Absent))
        (λ b. refused OptionNotSupported)

  obeyed : (of : Bool) (c : Command) (w : Work) (body : List ℕ) → c.work ≡ w → length body ≡ body_length c t.memory.unit → replied (obeys t of c w body)
  obeyed of c Read body e l = read of (block_number c body) 1 (omega arith)
  obeyed of c Write body e l =
      changed Locked (with_block t.memory (block_number c body) (drop (number_length c) body)) refl refl of (block_number c body)
      (λ h. sound_block t.memory (block_number c body) (drop (number_length c) body) s h (let d = length-drop (number_length c) body in let x = ap (λ v. number_length c + extra_length v (number_length c) t.memory.unit) e in omega arith))
  obeyed of c Lock body e l =
      changed LockedAlready (with_lock t.memory (block_number c body)) refl (length-set t.memory.locks (block_number c body) true) of (block_number c body) (λ h. sound_lock t.memory (block_number c body) s)
  obeyed of c ReadMany body e l =
      cond_both (leb (count_number c body) 31) (reads_blocks t of (block_number c body) (count_number c body + 1)) (Err NoInformation) replied
      (λ h. read of (block_number c body) (count_number c body + 1) (let k = leb-true (count_number c body) 31 h in omega arith))
      (λ h. refused NoInformation)

  worked : (of : Bool) (body : List ℕ) (c : Option Command) → replied (blocks t of body c)
  worked of body None = refused NotSupported
  worked of body (Some c) =
      let long = eqb (length body) (body_length c t.memory.unit) in
      cond_both (knows t.marks c) (cond long (obeys t of c c.work body) (Err NotRecognized)) (Err NotSupported) replied
      (λ k. cond_both long (obeys t of c c.work body) (Err NotRecognized) replied (λ l. obeyed of c c.work body refl (eqb-true (length body) (body_length c t.memory.unit) l)) (λ l. refused NotRecognized))
      (λ k. refused NotSupported)

  chosen : replied (Ok (with_state t Selected, []))
  chosen = record { uid = refl; marks = refl; unit = refl; count = refl; sound = s; short = short-one 0 }

  quieted : kept (record { after = with_state t Quiet; says = None; carried = true })
  quieted = record { uid = refl; marks = refl; unit = refl; count = refl; sound = s; short = tt }

  selected : (just : Bool) (code : ℕ) → kept (selects t just code)
  selected just code =
      let on = replies t (Ok (with_state t Selected, [])) in
      let off : Turn = record { after = with_state t Quiet; says = None; carried = true } in
      cond_both just (cond (eqb code 0x25) on off) (silence t) kept (λ j. cond_both (eqb code 0x25) on off kept (λ c. chosen) (λ c. quieted)) (λ j. still)

  heeded : (this : Bool) (long code : ℕ) (of : Bool) (body : List ℕ) → kept (heeds t this long code of body)
  heeded this long code of body =
      cond_both (eqb code 0x25 || eqb code 0x02) (selects t (this && eqb long 10) code) (replies t (blocks t of body (command_of code))) kept (λ h. selected (this && eqb long 10) code) (λ h. worked of body (command_of code))

  another : (long code : ℕ) → kept (for_another t long code)
  another long code =
      cond_both (eqb long 10 && eqb code 0x25) (with_state t (released t.state)) t (λ x. kept (silence x)) (λ h. silent (released t.state)) (λ h. still)

  one : (f : List ℕ) → kept (of_one t f)
  one f =
      cond_both (eqb (uid_at f) t.uid) (heeds t true (length f) (code_at f) (optioned f) (body_of f)) (for_another t (length f) (code_at f)) kept (λ u. heeded true (length f) (code_at f) (optioned f) (body_of f)) (λ u. another (length f) (code_at f))

  many : (f : List ℕ) → kept (of_many t f)
  many f =
      cond_both (deaf t.state (selective f)) (silence t) (heeds t false (length f) (code_at f) (optioned f) (body_of f)) kept (λ d. still) (λ d. heeded false (length f) (code_at f) (optioned f) (body_of f))

  pub turn_keeps : (f : List ℕ) → Keeps t (turn t f)
  unfolding turn
  turn_keeps f =
      cond_both (intact f) (cond (addressed f) (of_one t f) (of_many t f)) (silence t) kept (λ i. cond_both (addressed f) (of_one t f) (of_many t f) kept (λ a. one f) (λ a. many f)) (λ i. still)
