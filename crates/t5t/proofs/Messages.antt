-- Reading of one tag gets the message that its memory shows, and no more. Assumes nothing.
use Rattle.std.proofs.Common.{◌≡◌, ℕ, zero, suc, ◌+◌, ◌-◌, ◌*◌, ◌/◌, ◌%◌, ◌<◌, ◌≤◌, true, false, eqb, ltb, ◌⊎◌, List, [], ◌++◌, length, take, drop, replicate, IfOk, Some, None, Ok, Err, Option, Result, sym, refl, ap, ◌∙◌, subst, inl, inr, mod-lt, div-add-mod', arith, length-append, length-drop, length-take-le, take-take, drop-drop, take-add}
use native.Mathlib.Nat.{min-le_left, min-le_right}
use lib.Seq.{take-append-le, drop-append-le}
use Rattle.std.proofs.lemmas.List.{drop-take}
use Rattle.std.proofs.lemmas.Bool.{true≢false, cond-true, cond-false, cond_both, eqb-true, ne_eqb, le-leb, le-ltb, ltb-false}
use Rattle.space.specs.Space.{laid}
use Rattle.memory.specs.Model.{Model, Sound, count_of, block_at}
use Rattle.tag.specs.Tag.{TagModel}
use Rattle.tag.proofs.Blocks.{block_ends, block_long}
use Rattle.field.specs.declared.span.Span.{Span}
use Rattle.field.specs.Addressed.{AddressedTo}
use Rattle.procedure.specs.Frames.{read_frame}
use Rattle.procedure.specs.Procedure.{Procedure, answer, bind, perform, Sends}
use Rattle.procedure.proofs.Alone.{Harmless}
use Rattle.procedure.proofs.Binds.{sends_bind}
use Rattle.procedure.proofs.Frames.{read-addressed, read_harmless}
use Rattle.shown.specs.declared.container.Place.{Place}
use Rattle.shown.specs.declared.flaw.Flaw.{Flaw}
use Rattle.shown.specs.declared.value.Value.{Value}
use Rattle.shown.specs.Asks.{Asks, and_then, over}
use Rattle.shown.specs.Shown.{located, valued, value_in, message, shown}
use Rattle.shown.specs.Walk.{length_field}
use Rattle.t5t.proofs.Detections.{over_and, Leaves, over_parts, then_true, then_lasting, Shows, Tells, asking_truthful, asking_thorough}
use Rattle.t5t.proofs.Truths.{Holds, Found, Given, one_tag, asking_sends, block_sends, unit_some, block_there, none_some, block_found, block_given}
use Rattle.t5t.specs.Laws.{Stays}
use Rattle.t5t.specs.declared.kept.Kept.{Kept}
use Rattle.refusal.specs.declared.step.Step.{Step}
use Rattle.t5t.specs.declared.stop.Stop.{Stop}
use Rattle.t5t.specs.Asking.{kept_at, block_of, asking}
use Rattle.t5t.specs.Reading.{Break, chunk, chunk_of, or_break, copying, copied, or_broken, reading}

-- ---- the frames of a reading

-- what goes on with a block, or breaks off, sends such frames
break_sends : (such : List ℕ → Type 0) (got : List ℕ) (next : Kept → Procedure (Result (List ℕ) Break)) → ((k : Kept) → Sends such (next k)) → (r : Result Kept Stop) → Sends such (or_break got next r)
break_sends such got next h (Ok k) = h k
break_sends such got next h (Err s) = tt

-- and so does what goes on with the L-field
broken_sends : (such : List ℕ → Type 0) (next : Value × Option Kept → Procedure (Result (List ℕ) Break)) → ((v : Value × Option Kept) → Sends such (next v)) → (r : Result (Value × Option Kept) Stop) → Sends such (or_broken next r)
broken_sends such next h (Ok v) = h v
broken_sends such next h (Err s) = tt

module _ (such : List ℕ → Type 0) (u unit : ℕ) (all : (n : ℕ) → such (read_frame u n)) where
  -- copying reads
  copying_sends : (fuel : ℕ) (k : Option Kept) (a left : ℕ) (got : List ℕ) → Sends such (copying fuel u unit k a left got)
  copying_sends zero k a left got = tt
  copying_sends (suc fuel) k a left got =
      let next = λ (b : Kept). copying fuel u unit (Some b) (a + chunk unit a left) (left - chunk unit a left) (got ++ chunk_of unit a left b) in
      let on = sends_bind such (block_of Step.Read u unit k (a / unit)) (or_break got next) (block_sends such Step.Read u unit (a / unit) (all (a / unit)) (kept_at k (a / unit))) (break_sends such got next (λ b. copying_sends fuel (Some b) (a + chunk unit a left) (left - chunk unit a left) (got ++ chunk_of unit a left b))) in
      cond_both (eqb left 0) _ _ (λ p. Sends such p) (λ none. tt) (λ some. on)

  -- so does all that follows the L-field
  copied_sends : (room : ℕ) (v : Value × Option Kept) → Sends such (copied u unit room v)
  copied_sends room v =
      cond_both (eqb v.0.long 0) _ _ (λ p. Sends such p) (λ empty. tt) (λ some. cond_both (ltb room v.0.long) _ _ (λ p. Sends such p) (λ short. tt) (λ fits. copying_sends v.0.long v.1 v.0.at v.0.long []))

  -- all of it reads
  pub reading_sends : (end at room : ℕ) → Sends such (reading u unit end at room)
  reading_sends end at room =
      sends_bind such (asking Step.Walk u unit None (length_field end at)) (or_broken (copied u unit room)) (asking_sends such Step.Walk u unit all None (length_field end at)) (broken_sends such (copied u unit room) (copied_sends room))

-- every frame is for that tag
pub reading-addressed : (u unit end at room : ℕ) → u < 18446744073709551616 → Sends (AddressedTo u) (reading u unit end at room)
reading-addressed u unit end at room low = reading_sends (AddressedTo u) u unit (λ n. read-addressed u n low) end at room

-- and none changes a tag
pub reading_harmless : (u unit end at room : ℕ) → u < 18446744073709551616 → Sends Harmless (reading u unit end at room)
reading_harmless u unit end at room low = reading_sends Harmless u unit (λ n. read_harmless u n low) end at room

-- ---- what is taken of a block

module _ (m : Model) (sound : Sound m) where
  -- something is taken, where something is left
  chunk_some : (a left : ℕ) → 0 < left → 1 ≤ chunk m.unit a left
  chunk_some a left h = let r = mod-lt a (unit_some m sound) in omega arith

  -- no more than is left
  chunk-left : (a left : ℕ) → chunk m.unit a left ≤ left
  chunk-left a left = min-le_right (m.unit - a % m.unit) left

  -- and no more than is in the block
  chunk_block : (a left : ℕ) → a % m.unit + chunk m.unit a left ≤ m.unit
  chunk_block a left =
      let r = mod-lt a (unit_some m sound) in
      let l = min-le_left (m.unit - a % m.unit) left in
      omega arith

  -- so it lies within the memory
  chunk_ends : (a left : ℕ) → a / m.unit < count_of m → a + chunk m.unit a left ≤ length m.bytes
  chunk_ends a left there =
      let e = block_ends m (a / m.unit) sound there in
      let d = div-add-mod' a m.unit in
      let c = chunk_block a left in
      omega arith

  -- bytes of a block are those of the memory
  block_part : (n i c : ℕ) → i + c ≤ m.unit → take c (drop i (block_at m n)) ≡ take c (drop (n * m.unit + i) m.bytes)
  block_part n i c h =
      let e : m.unit ≡ i + (m.unit - i) = omega arith in
      ap (λ z. take c (drop i (take z (drop (n * m.unit) m.bytes)))) e ∙ ap (take c) (drop-take i (m.unit - i) (drop (n * m.unit) m.bytes)) ∙ take-take c (m.unit - i) (drop i (drop (n * m.unit) m.bytes)) (omega arith) ∙ ap (take c) (drop-drop i (n * m.unit) m.bytes)

  -- bytes of a block that is kept are those of the block
  laid_part : (n i c : ℕ) → n < count_of m → i + c ≤ m.unit → take c (drop i (laid (block_at m n) (replicate 32 0))) ≡ take c (drop i (block_at m n))
  laid_part n i c there h =
      let b = block_at m n in
      let rest : List ℕ = drop (length b) (replicate 32 0) in
      let long = block_long m n sound there in
      let l = length-drop i b in
      ap (take c) (drop-append-le i b rest (omega arith)) ∙ take-append-le c (drop i b) rest (omega arith)

  -- what is taken of a block that is kept is what the memory holds there
  chunk-is : (a left : ℕ) (k : Kept) → Found m (a / m.unit) k → chunk_of m.unit a left k ≡ take (chunk m.unit a left) (drop a m.bytes)
  chunk-is a left k f =
      let n = a / m.unit in
      let i = a % m.unit in
      let c = chunk m.unit a left in
      let there : n < count_of m = subst (λ z. z < count_of m) f.0 f.1.0 in
      let h = chunk_block a left in
      ap (λ bs. take c (drop i bs)) (f.1.1 ∙ ap (λ z. laid (block_at m z) (replicate 32 0)) f.0) ∙ laid_part n i c there h ∙ block_part n i c h ∙ ap (λ z. take c (drop z m.bytes)) (div-add-mod' a m.unit)

-- ---- how far a copying is

-- what is got is what the memory holds there, and the rest lies behind it
pub record SoFar (m : Model) (v : Value) (a left : ℕ) (got : List ℕ) : Type 0 where
  pub place : a ≡ v.at + length got
  pub long : length got + left ≡ v.long
  pub is : got ≡ take (length got) (drop v.at m.bytes)
  pub within : 0 < length got → a ≤ length m.bytes

-- nothing is got yet
so_none : (m : Model) (v : Value) → SoFar m v v.at v.long []
so_none m v = record { place = omega arith; long = omega arith; is = refl; within = λ h. absurd (omega arith) }

-- one block more
so_more : (m : Model) (v : Value) (sound : Sound m) (a left : ℕ) (got : List ℕ) → SoFar m v a left got → (k : Kept) → Found m (a / m.unit) k → SoFar m v (a + chunk m.unit a left) (left - chunk m.unit a left) (got ++ chunk_of m.unit a left k)
so_more m v sound a left got x k f =
    let c = chunk m.unit a left in
    let there : a / m.unit < count_of m = subst (λ z. z < count_of m) f.0 f.1.0 in
    let ends = chunk_ends m sound a left there in
    let few = chunk-left m sound a left in
    let part = chunk-is m sound a left k f in
    let lp : length (chunk_of m.unit a left k) ≡ c = ap length part ∙ length-take-le c (drop a m.bytes) (let l = length-drop a m.bytes in omega arith) in
    let lg : length (got ++ chunk_of m.unit a left k) ≡ length got + c = let l = length-append got (chunk_of m.unit a left k) in omega arith in
    let place = x.place in
    let long = x.long in
    let behind : take c (drop a m.bytes) ≡ take c (drop (length got) (drop v.at m.bytes)) = ap (take c) (ap (λ z. drop z m.bytes) place ∙ sym (drop-drop (length got) v.at m.bytes)) in
    let was = x.is in
    let both : got ++ chunk_of m.unit a left k ≡ take (length got) (drop v.at m.bytes) ++ take c (drop (length got) (drop v.at m.bytes)) = let now = part ∙ behind in λ i. was i ++ now i in
    record {
      place = omega arith;
      long = omega arith;
      is = both ∙ sym (take-add (length got) c (drop v.at m.bytes)) ∙ ap (λ z. take z (drop v.at m.bytes)) (sym lg);
      within = λ h. ends;
    }

-- the value of a memory
abbrev pub bytes_at : Model → Value → List ℕ
bytes_at m v = take v.long (drop v.at m.bytes)

-- all is got
so_all : (m : Model) (v : Value) (a left : ℕ) (got : List ℕ) → SoFar m v a left got → left ≡ 0 → got ≡ bytes_at m v
so_all m v a left got x none =
    let e : length got ≡ v.long = let l = x.long in omega arith in
    x.is ∙ ap (λ z. take z (drop v.at m.bytes)) e

-- and lies within the memory
so_within : (m : Model) (v : Value) (a left : ℕ) (got : List ℕ) → SoFar m v a left got → left ≡ 0 → 1 ≤ v.long → v.at + v.long ≤ length m.bytes
so_within m v a left got x none some =
    let l = x.long in
    let p = x.place in
    let w = x.within (omega arith) in
    omega arith

-- ---- what a reading may answer

-- what a copying comes to: the value, within the memory, or bytes of the memory from where the value begins
abbrev pub Comes : Model → Value → Result (List ℕ) Break → Type 0
Comes m v (Ok bs) = (bs ≡ bytes_at m v) × (v.at + v.long ≤ length m.bytes)
Comes m v (Err z) = z.got ≡ take (length z.got) (drop v.at m.bytes)

-- the value that a memory shows, and that is neither empty nor too long
abbrev pub Gets : Model → Asks (Result Value Flaw) → ℕ → List ℕ → Type 0
Gets m x room bs =
    (v : Value) × (over m.bytes x ≡ Some (Ok v)) × (value_in m.bytes v ≡ Some bs) × (1 ≤ v.long) × (v.long ≤ room)

-- nothing, or bytes of the memory from where that value begins
abbrev pub Breaks : Model → Asks (Result Value Flaw) → Break → Type 0
Breaks m x z =
    (z.got ≡ []) ⊎ ((v : Value) × (over m.bytes x ≡ Some (Ok v)) × (z.got ≡ take (length z.got) (drop v.at m.bytes)))

-- either of the two
abbrev pub GetsOrBreaks : Model → Asks (Result Value Flaw) → ℕ → Result (List ℕ) Break → Type 0
GetsOrBreaks m x room (Ok bs) = Gets m x room bs
GetsOrBreaks m x room (Err z) = Breaks m x z

-- what a copying comes to is what a reading may answer
comes_reads : (m : Model) (x : Asks (Result Value Flaw)) (room : ℕ) (v : Value) → over m.bytes x ≡ Some (Ok v) → 1 ≤ v.long → v.long ≤ room → (r : Result (List ℕ) Break) → Comes m v r → GetsOrBreaks m x room r
comes_reads m x room v shows some fits (Ok bs) (is, within) =
    (v, shows, cond-true _ _ _ (le-leb (v.at + v.long) (length m.bytes) within) ∙ ap (λ z. Some z) (sym is), some, fits)
comes_reads m x room v shows some fits (Err z) part = inr (v, shows, part)

-- a number that is not zero
some_long : (n : ℕ) → eqb n 0 ≡ false → 1 ≤ n
some_long zero e = absurd (true≢false e)
some_long (suc n) e = omega arith

-- ---- the tag

module _ (t : TagModel) (u : ℕ) (low : u < 18446744073709551616) (same : t.uid ≡ u) (sound : Sound t.memory) where
  -- its memory
  abbrev m : Model
  m = t.memory

  -- its block length
  abbrev unit : ℕ
  unit = t.memory.unit

  -- a block is had by harmless frames
  had_harmless : (k : Option Kept) (n : ℕ) → Sends Harmless (block_of Step.Read u unit k n)
  had_harmless k n = block_sends Harmless Step.Read u unit n (read_harmless u n low) (kept_at k n)

  -- and so is the L-field
  field_harmless : (end at : ℕ) → Sends Harmless (asking Step.Walk u unit None (length_field end at))
  field_harmless end at = asking_sends Harmless Step.Walk u unit (λ n. read_harmless u n low) None (length_field end at)

  -- ---- whatever is got is the memory's

  module _ (v : Value) (some : 1 ≤ v.long) where
    -- nothing is left
    all_comes : (a left : ℕ) (got : List ℕ) → SoFar m v a left got → left ≡ 0 → Comes m v (Ok got)
    all_comes a left got x none = (so_all m v a left got x none, so_within m v a left got x none some)

    -- with a block, or without
    break_true : (a left : ℕ) (got : List ℕ) → SoFar m v a left got → (next : Kept → Procedure (Result (List ℕ) Break)) (r : Result Kept Stop) → IfOk r (Found m (a / unit)) → (sp : Span) (s : List ℕ) → ((k : Kept) → Found m (a / unit) k → Comes m v (perform (next k) (one_tag t sp s)).value) → Comes m v (perform (or_break got next r) (one_tag t sp s)).value
    break_true a left got x next (Ok k) f sp s on = on k f
    break_true a left got x next (Err z) f sp s on = x.is

    -- from some block on
    copying-true : (fuel : ℕ) (k : Option Kept) (a left : ℕ) (got : List ℕ) → Holds m k → SoFar m v a left got → left ≤ fuel → (sp : Span) (s : List ℕ) → Comes m v (perform (copying fuel u unit k a left got) (one_tag t sp s)).value
    copying-true zero k a left got h x enough sp s =
        all_comes a left got x (omega arith)
    copying-true (suc fuel) k a left got h x enough sp s =
        let c = chunk unit a left in
        let next = λ (b : Kept). copying fuel u unit (Some b) (a + c) (left - c) (got ++ chunk_of unit a left b) in
        let block = block_of Step.Read u unit k (a / unit) in
        let all = λ (e : eqb left 0 ≡ true). all_comes a left got x (eqb-true left 0 e) in
        let fewer = λ (e : eqb left 0 ≡ false). let o = chunk_some m sound a left (some_long left e) in let l : left - c ≤ fuel = omega arith in l in
        let each = λ (e : eqb left 0 ≡ false) (sp' : Span) (s' : List ℕ) (b : Kept) (f : Found m (a / unit) b). copying-true fuel (Some b) (a + c) (left - c) (got ++ chunk_of unit a left b) f.1 (so_more m v sound a left got x b f) (fewer e) sp' s' in
        let more = λ (e : eqb left 0 ≡ false). then_true t block (or_break got next) (had_harmless k (a / unit)) sp s (λ r. IfOk r (Found m (a / unit))) (Comes m v) (block_found t u low same sound Step.Read (a / unit) k h sp s) (λ r f sp' s'. break_true a left got x next r f sp' s' (each e sp' s')) in
        cond_both (eqb left 0) _ _ (λ p. Comes m v (perform p (one_tag t sp s)).value) all more

  -- behind the L-field
  copied-true : (x : Asks (Result Value Flaw)) (room : ℕ) (v : Value) (k : Option Kept) → Shows m x (v, k) → (sp : Span) (s : List ℕ) → GetsOrBreaks m x room (perform (copied u unit room (v, k)) (one_tag t sp s)).value
  copied-true x room v k (shows, h) sp s =
      let Q = λ (p : Procedure (Result (List ℕ) Break)). GetsOrBreaks m x room (perform p (one_tag t sp s)).value in
      let all = λ (e : eqb v.long 0 ≡ false) (f : ltb room v.long ≡ false). let some = some_long v.long e in comes_reads m x room v shows some (ltb-false room v.long f) (perform (copying v.long u unit k v.at v.long []) (one_tag t sp s)).value (copying-true v some v.long k v.at v.long [] h (so_none m v) (omega arith) sp s) in
      cond_both (eqb v.long 0) _ _ Q (λ empty. inl refl) (λ e. cond_both (ltb room v.long) _ _ Q (λ short. inl refl) (λ f. all e f))

  -- with the L-field, or without
  broken_true : (x : Asks (Result Value Flaw)) (room : ℕ) (r : Result (Value × Option Kept) Stop) → IfOk r (Shows m x) → (sp : Span) (s : List ℕ) → GetsOrBreaks m x room (perform (or_broken (copied u unit room) r) (one_tag t sp s)).value
  broken_true x room (Ok (v, k)) shows sp s = copied-true x room v k shows sp s
  broken_true x room (Err z) shows sp s = inl refl

  -- whatever a reading answers is of that kind
  pub reading-all : (end at room : ℕ) (sp : Span) (s : List ℕ) → GetsOrBreaks m (length_field end at) room (perform (reading u unit end at room) (one_tag t sp s)).value
  reading-all end at room sp s =
      let x = length_field end at in
      then_true t (asking Step.Walk u unit None x) (or_broken (copied u unit room)) (field_harmless end at) sp s (λ r. IfOk r (Shows m x)) (GetsOrBreaks m x room) (asking_truthful t u low same sound Step.Walk unit refl x None tt sp s) (broken_true x room)

  -- what a reading gets is the value that the memory shows
  pub reading-true : (end at room : ℕ) (sp : Span) (s : List ℕ) (bytes : List ℕ) → (perform (reading u t.memory.unit end at room) (one_tag t sp s)).value ≡ Ok bytes → (v : Value) × (over t.memory.bytes (length_field end at) ≡ Some (Ok v)) × (value_in t.memory.bytes v ≡ Some bytes) × (1 ≤ v.long) × (v.long ≤ room)
  reading-true end at room sp s bytes is =
      subst (GetsOrBreaks m (length_field end at) room) is (reading-all end at room sp s)

  -- what it has got where it breaks off is nothing, or bytes of the memory from where that value begins
  pub breaking_true : (end at room : ℕ) (sp : Span) (s : List ℕ) (z : Break) → (perform (reading u t.memory.unit end at room) (one_tag t sp s)).value ≡ Err z → (z.got ≡ []) ⊎ ((v : Value) × (over t.memory.bytes (length_field end at) ≡ Some (Ok v)) × (z.got ≡ take (length z.got) (drop v.at t.memory.bytes)))
  breaking_true end at room sp s z is =
      subst (GetsOrBreaks m (length_field end at) room) is (reading-all end at room sp s)

  -- ---- what the memory shows is got

  -- every block has a number that the tag knows
  module _ (known : (n : ℕ) → n < count_of t.memory → (n ≤ 255) ⊎ (t.marks.wide ≡ true)) where
    -- the value lies within the memory
    module _ (v : Value) (within : v.at + v.long ≤ length t.memory.bytes) where
      -- the whole value
      abbrev Whole : Result (List ℕ) Break → Type 0
      Whole r = r ≡ Ok (take v.long (drop v.at t.memory.bytes))

      -- the block of the next byte is there
      next-there : (a left : ℕ) (got : List ℕ) → SoFar m v a left got → 1 ≤ left → a / unit < count_of m
      next-there a left got x some =
          let p = x.place in
          let l = x.long in
          block_there m sound a (omega arith)

      -- with a block that was given
      break_whole : (n : ℕ) (got : List ℕ) (next : Kept → Procedure (Result (List ℕ) Break)) (r : Result Kept Stop) → Given m n r → (sp : Span) (s : List ℕ) → ((k : Kept) → Found m n k → Stays (perform (next k) (one_tag t sp s)).sent sp → Whole (perform (next k) (one_tag t sp s)).value) → Stays (perform (or_break got next r) (one_tag t sp s)).sent sp → Whole (perform (or_break got next r) (one_tag t sp s)).value
      break_whole n got next r (k, is, f) sp s on =
          subst (λ z. Stays (perform (or_break got next z) (one_tag t sp s)).sent sp → Whole (perform (or_break got next z) (one_tag t sp s)).value) (sym is) (on k f)

      -- from some block on
      copying-whole : (fuel : ℕ) (k : Option Kept) (a left : ℕ) (got : List ℕ) → Holds m k → SoFar m v a left got → left ≤ fuel → (sp : Span) (s : List ℕ) → Stays (perform (copying fuel u unit k a left got) (one_tag t sp s)).sent sp → Whole (perform (copying fuel u unit k a left got) (one_tag t sp s)).value
      copying-whole zero k a left got h x enough sp s =
          let none : left ≡ 0 = omega arith in
          λ lasts. ap (λ bs. Ok bs) (so_all m v a left got x none)
      copying-whole (suc fuel) k a left got h x enough sp s =
          let c = chunk unit a left in
          let n = a / unit in
          let next = λ (b : Kept). copying fuel u unit (Some b) (a + c) (left - c) (got ++ chunk_of unit a left b) in
          let block = block_of Step.Read u unit k n in
          let Q = λ (p : Procedure (Result (List ℕ) Break)). (Stays (perform p (one_tag t sp s)).sent sp → Whole (perform p (one_tag t sp s)).value) in
          let all : eqb left 0 ≡ true → Q (answer (Ok got)) = λ e l. ap (λ bs. Ok bs) (so_all m v a left got x (eqb-true left 0 e)) in
          let fewer : eqb left 0 ≡ false → left - c ≤ fuel = λ e. let o = chunk_some m sound a left (some_long left e) in omega arith in
          let each = λ (e : eqb left 0 ≡ false) (sp' : Span) (s' : List ℕ) (b : Kept) (f : Found m n b). copying-whole fuel (Some b) (a + c) (left - c) (got ++ chunk_of unit a left b) f.1 (so_more m v sound a left got x b f) (fewer e) sp' s' in
          let given : eqb left 0 ≡ false → Stays (perform block (one_tag t sp s)).sent sp → Given m n (perform block (one_tag t sp s)).value = λ e. let there = next-there a left got x (some_long left e) in block_given t u low same sound Step.Read n there (known n there) k h sp s in
          let more : eqb left 0 ≡ false → Q (bind block (or_break got next)) = λ e. then_lasting t block (or_break got next) (had_harmless k n) sp s (Given m n) Whole (given e) (λ r g sp' s'. break_whole n got next r g sp' s' (each e sp' s')) in
          cond_both (eqb left 0) _ _ Q all more

      module _ (some : 1 ≤ v.long) (room : ℕ) (fits : v.long ≤ room) where
        -- neither is the message empty, nor the space too short
        copied_is : (k : Option Kept) → copied u unit room (v, k) ≡ copying v.long u unit k v.at v.long []
        copied_is k =
            cond-false _ _ _ (ne_eqb v.long 0 (λ z. omega arith)) ∙ cond-false _ _ _ (le-ltb room v.long fits)

        -- behind the L-field
        copied-whole : (k : Option Kept) → Holds m k → (sp : Span) (s : List ℕ) → Stays (perform (copied u unit room (v, k)) (one_tag t sp s)).sent sp → Whole (perform (copied u unit room (v, k)) (one_tag t sp s)).value
        copied-whole k h sp s =
            subst (λ (p : Procedure (Result (List ℕ) Break)). Stays (perform p (one_tag t sp s)).sent sp → Whole (perform p (one_tag t sp s)).value) (sym (copied_is k)) (copying-whole v.long k v.at v.long [] h (so_none m v) (omega arith) sp s)

        -- with the L-field that was told
        broken_whole : (r : Result (Value × Option Kept) Stop) → Tells m (Ok v) r → (sp : Span) (s : List ℕ) → Stays (perform (or_broken (copied u unit room) r) (one_tag t sp s)).sent sp → Whole (perform (or_broken (copied u unit room) r) (one_tag t sp s)).value
        broken_whole r (k, is, h) sp s =
            subst (λ z. Stays (perform (or_broken (copied u unit room) z) (one_tag t sp s)).sent sp → Whole (perform (or_broken (copied u unit room) z) (one_tag t sp s)).value) (sym is) (copied-whole k h sp s)

    -- the value that the memory shows is what a reading gets, if the tag stays for long enough
    pub reading_complete : (end at room : ℕ) (v : Value) → over t.memory.bytes (length_field end at) ≡ Some (Ok v) → 1 ≤ v.long → v.long ≤ room → v.at + v.long ≤ length t.memory.bytes → (sp : Span) (s : List ℕ) → Stays (perform (reading u t.memory.unit end at room) (one_tag t sp s)).sent sp → (perform (reading u t.memory.unit end at room) (one_tag t sp s)).value ≡ Ok (take v.long (drop v.at t.memory.bytes))
    reading_complete end at room v shows some fits within sp s =
        let x = length_field end at in
        then_lasting t (asking Step.Walk u unit None x) (or_broken (copied u unit room)) (field_harmless end at) sp s (Tells m (Ok v)) (Whole v within) (asking_thorough t u low same sound known Step.Walk unit refl x None tt (Ok v) shows sp s) (broken_whole v within some room fits)

-- ---- with what a detection finds

-- a flaw is no value
err_ok : {V E : Type 0} {e : E} {v : V} → ◌≡◌ {A = Result V E} (Err e) (Ok v) → ⊥
err_ok e = grind arith

-- a message has a value
message-value : (bytes : List ℕ) (o : Option (Result Value Flaw)) (bs : List ℕ) → message bytes o ≡ Some bs → (v : Value) × (o ≡ Some (Ok v)) × (value_in bytes v ≡ Some bs)
message-value bytes None bs e = absurd (none_some e)
message-value bytes (Some (Err x)) bs e = absurd (none_some e)
message-value bytes (Some (Ok v)) bs e = (v, refl, e)

-- the value at the place where the message is, is what is shown
pub read-shown : (m : Model) (p : Place) (v : Value) (bytes : List ℕ) → over m.bytes (located m.unit) ≡ Some (Ok p) → over m.bytes (valued p) ≡ Some (Ok v) → value_in m.bytes v ≡ Some bytes → shown m ≡ Some bytes
read-shown m p v bytes place value is =
    ap (message m.bytes) (over_and m.bytes (located m.unit) valued p (Some (Ok v)) place value) ∙ is

-- the place of a value
value-place : (m : Model) (v : Value) (w : Result Place Flaw) → over m.bytes (located m.unit) ≡ Some w → Leaves m.bytes valued (Ok v) w → (p : Place) × (over m.bytes (located m.unit) ≡ Some (Ok p)) × (over m.bytes (valued p) ≡ Some (Ok v))
value-place m v (Ok p) place value = (p, place, value)
value-place m v (Err e) place flaw = absurd (err_ok flaw)

-- and back: what is shown has a place and a value
pub shown_read : (m : Model) (bytes : List ℕ) → shown m ≡ Some bytes → (p : Place) × (v : Value) × (over m.bytes (located m.unit) ≡ Some (Ok p)) × (over m.bytes (valued p) ≡ Some (Ok v)) × (value_in m.bytes v ≡ Some bytes)
shown_read m bytes is =
    let a = message-value m.bytes (over m.bytes (and_then (located m.unit) valued)) bytes is in
    let b = over_parts m.bytes (located m.unit) valued (Ok a.0) a.1 in
    let c = value-place m a.0 b.0 b.1 b.2 in
    (c.0, a.0, c.1, c.2, a.2)
