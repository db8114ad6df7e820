-- What is read of one tag is what its memory holds. Assumes nothing.
use Rattle.std.proofs.Common.{◌≡◌, ℕ, zero, suc, ◌+◌, ◌*◌, ◌/◌, ◌%◌, ◌<◌, ◌≤◌, true, false, cond, ◌||◌, eqb, ltb, leb, ◌⊎◌, List, [], ◌∷◌, ◌++◌, length, get_or, drop, replicate, IfOk, Some, None, Ok, Err, Option, Result, sym, refl, ap, ◌∙◌, subst, ⊎_elim, append-nil, mod-lt, div-lt_iff_lt-mul, div-add-mod', arith, get_or-drop, get_or-take}
use lib.ListN.{get_or-append}
use Rattle.std.specs.Option.{option_to_list}
use Rattle.std.proofs.lemmas.Result.{IfOk-at_ok, IfOk-weaker}
use Rattle.std.proofs.lemmas.Bool.{cond-true, cond-false, cond_both, cases_Bool, true≢false, and_parts, and_from, or_left, or_right, eq-eqb, eqb-true, le-leb, leb-true, lt-ltb, ltb-true}
use Rattle.space.specs.Space.{laid}
use Rattle.memory.specs.Model.{Model, Sound, count_of, block_at}
use Rattle.tag.specs.Rules.{Turn, replies, reads_blocks, blocks_from, turn}
use Rattle.tag.specs.Tag.{TagModel}
use Rattle.tag.proofs.Blocks.{block_ends, block_long}
use Rattle.field.specs.declared.span.Span.{Span}
use Rattle.field.specs.declared.span.Span.TheVariants.{Endless, Left}
use Rattle.field.specs.Decode.{is_data, is_error}
use Rattle.field.specs.Exchange.{hears, says, heard_from}
use Rattle.field.specs.Span.{fallen, answers}
use Rattle.procedure.specs.Frames.{read_frame}
use Rattle.procedure.specs.Procedure.{one, reply_of, Procedure, answer, send, Air, stirred, perform, Sends}
use Rattle.procedure.proofs.Alone.{Harmless}
use Rattle.procedure.proofs.Binds.{perform-bind, sends_bind}
use Rattle.procedure.proofs.Frames.{read-turn, read_harmless}
use Rattle.shown.specs.declared.flaw.Flaw.{Flaw}
use Rattle.shown.specs.Asks.{Asks, done, byte, over}
use Rattle.t5t.specs.declared.kept.Kept.{Kept}
use Rattle.refusal.specs.declared.step.Step.{Step}
use Rattle.t5t.specs.declared.stop.Stop.{Stop}
use Rattle.t5t.specs.Laws.{Stays}
use Rattle.t5t.specs.Asking.{replied, kept_of, received, reads, kept_at, or_reads, block_of, flawed, or_stop, asking}

-- the block that is kept is the tag's
abbrev pub Holds : Model → Option Kept → Type 0
Holds m None = Unit {0}
Holds m (Some k) = (k.number < count_of m) × (k.bytes ≡ laid (block_at m k.number) (replicate 32 0))

-- the block that was asked for, as it is kept
abbrev pub Found : Model → ℕ → Kept → Type 0
Found m n k = (k.number ≡ n) × Holds m (Some k)

-- a block that was asked for is had
abbrev pub Given : Model → ℕ → Result Kept Stop → Type 0
Given m n r = (k : Kept) × (r ≡ Ok k) × Found m n k

-- what is answered where a memory shows a value, or a flaw
abbrev pub Answered : {V : Type 0} → Model → Step → Result V Flaw → Result (V × Option Kept) Stop → Type 0
Answered m step (Ok v) w = (k : Option Kept) × (w ≡ Ok (v, k)) × Holds m k
Answered m step (Err e) w = (k : Option Kept) × (w ≡ Err (flawed step k e)) × Holds m k

-- a span after so many exchanges
abbrev pub fallen_by : ℕ → Span → Span
fallen_by zero sp = sp
fallen_by (suc n) sp = fallen_by n (fallen sp)

-- a field of one tag
abbrev pub one_tag : TagModel → Span → List ℕ → Air
one_tag t sp s = record { tags = record { tag = t; span = sp } ∷ []; space = s }

-- ---- spans

-- an exchange more, counted at the end
fallen_last : (n : ℕ) (sp : Span) → fallen_by n (fallen sp) ≡ fallen_by (n + 1) sp
fallen_last n sp = let e : suc n ≡ n + 1 = omega arith in ap (λ c. fallen_by c sp) e

-- it lasts for the first exchanges
pub lasts_first : (a b : ℕ) (sp : Span) → Stays (a + b) sp → Stays a sp
lasts_first a b Endless l = tt
lasts_first a b (Left j) l = omega arith

-- after one exchange it lasts for one less
lasts_fallen : (b : ℕ) (sp : Span) → Stays (suc b) sp → Stays b (fallen sp)
lasts_fallen b Endless l = tt
lasts_fallen b (Left j) l = omega arith

-- what is left of it lasts for the rest
pub lasts_rest : (a b : ℕ) (sp : Span) → Stays (a + b) sp → Stays b (fallen_by a sp)
lasts_rest zero b sp l = let e : 0 + b ≡ b = omega arith in subst (λ c. Stays c sp) e l
lasts_rest (suc a) b sp l =
    let e : suc a + b ≡ suc (a + b) = omega arith in
    lasts_rest a b (fallen sp) (lasts_fallen (a + b) sp (subst (λ c. Stays c sp) e l))

-- it lasts for an answer
pub lasts_answers : (sp : Span) → Stays 1 sp → answers sp ≡ true
lasts_answers Endless l = refl
lasts_answers (Left j) l = lt-ltb 1 j (omega arith)

-- ---- the tag stays as it is

-- one harmless frame leaves the tag, and its span falls
hears-fallen : (t : TagModel) (sp : Span) (f : List ℕ) → Harmless f → hears f (record { tag = t; span = sp }) ≡ record { tag = t; span = fallen sp }
unfolding hears
hears-fallen t sp f h = let e = h (record { tag = t; span = sp }) in λ i. record { tag = e i; span = fallen sp }

-- and so do all the frames of a procedure
pub one_stays : {V : Type 0} (t : TagModel) (p : Procedure V) → Sends Harmless p → (sp : Span) (s : List ℕ) → (perform p (one_tag t sp s)).air ≡ one_tag t (fallen_by (perform p (one_tag t sp s)).sent sp) (perform p (one_tag t sp s)).air.space
one_stays t (answer v) h sp s = refl
one_stays {V} t (send f on) h sp s =
    let a = one_tag t sp s in
    let b = stirred f a in
    let r = reply_of (heard_from f a.tags) in
    let c = one_tag t (fallen sp) b.space in
    let fell : b ≡ c = let e = hears-fallen t sp f h.0 in λ i. record { tags = e i ∷ []; space = b.space } in
    let rest = one_stays t (on r) (h.1 r) (fallen sp) b.space in
    let last : (perform (on r) c).air ≡ one_tag t (fallen_by ((perform (on r) c).sent + 1) sp) (perform (on r) c).air.space = rest ∙ ap (λ z. one_tag t z (perform (on r) c).air.space) (fallen_last (perform (on r) c).sent sp) in
    subst (λ z. (perform (on r) z).air ≡ one_tag t (fallen_by ((perform (on r) z).sent + 1) sp) (perform (on r) z).air.space) (sym fell) last

-- a block is had by frames that read, or by none
pub block_sends : (such : List ℕ → Type 0) (step : Step) (u unit n : ℕ) → such (read_frame u n) → (k : Option Kept) → Sends such (or_reads step u unit n k)
block_sends such step u unit n all (Some k) = tt
block_sends such step u unit n all None = (all, λ r. tt)

-- what goes on with a block, or stops
onward_sends : {W : Type 0} (such : List ℕ → Type 0) (each : Kept → Procedure (Result W Stop)) (r : Result Kept Stop) → ((k' : Kept) → Sends such (each k')) → Sends such (or_stop each r)
onward_sends such each (Ok k') h = h k'
onward_sends such each (Err s) h = tt

-- bytes are had by frames that read
pub asking_sends : {V : Type 0} (such : List ℕ → Type 0) (step : Step) (u unit : ℕ) → ((n : ℕ) → such (read_frame u n)) → (k : Option Kept) (x : Asks (Result V Flaw)) → Sends such (asking step u unit k x)
asking_sends such step u unit all k (done (Ok v)) = tt
asking_sends such step u unit all k (done (Err e)) = tt
asking_sends {V} such step u unit all k (byte a on) =
    let each = λ (k' : Kept). asking step u unit (Some k') (on (get_or k'.bytes (a % unit) 0)) in
    let next : (r : Result Kept Stop) → Sends such (or_stop each r) = λ r. onward_sends such each r (λ k'. asking_sends such step u unit all (Some k') (on (get_or k'.bytes (a % unit) 0))) in
    sends_bind such (block_of step u unit k (a / unit)) (or_stop each) (block_sends such step u unit (a / unit) (all (a / unit)) (kept_at k (a / unit))) next

-- ---- bytes of a block

module _ (m : Model) (sound : Sound m) where
  -- no block is empty
  pub unit_some : 0 < m.unit
  unit_some = ⊎_elim (λ e. omega arith) (⊎_elim (λ e. omega arith) (⊎_elim (λ e. omega arith) (λ e. omega arith))) sound.unit

  -- a byte of the memory is in one of its blocks
  pub block_there : (a : ℕ) → a < length m.bytes → a / m.unit < count_of m
  block_there a h = (div-lt_iff_lt-mul unit_some).1 (subst (λ z. a < z) sound.whole h)

  -- a byte of one of the blocks is in the memory
  byte-there : (a : ℕ) → a / m.unit < count_of m → a < length m.bytes
  byte-there a h =
      let e = block_ends m (a / m.unit) sound h in
      let d = div-add-mod' a m.unit in
      let r = mod-lt a unit_some in
      omega arith

  -- a byte of a block that is kept is the memory's
  kept_byte : (k : Kept) (a : ℕ) → k.number ≡ a / m.unit → Holds m (Some k) → get_or k.bytes (a % m.unit) 0 ≡ get_or m.bytes a 0
  kept_byte k a is h =
      let n = a / m.unit in
      let i = a % m.unit in
      let r : i < m.unit = mod-lt a unit_some in
      let there : n < count_of m = subst (λ z. z < count_of m) is h.0 in
      let long = block_long m n sound there in
      ap (λ bs. get_or bs i 0) (h.1 ∙ ap (λ z. laid (block_at m z) (replicate 32 0)) is) ∙ get_or-append (block_at m n) (drop (length (block_at m n)) (replicate 32 0)) 0 i (omega arith) ∙ get_or-take m.unit (drop (n * m.unit) m.bytes) i 0 r ∙ get_or-drop (n * m.unit) m.bytes i 0 ∙ ap (λ z. get_or m.bytes z 0) (div-add-mod' a m.unit)

  -- what is made of a byte of that block is what is made of the memory's
  kept-shown : {V : Type 0} (k : Kept) (a : ℕ) (on : ℕ → Asks V) → Found m (a / m.unit) k → over m.bytes (byte a on) ≡ over m.bytes (on (get_or k.bytes (a % m.unit) 0))
  kept-shown k a on f =
      let there = byte-there a (subst (λ z. z < count_of m) f.0 f.1.0) in
      cond-true _ _ _ (lt-ltb a (length m.bytes) there) ∙ ap (λ b. over m.bytes (on b)) (sym (kept_byte k a f.0 f.1))

-- ---- what a memory shows

-- what is shown is one thing
pub some_same : {A : Type 0} {x y : A} → Some x ≡ Some y → x ≡ y
some_same e = grind arith

-- nothing is not something
pub none_some : {A : Type 0} {x : A} → None ≡ Some x → ⊥
none_some e = grind arith

-- the byte that is asked for is there, where something is shown
pub byte-shown : {V : Type 0} (bytes : List ℕ) (a : ℕ) (on : ℕ → Asks V) (r : V) → over bytes (byte a on) ≡ Some r → a < length bytes
byte-shown bytes a on r e =
    ⊎_elim (λ t. ltb-true a (length bytes) t) (λ f. absurd (none_some (sym (cond-false _ _ _ f) ∙ e))) (cases_Bool (ltb a (length bytes)))

-- ---- one block

-- the answer of the one tag is what is heard
pub heard-one : (t : TagModel) (f : List ℕ) (sp : Span) → heard_from f (record { tag = t; span = sp } ∷ []) ≡ cond (answers sp) (option_to_list (turn t f).says) []
unfolding heard_from says
heard-one t f sp = append-nil _

-- an answer that is data
data_made : (n : ℕ) (a : List ℕ) (step : Step) (b : ℕ) (P : Kept → Type 0) → (is_data a n ≡ true → P (kept_of b (drop 1 a))) → IfOk (received step b (replied n (one a))) P
data_made n a step b P p =
    cond_both (is_data a n) _ _ (λ z. IfOk (received step b z) P) p (λ no. cond_both (is_error a) _ _ (λ z. IfOk (received step b z) P) (λ e. tt) (λ e. tt))

-- the tag, and the step that asks
module _ (t : TagModel) (u : ℕ) (low : u < 18446744073709551616) (same : t.uid ≡ u) (sound : Sound t.memory) (step : Step) where
  -- its memory
  abbrev m : Model
  m = t.memory

  module _ (n : ℕ) where
    -- what is made of what is heard
    abbrev read_as : List (List ℕ) → Result Kept Stop
    read_as hs = received step n (replied m.unit (reply_of hs))

    -- an error is no block
    error_none : (c : ℕ) → IfOk (read_as ((1 ∷ c ∷ []) ∷ [])) (Found m n)
    error_none c =
        data_made m.unit (1 ∷ c ∷ []) step n (Found m n) (λ is. absurd (true≢false (sym (and_parts (eqb 2 (m.unit + 1)) false is).1)))

    -- the block of the memory is found
    memory_found : n < count_of m → Found m n (kept_of n (block_at m n ++ []))
    memory_found there = (refl, (there, ap (λ d. laid d (replicate 32 0)) (append-nil (block_at m n))))

    -- so is a block that was read
    read_found : (sp : Span) (s : List ℕ) → IfOk (perform (reads step u m.unit n) (one_tag t sp s)).value (Found m n)
    read_found sp s =
        let P = λ (hs : List (List ℕ)). IfOk (read_as hs) (Found m n) in
        let Q = λ (r : Turn). P (option_to_list r.says) in
        let present = λ (there : leb (n + 1) (count_of m) ≡ true). data_made m.unit (0 ∷ blocks_from m false n 1) step n (Found m n) (λ is. memory_found (let l = leb-true (n + 1) (count_of m) there in omega arith)) in
        let reading : Q (replies t (reads_blocks t false n 1)) = cond_both (leb (n + 1) (count_of m)) _ _ (λ r. Q (replies t r)) present (λ absent. error_none _) in
        let turned : Q (turn t (read_frame u n)) = subst Q (sym (read-turn t u n low same)) (cond_both (leb n 255 || t.marks.wide) _ _ (λ r. Q (replies t r)) (λ known. reading) (λ unknown. error_none _)) in
        subst P (sym (heard-one t (read_frame u n) sp)) (cond_both (answers sp) _ _ P (λ heard. turned) (λ lost. tt))

    -- and a block that is kept, or else read
    pub block_found : (k : Option Kept) → Holds m k → (sp : Span) (s : List ℕ) → IfOk (perform (block_of step u m.unit k n) (one_tag t sp s)).value (Found m n)
    block_found None h sp s = read_found sp s
    block_found (Some k) h sp s =
        cond_both (eqb k.number n) (Some k) None (λ o. IfOk (perform (or_reads step u m.unit n o) (one_tag t sp s)).value (Found m n)) (λ is. (eqb-true k.number n is, h)) (λ other. read_found sp s)

    -- the tag stays as it is, while a block is had
    pub block_stays : (k : Option Kept) (sp : Span) (s : List ℕ) → (perform (block_of step u m.unit k n) (one_tag t sp s)).air ≡ one_tag t (fallen_by (perform (block_of step u m.unit k n) (one_tag t sp s)).sent sp) (perform (block_of step u m.unit k n) (one_tag t sp s)).air.space
    block_stays k sp s =
        one_stays t (block_of step u m.unit k n) (block_sends Harmless step u m.unit n (read_harmless u n low) (kept_at k n)) sp s

    -- what goes on with a block that was found
    goes_on : {W : Type 0} (each : Kept → Procedure (Result W Stop)) (Q : W → Type 0) (a : Air) (r : Result Kept Stop) → IfOk r (Found m n) → ((k : Kept) → Found m n k → IfOk (perform (each k) a).value Q) → IfOk (perform (or_stop each r) a).value Q
    goes_on each Q a (Ok k) f on = on k f
    goes_on each Q a (Err e) f on = tt

  -- ---- what is answered is the memory's

  -- a value that the memory shows, and a block of it
  abbrev Shown : {V : Type 0} → Asks (Result V Flaw) → V × Option Kept → Type 0
  Shown x p = (over m.bytes x ≡ Some (Ok p.0)) × Holds m p.1

  -- whatever is answered is such a value
  true-all : {V : Type 0} (k : Option Kept) (x : Asks (Result V Flaw)) → Holds m k → (sp : Span) (s : List ℕ) → IfOk (perform (asking step u m.unit k x) (one_tag t sp s)).value (Shown x)
  true-all k (done (Ok v)) h sp s = (refl, h)
  true-all k (done (Err e)) h sp s = tt
  true-all {V} k (byte a on) h sp s =
      let n = a / m.unit in
      let i = a % m.unit in
      let Q = Shown (byte a on) in
      let each = λ (k' : Kept). asking step u m.unit (Some k') (on (get_or k'.bytes i 0)) in
      let block = block_of step u m.unit k n in
      let o = perform block (one_tag t sp s) in
      let sp' = fallen_by o.sent sp in
      let s' = o.air.space in
      let next : (k' : Kept) → Found m n k' → IfOk (perform (each k') (one_tag t sp' s')).value Q = λ k' f. IfOk-weaker (perform (each k') (one_tag t sp' s')).value (Shown (on (get_or k'.bytes i 0))) Q (λ p z. (kept-shown m sound k' a on f ∙ z.0, z.1)) (true-all (Some k') (on (get_or k'.bytes i 0)) f.1 sp' s') in
      let found = goes_on n each Q (one_tag t sp' s') o.value (block_found n k h sp s) next in
      let from = subst (λ b. IfOk (perform (or_stop each o.value) b).value Q) (sym (block_stays n k sp s)) found in
      subst (λ z. IfOk z.value Q) (sym (perform-bind block (or_stop each) (one_tag t sp s))) from

  -- a value is what the memory shows, and the block that is kept then is the tag's
  pub truth : {V : Type 0} (x : Asks (Result V Flaw)) (k : Option Kept) → Holds m k → (sp : Span) (s : List ℕ) (v : V) (k' : Option Kept) → (perform (asking step u m.unit k x) (one_tag t sp s)).value ≡ Ok (v, k') → (over m.bytes x ≡ Some (Ok v)) × Holds m k'
  truth x k h sp s v k' is =
      IfOk-at_ok (Shown x) is (true-all k x h sp s)

  -- the tag stays as it is, and its span falls with each frame
  pub stays : {V : Type 0} (x : Asks (Result V Flaw)) (k : Option Kept) (sp : Span) (s : List ℕ) → (perform (asking step u m.unit k x) (one_tag t sp s)).air.tags ≡ record { tag = t; span = fallen_by (perform (asking step u m.unit k x) (one_tag t sp s)).sent sp } ∷ []
  stays x k sp s =
      ap (λ a. a.tags) (one_stays t (asking step u m.unit k x) (asking_sends Harmless step u m.unit (λ n. read_harmless u n low) k x) sp s)

  -- ---- what the memory shows is answered

  module _ (n : ℕ) (there : n < count_of m) (known : (n ≤ 255) ⊎ (t.marks.wide ≡ true)) where
    -- the block's bytes are the data that is expected
    block_data : is_data (0 ∷ blocks_from m false n 1) m.unit ≡ true
    block_data =
        and_from (eqb (length (0 ∷ blocks_from m false n 1)) (m.unit + 1)) true (eq-eqb (length (0 ∷ blocks_from m false n 1)) (m.unit + 1) (let e = ap length (append-nil (block_at m n)) in let l = block_long m n sound there in omega arith)) refl

    -- the tag knows the number
    known_number : (leb n 255 || t.marks.wide) ≡ true
    known_number = ⊎_elim (λ h. or_left (leb n 255) t.marks.wide (le-leb n 255 h)) (λ w. or_right (leb n 255) t.marks.wide w) known

    -- the tag answers the block
    read_given : (sp : Span) (s : List ℕ) → Stays 1 sp → Given m n (perform (reads step u m.unit n) (one_tag t sp s)).value
    read_given sp s lasts =
        let heard = heard-one t (read_frame u n) sp ∙ cond-true _ _ _ (lasts_answers sp lasts) in
        let says = ap (λ (r : Turn). option_to_list r.says) (read-turn t u n low same ∙ ap (replies t) (cond-true _ _ _ known_number ∙ cond-true _ _ _ (le-leb (n + 1) (count_of m) (omega arith)))) in
        (kept_of n (block_at m n ++ []), ap (read_as n) (heard ∙ says) ∙ ap (received step n) (cond-true _ _ _ block_data), memory_found n there)

    -- so is it had, kept or read
    pub block_given : (k : Option Kept) → Holds m k → (sp : Span) (s : List ℕ) → Stays (perform (block_of step u m.unit k n) (one_tag t sp s)).sent sp → Given m n (perform (block_of step u m.unit k n) (one_tag t sp s)).value
    block_given None h sp s lasts = read_given sp s lasts
    block_given (Some k) h sp s lasts =
        cond_both (eqb k.number n) (Some k) None (λ o. Stays (perform (or_reads step u m.unit n o) (one_tag t sp s)).sent sp → Given m n (perform (or_reads step u m.unit n o) (one_tag t sp s)).value) (λ is l. (k, refl, (eqb-true k.number n is, h))) (λ other l. read_given sp s l) lasts

  -- every block has a number that the tag knows
  module _ (known : (n : ℕ) → n < count_of m → (n ≤ 255) ⊎ (t.marks.wide ≡ true)) where
    -- whatever the memory shows is answered, if the tag stays for long enough
    pub complete : {V : Type 0} (x : Asks (Result V Flaw)) (r : Result V Flaw) → over m.bytes x ≡ Some r → (k : Option Kept) → Holds m k → (sp : Span) (s : List ℕ) → Stays (perform (asking step u m.unit k x) (one_tag t sp s)).sent sp → Answered m step r (perform (asking step u m.unit k x) (one_tag t sp s)).value
    complete (done (Ok v)) r shown k h sp s lasts =
        subst (λ z. Answered m step z (Ok (v, k))) (some_same shown) (k, refl, h)
    complete {V} (done (Err e)) r shown k h sp s lasts =
        subst (λ z. Answered {V = V} m step z (Err (flawed step k e))) (some_same shown) (k, refl, h)
    complete {V} (byte a on) r shown k h sp s lasts =
        let n = a / m.unit in
        let i = a % m.unit in
        let each = λ (k' : Kept). asking step u m.unit (Some k') (on (get_or k'.bytes i 0)) in
        let block = block_of step u m.unit k n in
        let o = perform block (one_tag t sp s) in
        let sp' = fallen_by o.sent sp in
        let s' = o.air.space in
        let b = one_tag t sp' s' in
        let there = block_there m sound a (byte-shown m.bytes a on r shown) in
        let P = λ (w : Result Kept Stop) (c : Air). (Stays (o.sent + (perform (or_stop each w) c).sent) sp → Answered m step r (perform (or_stop each w) c).value) in
        let next : (k' : Kept) → Found m n k' → P (Ok k') b = λ k' f l. complete (on (get_or k'.bytes i 0)) r (sym (kept-shown m sound k' a on f) ∙ shown) (Some k') f.1 sp' s' (lasts_rest o.sent (perform (each k') b).sent sp l) in
        let goes : Given m n o.value → P o.value b = λ g. subst (λ w. P w b) (sym g.1) (next g.0 g.2) in
        let rest : P o.value b = λ l. goes (block_given n there (known n there) k h sp s (lasts_first o.sent (perform (or_stop each o.value) b).sent sp l)) l in
        let from = subst (λ c. P o.value c) (sym (block_stays n k sp s)) rest in
        subst (λ z. Stays z.sent sp → Answered m step r z.value) (sym (perform-bind block (or_stop each) (one_tag t sp s))) from lasts
