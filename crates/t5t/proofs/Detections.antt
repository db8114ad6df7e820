-- Detection of one tag finds what its memory shows, and no more. Assumes nothing.
use Rattle.std.proofs.Common.{◌≡◌, ℕ, zero, suc, ◌+◌, ◌-◌, ◌*◌, ◌<◌, ◌≤◌, true, false, eqb, ltb, leb, ◌⊎◌, List, ◌∷◌, length, get_or, drop, replicate, IfOk, Some, None, Ok, Err, Option, Result, sym, refl, ap, ◌∙◌, subst, ⊎_elim, append-nil, arith}
use Rattle.std.specs.Option.{option_to_list}
use Rattle.std.proofs.lemmas.Result.{IfOk-at_ok, IfOk-weaker}
use Rattle.std.proofs.lemmas.Bool.{cond-true, cond-false, cond_both, cases_Bool, and_from, eq-eqb, le-leb, leb-true}
use Rattle.space.specs.Space.{laid}
use Rattle.memory.specs.declared.block_length.BlockLength.{BlockLength}
use Rattle.memory.specs.BlockLength.{bytes_of, listed}
use Rattle.memory.specs.Model.{Model, Sound, count_of, block_at}
use Rattle.tag.specs.Rules.{Turn, replies, reads_blocks, blocks_from, turn}
use Rattle.tag.specs.Tag.{TagModel}
use Rattle.tag.proofs.Blocks.{block_long}
use Rattle.field.specs.declared.span.Span.{Span}
use Rattle.field.specs.Addressed.{AddressedTo}
use Rattle.field.specs.Decode.{is_data, is_error}
use Rattle.field.specs.Span.{answers}
use Rattle.procedure.specs.Frames.{read_frame}
use Rattle.procedure.specs.Procedure.{one, reply_of, Procedure, bind, Air, Outcome, perform, Sends}
use Rattle.procedure.proofs.Alone.{Harmless}
use Rattle.procedure.proofs.Binds.{perform-bind, sends_bind}
use Rattle.procedure.proofs.Frames.{read-turn, read-addressed, read_harmless}
use Rattle.shown.specs.declared.container.Place.{Place}
use Rattle.shown.specs.declared.flaw.Flaw.{Flaw}
use Rattle.shown.specs.Asks.{Asks, done, byte, and_then, over}
use Rattle.shown.specs.Container.{container}
use Rattle.shown.specs.Shown.{located}
use Rattle.shown.specs.Walk.{walk}
use Rattle.t5t.proofs.Truths.{Holds, Answered, fallen_by, one_tag, one_stays, asking_sends, truth, complete, lasts_first, lasts_rest, lasts_answers, some_same, none_some, byte-shown, heard-one}
use Rattle.t5t.specs.Laws.{Stays}
use Rattle.t5t.specs.declared.kept.Kept.{Kept}
use Rattle.refusal.specs.declared.step.Step.{Step}
use Rattle.t5t.specs.declared.stop.Stop.{Stop}
use Rattle.t5t.specs.Asking.{kept_of, received, flawed, or_stop, asking}
use Rattle.refusal.specs.Cause.{cause_of}
use Rattle.t5t.specs.Detection.{or_four, unit_of, with_unit, first_of, first, walking, locating, found, detected, detection}

-- ---- the frames of a detection

-- what goes on, or stops, sends such frames
pub stop_sends : {V W : Type 0} (such : List ℕ → Type 0) (next : V → Procedure (Result W Stop)) → ((v : V) → Sends such (next v)) → (r : Result V Stop) → Sends such (or_stop next r)
stop_sends such next h (Ok v) = h v
stop_sends such next h (Err s) = tt

-- and so do two parts in a row
pub then_sends : {V W : Type 0} (such : List ℕ → Type 0) (p : Procedure (Result V Stop)) (next : V → Procedure (Result W Stop)) → Sends such p → ((v : V) → Sends such (next v)) → Sends such (bind p (or_stop next))
then_sends such p next a b = sends_bind such p (or_stop next) a (stop_sends such next b)

module _ (such : List ℕ → Type 0) (u : ℕ) (all : (n : ℕ) → such (read_frame u n)) where
  -- the walk to the message reads
  pub locating_sends : (f : BlockLength × Kept) → Sends such (locating u f)
  locating_sends f =
      then_sends such (asking Step.Container u (bytes_of f.0) (Some f.1) (container (bytes_of f.0))) (walking u f.0) (asking_sends such Step.Container u (bytes_of f.0) all (Some f.1) (container (bytes_of f.0))) (λ c. asking_sends such Step.Walk u (bytes_of f.0) all c.1 (walk c.0))

  -- so does all that follows block 0
  pub detected_sends : (f : BlockLength × Kept) → Sends such (detected u f)
  detected_sends f = then_sends such (locating u f) (found f.0) (locating_sends f) (λ p. tt)

  -- and block 0 is read
  pub first_sends : Sends such (first u)
  first_sends = (all 0, λ r. tt)

  -- all of it reads
  pub detection_sends : Sends such (detection u)
  detection_sends = then_sends such (first u) (detected u) first_sends detected_sends

-- every frame is for that tag
pub detection-addressed : (u : ℕ) → u < 18446744073709551616 → Sends (AddressedTo u) (detection u)
detection-addressed u low = detection_sends (AddressedTo u) u (λ n. read-addressed u n low)

-- and none changes a tag
pub detection_harmless : (u : ℕ) → u < 18446744073709551616 → Sends Harmless (detection u)
detection_harmless u low = detection_sends Harmless u (λ n. read_harmless u n low)

-- ---- what a memory shows

-- the second part, after what the first shows
abbrev pub over_then : {V W E : Type 0} → List ℕ → (V → Asks (Result W E)) → Option (Result V E) → Option (Result W E)
over_then bytes next None = None
over_then bytes next (Some (Ok v)) = over bytes (next v)
over_then bytes next (Some (Err e)) = Some (Err e)

-- two parts in a row show what the second shows after the first
pub over_then_lem : {V W E : Type 0} (bytes : List ℕ) (x : Asks (Result V E)) (next : V → Asks (Result W E)) → over bytes (and_then x next) ≡ over_then bytes next (over bytes x)
over_then_lem bytes (done (Ok v)) next = refl
over_then_lem bytes (done (Err e)) next = refl
over_then_lem bytes (byte a on) next =
    ⊎_elim
    (λ t. cond-true (ltb a (length bytes)) (over bytes (and_then (on (get_or bytes a 0)) next)) None t ∙ over_then_lem bytes (on (get_or bytes a 0)) next ∙ ap (over_then bytes next) (sym (cond-true (ltb a (length bytes)) (over bytes (on (get_or bytes a 0))) None t)))
    (λ f. cond-false (ltb a (length bytes)) (over bytes (and_then (on (get_or bytes a 0)) next)) None f ∙ ap (over_then bytes next) (sym (cond-false (ltb a (length bytes)) (over bytes (on (get_or bytes a 0))) None f)))
    (cases_Bool (ltb a (length bytes)))

-- where the first shows a value
pub over_and : {V W E : Type 0} (bytes : List ℕ) (x : Asks (Result V E)) (next : V → Asks (Result W E)) (v : V) (r : Option (Result W E)) → over bytes x ≡ Some (Ok v) → over bytes (next v) ≡ r → over bytes (and_then x next) ≡ r
over_and bytes x next v r a b = over_then_lem bytes x next ∙ ap (over_then bytes next) a ∙ b

-- what is left to show after the first part
abbrev pub Leaves : {V W E : Type 0} → List ℕ → (V → Asks (Result W E)) → Result W E → Result V E → Type 0
Leaves bytes next r (Ok v) = over bytes (next v) ≡ Some r
Leaves bytes next r (Err e) = Err e ≡ r

-- what each part shows, where both show something
parts_of : {V W E : Type 0} (bytes : List ℕ) (next : V → Asks (Result W E)) (r : Result W E) (o : Option (Result V E)) → over_then bytes next o ≡ Some r → (w : Result V E) × (o ≡ Some w) × Leaves bytes next r w
parts_of bytes next r None e = absurd (none_some e)
parts_of bytes next r (Some (Ok v)) e = (Ok v, refl, e)
parts_of bytes next r (Some (Err x)) e = (Err x, refl, some_same e)

-- and back: the first part shows something, and the second the rest
pub over_parts : {V W E : Type 0} (bytes : List ℕ) (x : Asks (Result V E)) (next : V → Asks (Result W E)) (r : Result W E) → over bytes (and_then x next) ≡ Some r → (w : Result V E) × (over bytes x ≡ Some w) × Leaves bytes next r w
over_parts bytes x next r e = parts_of bytes next r (over bytes x) (sym (over_then_lem bytes x next) ∙ e)

-- it asks for some byte
abbrev pub AsksSome : {V : Type 0} → Asks V → Type 0
AsksSome (done v) = ⊥
AsksSome (byte a on) = Unit {0}

-- so there are bytes, where it shows something
pub some_there : {V : Type 0} (bytes : List ℕ) (x : Asks V) (r : V) → AsksSome x → over bytes x ≡ Some r → 0 < length bytes
some_there bytes (done v) r asks e = absurd asks
some_there bytes (byte a on) r asks e = let h = byte-shown bytes a on r e in omega arith

-- ---- spans

-- a span that lasts for two parts lasts for the first, and then for the second
pub lasts_parts : (a b : ℕ) (sp : Span) → Stays (a + b) sp → Stays a sp × Stays b (fallen_by a sp)
lasts_parts a b sp l = (lasts_first a b sp l, lasts_rest a b sp l)

-- ---- two procedures in a row, over one tag

module _ {V W : Type 0} (t : TagModel) (p : Procedure V) (next : V → Procedure W) (safe : Sends Harmless p) (sp : Span) (s : List ℕ) where
  -- what the first makes
  abbrev had : Outcome V
  had = perform p (one_tag t sp s)

  -- the air between the two
  abbrev between : Air
  between = one_tag t (fallen_by had.sent sp) had.air.space

  -- the second, from some air on
  abbrev behind : Air → Outcome W
  behind a =
      record { value = (perform (next had.value) a).value; air = (perform (next had.value) a).air; sent = had.sent + (perform (next had.value) a).sent }

  -- the second meets the same tag
  pub then_one : perform (bind p next) (one_tag t sp s) ≡ behind between
  then_one = perform-bind p next (one_tag t sp s) ∙ ap behind (one_stays t p safe sp s)

  -- what is true of the first leads to what is true of both
  pub then_true : (P : V → Type 0) (Q : W → Type 0) → P had.value → ((v : V) → P v → (sp' : Span) (s' : List ℕ) → Q (perform (next v) (one_tag t sp' s')).value) → Q (perform (bind p next) (one_tag t sp s)).value
  then_true P Q a on =
      subst (λ (z : Outcome W). Q z.value) (sym then_one) (on had.value a (fallen_by had.sent sp) had.air.space)

  -- the same, of a tag that stays for long enough
  pub then_lasting : (P : V → Type 0) (Q : W → Type 0) → (Stays had.sent sp → P had.value) → ((v : V) → P v → (sp' : Span) (s' : List ℕ) → Stays (perform (next v) (one_tag t sp' s')).sent sp' → Q (perform (next v) (one_tag t sp' s')).value) → Stays (perform (bind p next) (one_tag t sp s)).sent sp → Q (perform (bind p next) (one_tag t sp s)).value
  then_lasting P Q a on =
      let rest : Stays (behind between).sent sp → Q (behind between).value = λ l. let parts = lasts_parts had.sent (perform (next had.value) between).sent sp l in on had.value (a parts.0) (fallen_by had.sent sp) had.air.space parts.1 in
      subst (λ (z : Outcome W). Stays z.sent sp → Q z.value) (sym then_one) rest

-- ---- and where the first may stop

-- a stop is no value
stop_made : {V W : Type 0} (P : V → Type 0) (Q : W → Type 0) (next : V → Procedure (Result W Stop)) (a : Air) → ((v : V) → P v → IfOk (perform (next v) a).value Q) → (r : Result V Stop) → IfOk r P → IfOk (perform (or_stop next r) a).value Q
stop_made P Q next a on (Ok v) x = on v x
stop_made P Q next a on (Err s) x = tt

-- whatever both answer is such a value
pub then_made : {V W : Type 0} (t : TagModel) (p : Procedure (Result V Stop)) (next : V → Procedure (Result W Stop)) → Sends Harmless p → (P : V → Type 0) (Q : W → Type 0) (sp : Span) (s : List ℕ) → IfOk (perform p (one_tag t sp s)).value P → ((v : V) → P v → (sp' : Span) (s' : List ℕ) → IfOk (perform (next v) (one_tag t sp' s')).value Q) → IfOk (perform (bind p (or_stop next)) (one_tag t sp s)).value Q
then_made t p next safe P Q sp s a on =
    then_true t p (or_stop next) safe sp s (λ r. IfOk r P) (λ r. IfOk r Q) a (λ r x sp' s'. stop_made P Q next (one_tag t sp' s') (λ v y. on v y sp' s') r x)

-- ---- parts of a call that tell what the memory shows

-- a value that a memory shows, and a block of it
abbrev pub Shows : {V : Type 0} → Model → Asks (Result V Flaw) → V × Option Kept → Type 0
Shows m x p = (over m.bytes x ≡ Some (Ok p.0)) × Holds m p.1

-- what is answered where a memory shows a value, or a flaw, whatever the step
abbrev pub Tells : {V : Type 0} → Model → Result V Flaw → Result (V × Option Kept) Stop → Type 0
Tells m (Ok v) w = (k : Option Kept) × (w ≡ Ok (v, k)) × Holds m k
Tells m (Err e) w = (z : Stop) × (w ≡ Err z) × (z.cause ≡ cause_of e)

-- whatever it answers, the memory shows
abbrev pub Truthful : {V : Type 0} → TagModel → Procedure (Result (V × Option Kept) Stop) → Asks (Result V Flaw) → Type 0
Truthful t p x = (sp : Span) (s : List ℕ) → IfOk (perform p (one_tag t sp s)).value (Shows t.memory x)

-- whatever the memory shows it answers, if the tag stays for long enough
abbrev pub Thorough : {V : Type 0} → TagModel → Procedure (Result (V × Option Kept) Stop) → Asks (Result V Flaw) → Type 0
Thorough {V} t p x =
    (r : Result V Flaw) → over t.memory.bytes x ≡ Some r → (sp : Span) (s : List ℕ) → Stays (perform p (one_tag t sp s)).sent sp → Tells t.memory r (perform p (one_tag t sp s)).value

module _ {V W : Type 0} (t : TagModel) (p : Procedure (Result (V × Option Kept) Stop)) (x : Asks (Result V Flaw)) (q : V × Option Kept → Procedure (Result (W × Option Kept) Stop)) (y : V → Asks (Result W Flaw)) (safe : Sends Harmless p) where
  -- its memory
  abbrev m : Model
  m = t.memory

  -- two such parts in a row are such a part
  pub then_truthful : Truthful t p x → ((v : V) (k : Option Kept) → Holds m k → Truthful t (q (v, k)) (y v)) → Truthful t (bind p (or_stop q)) (and_then x y)
  then_truthful a b sp s =
      let second : (c : V × Option Kept) → Shows m x c → (sp' : Span) (s' : List ℕ) → IfOk (perform (q c) (one_tag t sp' s')).value (Shows m (and_then x y)) = λ c z sp' s'. IfOk-weaker (perform (q c) (one_tag t sp' s')).value (Shows m (y c.0)) (Shows m (and_then x y)) (λ d o. (over_and m.bytes x y c.0 (Some (Ok d.0)) z.0 o.0, o.1)) (b c.0 c.1 z.1 sp' s') in
      then_made t p q safe (Shows m x) (Shows m (and_then x y)) sp s (a sp s) second

  -- the second part, after what the first tells
  told : ((v : V) (k : Option Kept) → Holds m k → Thorough t (q (v, k)) (y v)) → (r : Result W Flaw) (w : Result V Flaw) → Leaves m.bytes y r w → (v : Result (V × Option Kept) Stop) → Tells m w v → (sp : Span) (s : List ℕ) → Stays (perform (or_stop q v) (one_tag t sp s)).sent sp → Tells m r (perform (or_stop q v) (one_tag t sp s)).value
  told b r (Ok c) left v (k, is, h) sp s lasts =
      subst (λ z. Stays (perform (or_stop q z) (one_tag t sp s)).sent sp → Tells m r (perform (or_stop q z) (one_tag t sp s)).value) (sym is) (b c k h r left sp s) lasts
  told b r (Err e) left v (z, is, c) sp s lasts =
      let stops : Tells m (Err e) (perform (or_stop q v) (one_tag t sp s)).value = (z, ap (λ n. (perform (or_stop q n) (one_tag t sp s)).value) is, c) in
      subst (λ n. Tells m n (perform (or_stop q v) (one_tag t sp s)).value) left stops

  -- and where they leave out nothing, neither do both
  pub then_thorough : Thorough t p x → ((v : V) (k : Option Kept) → Holds m k → Thorough t (q (v, k)) (y v)) → Thorough t (bind p (or_stop q)) (and_then x y)
  then_thorough a b r shown sp s =
      let parts = over_parts m.bytes x y r shown in
      then_lasting t p (or_stop q) safe sp s (Tells m parts.0) (Tells m r) (a parts.0 parts.1 sp s) (told b r parts.0 parts.2)

-- a value is as is said of each
made_each : {V E : Type 0} (P : V → Type 0) (r : Result V E) → ((v : V) → r ≡ Ok v → P v) → IfOk r P
made_each P (Ok v) f = f v refl
made_each P (Err e) f = tt

-- what is answered, whatever the step
any_step : {V : Type 0} (m : Model) (step : Step) (r : Result V Flaw) (w : Result (V × Option Kept) Stop) → Answered m step r w → Tells m r w
any_step m step (Ok v) w x = x
any_step m step (Err e) w (k, is, h) = (flawed step k e, is, refl)

-- ---- block 0

-- a memory with bytes has blocks
some_blocks : (n m k : ℕ) → k ≡ n * m → 0 < k → 0 < n
some_blocks zero m k e h = omega arith
some_blocks (suc n) m k e h = omega arith

-- the number of a listed block length tells it
pub listed_back : (n : ℕ) → (n ≡ 4) ⊎ ((n ≡ 8) ⊎ ((n ≡ 16) ⊎ (n ≡ 32))) → bytes_of (or_four (listed n)) ≡ n
listed_back n =
    ⊎_elim (λ e. ap (λ z. bytes_of (or_four (listed z))) e ∙ sym e) (⊎_elim (λ e. ap (λ z. bytes_of (or_four (listed z))) e ∙ sym e) (⊎_elim (λ e. ap (λ z. bytes_of (or_four (listed z))) e ∙ sym e) (λ e. ap (λ z. bytes_of (or_four (listed z))) e ∙ sym e)))

-- a first answer that is data
first_made : (a : List ℕ) (P : BlockLength × Kept → Type 0) → (is_data a (bytes_of (unit_of (one a))) ≡ true → P (unit_of (one a), kept_of 0 (drop 1 a))) → IfOk (first_of (one a)) P
first_made a P p =
    cond_both (is_data a (bytes_of (unit_of (one a)))) _ _ (λ z. IfOk (with_unit (received Step.Container 0 z) (unit_of (one a))) P) p (λ no. cond_both (is_error a) _ _ (λ z. IfOk (with_unit (received Step.Container 0 z) (unit_of (one a))) P) (λ e. tt) (λ e. tt))

-- the block length of a memory, and a block of it
abbrev pub Begun : Model → BlockLength × Kept → Type 0
Begun m f = (bytes_of f.0 ≡ m.unit) × Holds m (Some f.1)

-- those are had
abbrev pub Begins : Model → Result (BlockLength × Kept) Stop → Type 0
Begins m w = (f : BlockLength × Kept) × (w ≡ Ok f) × Begun m f

-- the block length of a memory, and where it shows its message
abbrev pub AsShown : Model → BlockLength × Place → Type 0
AsShown m z = (bytes_of z.0 ≡ m.unit) × (over m.bytes (located m.unit) ≡ Some (Ok z.1))

-- what a detection answers where a memory shows its message, or a flaw
abbrev pub Located : Model → Result Place Flaw → Result (BlockLength × Place) Stop → Type 0
Located m (Ok p) w = (b : BlockLength) × (w ≡ Ok (b, p)) × (bytes_of b ≡ m.unit)
Located m (Err e) w = (z : Stop) × (w ≡ Err z) × (z.cause ≡ cause_of e)

-- the tag
module _ (t : TagModel) (u : ℕ) (low : u < 18446744073709551616) (same : t.uid ≡ u) (sound : Sound t.memory) where
  -- its answer to the frame that reads block 0
  abbrev zeroth : List ℕ
  zeroth = 0 ∷ blocks_from t.memory false 0 1

  -- that answer is as long as a block, behind its first byte
  zeroth_long : 0 < count_of t.memory → length (blocks_from t.memory false 0 1) ≡ t.memory.unit
  zeroth_long there = ap length (append-nil (block_at t.memory 0)) ∙ block_long t.memory 0 sound there

  -- so it tells the block length
  zeroth_unit : 0 < count_of t.memory → bytes_of (unit_of (one zeroth)) ≡ t.memory.unit
  zeroth_unit there =
      let e : length zeroth - 1 ≡ t.memory.unit = let l = zeroth_long there in omega arith in
      ap (λ z. bytes_of (or_four (listed z))) e ∙ listed_back t.memory.unit sound.unit

  -- and the block is the tag's
  zeroth_begun : 0 < count_of t.memory → Begun t.memory (unit_of (one zeroth), kept_of 0 (drop 1 zeroth))
  zeroth_begun there =
      (zeroth_unit there, (there, ap (λ d. laid d (replicate 32 0)) (append-nil (block_at t.memory 0))))

  -- what the tag answers: the block, if it is there
  zeroth_turn : turn t (read_frame u 0) ≡ replies t (reads_blocks t false 0 1)
  zeroth_turn = read-turn t u 0 low same

  -- whatever is had of block 0 is the tag's
  pub first-true : (sp : Span) (s : List ℕ) → IfOk (perform (first u) (one_tag t sp s)).value (Begun t.memory)
  first-true sp s =
      let P = λ (hs : List (List ℕ)). IfOk (first_of (reply_of hs)) (Begun t.memory) in
      let Q = λ (r : Turn). P (option_to_list r.says) in
      let there = λ (e : leb (0 + 1) (count_of t.memory) ≡ true). first_made zeroth (Begun t.memory) (λ is. zeroth_begun (let l = leb-true (0 + 1) (count_of t.memory) e in omega arith)) in
      let turned : Q (turn t (read_frame u 0)) = subst Q (sym zeroth_turn) (cond_both (leb (0 + 1) (count_of t.memory)) _ _ (λ r. Q (replies t r)) there (λ absent. tt)) in
      subst P (sym (heard-one t (read_frame u 0) sp)) (cond_both (answers sp) _ _ P (λ heard. turned) (λ lost. tt))

  -- block 0 is had, if it is there and the tag stays for it
  pub first_given : 0 < count_of t.memory → (sp : Span) (s : List ℕ) → Stays 1 sp → Begins t.memory (perform (first u) (one_tag t sp s)).value
  first_given there sp s lasts =
      let heard = heard-one t (read_frame u 0) sp ∙ cond-true _ _ _ (lasts_answers sp lasts) in
      let says = ap (λ (r : Turn). option_to_list r.says) (zeroth_turn ∙ ap (replies t) (cond-true _ _ _ (le-leb (0 + 1) (count_of t.memory) (omega arith)))) in
      let b = unit_of (one zeroth) in
      let is : is_data zeroth (bytes_of b) ≡ true = and_from (eqb (length zeroth) (bytes_of b + 1)) true (eq-eqb (length zeroth) (bytes_of b + 1) (let e = zeroth_unit there in let l = zeroth_long there in omega arith)) refl in
      ((b, kept_of 0 (drop 1 zeroth)), ap (λ hs. first_of (reply_of hs)) (heard ∙ says) ∙ ap (λ z. with_unit (received Step.Container 0 z) b) (cond-true _ _ _ is), zeroth_begun there)

  -- ---- bytes that are asked for

  -- whatever asks for bytes answers what the memory shows
  pub asking_truthful : {V : Type 0} (step : Step) (unit : ℕ) → unit ≡ t.memory.unit → (x : Asks (Result V Flaw)) (k : Option Kept) → Holds t.memory k → Truthful t (asking step u unit k x) x
  asking_truthful {V} step unit e x k h =
      subst (λ n. Truthful t (asking step u n k x) x) (sym e) (λ sp s. made_each (Shows t.memory x) (perform (asking step u t.memory.unit k x) (one_tag t sp s)).value (λ p is. truth t u low same sound step x k h sp s p.0 p.1 is))

  -- the container and the walk
  pub locating_truthful : (f : BlockLength × Kept) → Begun t.memory f → Truthful t (locating u f) (located t.memory.unit)
  locating_truthful f begun =
      let unit = bytes_of f.0 in
      let e = begun.0 in
      let x = container unit in
      let all = λ (n : ℕ). read_harmless u n low in
      subst (λ n. Truthful t (locating u f) (located n)) e (then_truthful t (asking Step.Container u unit (Some f.1) x) x (walking u f.0) walk (asking_sends Harmless Step.Container u unit all (Some f.1) x) (asking_truthful Step.Container unit e x (Some f.1) begun.1) (λ c k h. asking_truthful Step.Walk unit e (walk c) k h))

  -- whatever is found behind block 0 is where the memory shows it
  detected-true : (f : BlockLength × Kept) → Begun t.memory f → (sp : Span) (s : List ℕ) → IfOk (perform (detected u f) (one_tag t sp s)).value (AsShown t.memory)
  detected-true f begun sp s =
      then_made t (locating u f) (found f.0) (locating_sends Harmless u (λ n. read_harmless u n low) f) (Shows t.memory (located t.memory.unit)) (AsShown t.memory) sp s (locating_truthful f begun sp s) (λ p x sp' s'. (begun.0, x.0))

  -- so is whatever a detection finds
  detection-all : (sp : Span) (s : List ℕ) → IfOk (perform (detection u) (one_tag t sp s)).value (AsShown t.memory)
  detection-all sp s =
      then_made t (first u) (detected u) (first_sends Harmless u (λ n. read_harmless u n low)) (Begun t.memory) (AsShown t.memory) sp s (first-true sp s) detected-true

  -- what a detection finds is the block length of the memory, and where the memory shows its message
  pub detection-true : (sp : Span) (s : List ℕ) (b : BlockLength) (p : Place) → (perform (detection u) (one_tag t sp s)).value ≡ Ok (b, p) → (bytes_of b ≡ t.memory.unit) × (over t.memory.bytes (located t.memory.unit) ≡ Some (Ok p))
  detection-true sp s b p is = IfOk-at_ok (AsShown t.memory) is (detection-all sp s)

  -- ---- what the memory shows is found

  -- a place that is told is found
  found-told : (f : BlockLength × Kept) → Begun t.memory f → (r : Result Place Flaw) (v : Result (Place × Option Kept) Stop) → Tells t.memory r v → (a : Air) → Located t.memory r (perform (or_stop (found f.0) v) a).value
  found-told f begun (Ok p) v (k, is, h) a = (f.0, ap (λ z. (perform (or_stop (found f.0) z) a).value) is, begun.0)
  found-told f begun (Err e) v (z, is, c) a = (z, ap (λ n. (perform (or_stop (found f.0) n) a).value) is, c)

  -- a memory that shows something has a block 0
  zeroth_there : (r : Result Place Flaw) → over t.memory.bytes (located t.memory.unit) ≡ Some r → 0 < count_of t.memory
  zeroth_there r shown =
      some_blocks (count_of t.memory) t.memory.unit (length t.memory.bytes) sound.whole (some_there t.memory.bytes (located t.memory.unit) r tt shown)

  -- every block has a number that the tag knows
  module _ (known : (n : ℕ) → n < count_of t.memory → (n ≤ 255) ⊎ (t.marks.wide ≡ true)) where
    -- whatever asks for bytes answers all that the memory shows
    pub asking_thorough : {V : Type 0} (step : Step) (unit : ℕ) → unit ≡ t.memory.unit → (x : Asks (Result V Flaw)) (k : Option Kept) → Holds t.memory k → Thorough t (asking step u unit k x) x
    asking_thorough {V} step unit e x k h =
        subst (λ n. Thorough t (asking step u n k x) x) (sym e) (λ r shown sp s lasts. any_step t.memory step r (perform (asking step u t.memory.unit k x) (one_tag t sp s)).value (complete t u low same sound step known x r shown k h sp s lasts))

    -- so do the container and the walk
    pub locating_thorough : (f : BlockLength × Kept) → Begun t.memory f → Thorough t (locating u f) (located t.memory.unit)
    locating_thorough f begun =
        let unit = bytes_of f.0 in
        let e = begun.0 in
        let x = container unit in
        let all = λ (n : ℕ). read_harmless u n low in
        subst (λ n. Thorough t (locating u f) (located n)) e (then_thorough t (asking Step.Container u unit (Some f.1) x) x (walking u f.0) walk (asking_sends Harmless Step.Container u unit all (Some f.1) x) (asking_thorough Step.Container unit e x (Some f.1) begun.1) (λ c k h. asking_thorough Step.Walk unit e (walk c) k h))

    -- what the memory shows
    module _ (r : Result Place Flaw) (shown : over t.memory.bytes (located t.memory.unit) ≡ Some r) where
      -- is found behind block 0
      detected_complete : (f : BlockLength × Kept) → Begun t.memory f → (sp : Span) (s : List ℕ) → Stays (perform (detected u f) (one_tag t sp s)).sent sp → Located t.memory r (perform (detected u f) (one_tag t sp s)).value
      detected_complete f begun sp s =
          then_lasting t (locating u f) (or_stop (found f.0)) (locating_sends Harmless u (λ n. read_harmless u n low) f) sp s (Tells t.memory r) (Located t.memory r) (locating_thorough f begun r shown sp s) (λ v x sp' s' l. found-told f begun r v x (one_tag t sp' s'))

      -- once that is had
      given_complete : (v : Result (BlockLength × Kept) Stop) → Begins t.memory v → (sp : Span) (s : List ℕ) → Stays (perform (or_stop (detected u) v) (one_tag t sp s)).sent sp → Located t.memory r (perform (or_stop (detected u) v) (one_tag t sp s)).value
      given_complete v (f, is, begun) sp s =
          subst (λ z. Stays (perform (or_stop (detected u) z) (one_tag t sp s)).sent sp → Located t.memory r (perform (or_stop (detected u) z) (one_tag t sp s)).value) (sym is) (detected_complete f begun sp s)

      -- what the memory shows is what a detection answers, if the tag stays for long enough
      pub detection_complete : (sp : Span) (s : List ℕ) → Stays (perform (detection u) (one_tag t sp s)).sent sp → Located t.memory r (perform (detection u) (one_tag t sp s)).value
      detection_complete sp s =
          then_lasting t (first u) (or_stop (detected u)) (first_sends Harmless u (λ n. read_harmless u n low)) sp s (Begins t.memory) (Located t.memory r) (first_given (zeroth_there r shown) sp s) given_complete
