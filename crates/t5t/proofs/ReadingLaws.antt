-- The laws of a reading, from its procedure. Assumes nothing.
use Rattle.std.proofs.Common.{◌≡◌, ℕ, ◌+◌, ◌<◌, ◌≤◌, leb, List, length, take, drop, Some, None, Ok, Err, Option, Result, sym, refl, ap, ◌∙◌, subst, inl, inr, ⊎_elim, arith, length-drop, length-take-le, take_at}
use Rattle.std.proofs.lemmas.Bool.{cond-true, cond-false, cases_Bool, leb-true}
use Rattle.tag.specs.Means.{longest}
use Rattle.field.specs.Addressed.{Lone}
use Rattle.field.specs.Placed.{Placed, SoundAll}
use Rattle.procedure.specs.Procedure.{Procedure, Air, perform, standing}
use Rattle.procedure.proofs.Alone.{AsAlone, alone, harmless}
use Rattle.shown.specs.declared.container.Place.{Place}
use Rattle.shown.specs.declared.flaw.Flaw.{Flaw}
use Rattle.shown.specs.declared.value.Value.{Value}
use Rattle.shown.specs.Asks.{over}
use Rattle.shown.specs.Shown.{valued, value_in, shown}
use Rattle.t5t.specs.declared.reading.NotRead.{NotRead}
use Rattle.t5t.specs.declared.reading.Received.{Received}
use Rattle.t5t.specs.Laws.{Stays, Reachable, with_only, located_in, got_in, AsReadOverOne, Shown, Gives, ReadingLaws}
use Rattle.t5t.specs.Reading.{Break, reading}
use Rattle.t5t.specs.Reads.{outcome_by, exchanges_of, Read, Reads}
use Rattle.t5t.proofs.DetectionLaws.{lone_sound}
use Rattle.t5t.proofs.Messages.{reading-addressed, reading_harmless, reading-true, reading_complete, read-shown, shown_read}

-- the place in what was found, and which it is
place_of : Place → Option (Result Place Flaw) → Place
place_of d None = d
place_of d (Some (Ok p)) = p
place_of d (Some (Err e)) = d

-- a value that is in the memory is a part of it
kind : Option (List ℕ) → ℕ
kind None = 0
kind (Some x) = 1

bytes_of : List ℕ → Option (List ℕ) → List ℕ
bytes_of d None = d
bytes_of d (Some x) = x

value_there : (bs : List ℕ) (v : Value) (x : List ℕ) → value_in bs v ≡ Some x → (v.at + v.long ≤ length bs) × (x ≡ take v.long (drop v.at bs))
unfolding kind bytes_of
value_there bs v x e =
    ⊎_elim (λ b. (leb-true (v.at + v.long) (length bs) b, ap (bytes_of x) (sym e ∙ cond-true _ _ _ b)))
    (λ b. absurd (let z = ap kind (sym e ∙ cond-false _ _ _ b) in omega arith)) (cases_Bool (leb (v.at + v.long) (length bs)))

-- the bytes of a reading that has them, and which it is
read_of : List ℕ → Result (List ℕ) Break → List ℕ
read_of d (Ok x) = x
read_of d (Err z) = d

tells : Result (List ℕ) Break → ℕ
tells (Ok x) = 0
tells (Err z) = 1

module _ (u unit : ℕ) (low : u < 18446744073709551616) (q : Place) (a b : Air) (sound : SoundAll a.tags) (space space' : List ℕ) where
  abbrev proc : Procedure (Result (List ℕ) Break)
  proc = reading u unit q.container.end q.at (length space)

  abbrev numbers : Result Received NotRead → Type 0
  numbers r = Read u unit q.container.end q.at a b space space' r

  -- the procedure, where the space is long enough
  done : (r : Result Received NotRead) → Reads u unit q.container.end q.at a b space space' r → longest ≤ length a.space → numbers r
  done (Ok x) (inl t) long = absurd t
  done (Err y) (inl t) long = absurd (let s = t.0.short in omega arith)
  done r (inr x) long = x

  unchanged : (r : Result Received NotRead) → Reads u unit q.container.end q.at a b space space' r → standing b.tags ≡ standing a.tags
  unchanged (Ok x) (inl t) = absurd t
  unchanged (Err y) (inl t) = ap (λ z. standing z.tags) t.0.same
  unchanged r (inr x) =
      ap (λ z. standing z.tags) x.performs.air ∙ harmless proc (reading_harmless u unit q.container.end q.at (length space) low) a

  -- the bytes that were got are the front of the space
  got-is : (r : Result Received NotRead) (x : numbers r) → x.got ≡ got_in r space'
  got-is r x =
      sym (take_at x.got (drop (length x.got) space) (length x.got) refl) ∙ ap (take (length x.got)) (sym x.left) ∙ ap (λ n. take n space') x.long

  module _ (p : Placed) (l : Lone u a.tags p) where
    over-one : AsAlone u (perform proc a) (perform proc (with_only p a))
    over-one =
        alone u proc (reading-addressed u unit q.container.end q.at (length space) low) a.tags a.space p l

    as_over-one : (r : Result Received NotRead) → numbers r → AsReadOverOne u unit q a space space' r p
    as_over-one r x =
        record {
          answer = ap (outcome_by r) (sym (got-is r x)) ∙ x.performs.value ∙ over-one.value;
          sent = let s = x.performs.sent in let o = over-one.sent in omega arith;
        }

    module _ (is : p.tag.uid ≡ u) (same : p.tag.memory.unit ≡ unit) (there : located_in p.tag.memory (Ok q)) where
      -- the procedure with the block length of the memory
      as_unit : (r : Result Received NotRead) → AsReadOverOne u unit q a space space' r p → AsReadOverOne u p.tag.memory.unit q a space space' r p
      as_unit r x = subst (λ n. AsReadOverOne u n q a space space' r p) (sym same) x

      shown_in : (r : Result Received NotRead) → Reads u unit q.container.end q.at a b space space' r → Shown r p.tag.memory space'
      shown_in (Ok x) (inl t) = absurd t
      shown_in (Err y) d = tt
      shown_in (Ok x) (inr y) =
          let one = as_unit (Ok x) (as_over-one (Ok x) y) in
          let v = reading-true p.tag u low is (lone_sound u a.tags p sound l) q.container.end q.at (length space) p.span a.space (take x.length space') (sym one.answer) in
          read-shown p.tag.memory q v.0 (take x.length space') there v.1 v.2

      gives : (r : Result Received NotRead) (bytes : List ℕ) → outcome_by r (got_in r space') ≡ Ok bytes → Gives r space' bytes
      unfolding read_of tells
      gives (Ok x) bytes e = ap (read_of bytes) e
      gives (Err y) bytes e = absurd (let z = ap tells e in omega arith)

      whole : (r : Result Received NotRead) → numbers r → Reachable p.tag → Stays (exchanges_of r) p.span → (bytes : List ℕ) → shown p.tag.memory ≡ Some bytes → 1 ≤ length bytes → length bytes ≤ length space → Gives r space' bytes
      unfolding place_of
      whole r x reach stays bytes shows some room =
          let m = p.tag.memory in
          let one = as_unit r (as_over-one r x) in
          let found = shown_read m bytes shows in
          let here : found.0 ≡ q = ap (place_of q) (sym found.2 ∙ there) in
          let v = found.1 in
          let field = subst (λ z. over m.bytes (valued z) ≡ Some (Ok v)) here found.3 in
          let part = value_there m.bytes v bytes found.4 in
          let long : length bytes ≡ v.long = ap length part.1 ∙ length-take-le v.long (drop v.at m.bytes) (let z = length-drop v.at m.bytes in let w = part.0 in omega arith) in
          let lasts = subst (λ n. Stays n p.span) one.sent stays in
          let all = reading_complete p.tag u low is (lone_sound u a.tags p sound l) reach q.container.end q.at (length space) v field (omega arith) (omega arith) part.0 p.span a.space lasts in
          gives r bytes (one.answer ∙ all ∙ ap Ok (sym part.1))

  pub reading_laws : (r : Result Received NotRead) → Reads u unit q.container.end q.at a b space space' r → ReadingLaws u unit q a b space space' r
  reading_laws r d =
      record {
        unchanged = unchanged r d;
        alone = λ p l long. as_over-one p l r (done r d long);
        true = λ p l is same there. shown_in p l is same there r d;
        whole = λ p l is same there long reach stays bytes shows some room. whole p l is same there r (done r d long) reach stays bytes shows some room;
      }
