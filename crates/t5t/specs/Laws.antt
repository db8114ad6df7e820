-- What detections and readings promise in the words of tags and messages.
use Rattle.std.specs.Prelude.{◌≡◌, ℕ, ◌*◌, ◌<◌, ◌≤◌, true, ◌⊎◌, List, [], ◌∷◌, length, take, Some, Ok, Err, Result}
use Rattle.memory.specs.BlockLength.{bytes_of}
use Rattle.memory.specs.Model.{Model, count_of}
use Rattle.tag.specs.Means.{longest}
use Rattle.tag.specs.Tag.{TagModel}
use Rattle.field.specs.declared.span.Span.{Span}
use Rattle.field.specs.declared.span.Span.TheVariants.{Endless, Left}
use Rattle.field.specs.Addressed.{Lone}
use Rattle.field.specs.Placed.{Placed}
use Rattle.procedure.specs.Procedure.{Air, standing, perform}
use Rattle.shown.specs.declared.container.Place.{Place}
use Rattle.shown.specs.declared.flaw.Flaw.{Flaw}
use Rattle.shown.specs.Asks.{over}
use Rattle.shown.specs.Shown.{located, shown}
use Rattle.t5t.specs.declared.detection.Found.{Found}
use Rattle.t5t.specs.declared.detection.NotFound.{NotFound}
use Rattle.t5t.specs.declared.reading.NotRead.{NotRead}
use Rattle.t5t.specs.declared.reading.Received.{Received}
use Rattle.refusal.specs.Cause.{cause_of}
use Rattle.t5t.specs.Detection.{detection}
use Rattle.t5t.specs.Detects.{place_of, stop_of}
use Rattle.t5t.specs.Reading.{reading}
use Rattle.t5t.specs.Reads.{outcome_by, length_of, exchanges_of}

-- a span that is long enough for so many exchanges
abbrev pub Stays : ℕ → Span → Type 0
Stays n Endless = Unit {0}
Stays n (Left j) = 2 * n ≤ j

-- every block of the tag can be addressed: by one byte, or by two if it knows such numbers
abbrev pub Reachable : TagModel → Type 0
Reachable t = (n : ℕ) → n < count_of t.memory → (n ≤ 255) ⊎ (t.marks.wide ≡ true)

-- the air with that tag alone
abbrev pub with_only : Placed → Air → Air
with_only p a = record { tags = p ∷ []; space = a.space }

-- where the definition finds the message TLV of a memory
abbrev pub located_in : Model → Result Place Flaw → Type 0
located_in m x = over m.bytes (located m.unit) ≡ Some x

-- a session that says so, or a refusal for the same flaw
abbrev pub Told : Result Place Flaw → Result Found NotFound → Type 0
Told (Ok p) (Ok f) = (place_of f.session).1 ≡ p
Told (Ok p) (Err y) = ⊥
Told (Err e) (Ok f) = ⊥
Told (Err e) (Err y) = y.refusal.cause ≡ cause_of e

-- a detection over the list goes as over the one tag with the UID: the same answer, and as many exchanges
abbrev pub AsOverOne : ℕ → Air → Result Found NotFound → Placed → Type 0
AsOverOne u a (Ok f) p =
    (Ok (place_of f.session) ≡ (perform (detection u) (with_only p a)).value) × (f.exchanges ≡ (perform (detection u) (with_only p a)).sent)
AsOverOne u a (Err y) p =
    (Err (stop_of y.refusal) ≡ (perform (detection u) (with_only p a)).value) × (y.refusal.exchanges ≡ (perform (detection u) (with_only p a)).sent)

abbrev pub sent_of : Result Found NotFound → ℕ
sent_of (Ok f) = f.exchanges
sent_of (Err y) = y.refusal.exchanges

-- a session says what the definition finds in the memory of the tag
abbrev pub Truly : Result Found NotFound → Model → Type 0
Truly (Ok f) m = (bytes_of f.session.unit ≡ m.unit) × located_in m (Ok (place_of f.session).1)
Truly (Err y) m = Unit {0}

pub record DetectionLaws (u : ℕ) (a b : Air) (r : Result Found NotFound) : Type 0 where
  -- no tag's bytes, locks or state change
  pub unchanged : standing b.tags ≡ standing a.tags
  -- other tags cannot change the answer
  pub alone : (p : Placed) → Lone u a.tags p → longest ≤ length a.space → AsOverOne u a r p
  -- what is found is there
  pub true : (p : Placed) → Lone u a.tags p → p.tag.uid ≡ u → Truly r p.tag.memory
  -- and what is there is found, if the tag stays long enough and its blocks can be addressed
  pub whole : (p : Placed) → Lone u a.tags p → p.tag.uid ≡ u → longest ≤ length a.space → Reachable p.tag → Stays (sent_of r) p.span → (x : Result Place Flaw) → located_in p.tag.memory x → Told x r

-- the bytes that a reading has got
abbrev pub got_in : Result Received NotRead → List ℕ → List ℕ
got_in r space' = take (length_of r) space'

-- a reading over the list goes as over the one tag with the UID: the same answer, the same bytes, and as many exchanges
pub record AsReadOverOne (u unit : ℕ) (q : Place) (a : Air) (space space' : List ℕ) (r : Result Received NotRead) (p : Placed) : Type 0 where
  pub answer : outcome_by r (got_in r space') ≡ (perform (reading u unit q.container.end q.at (length space)) (with_only p a)).value
  pub sent : exchanges_of r ≡ (perform (reading u unit q.container.end q.at (length space)) (with_only p a)).sent

-- a reading that succeeds has got what the memory shows
abbrev pub Shown : Result Received NotRead → Model → List ℕ → Type 0
Shown (Ok x) m space' = shown m ≡ Some (take x.length space')
Shown (Err y) m space' = Unit {0}

-- a reading that succeeds, with these bytes
abbrev pub Gives : Result Received NotRead → List ℕ → List ℕ → Type 0
Gives (Ok x) space' bytes = take x.length space' ≡ bytes
Gives (Err y) space' bytes = ⊥

-- with a session that places the message TLV at q
pub record ReadingLaws (u unit : ℕ) (q : Place) (a b : Air) (space space' : List ℕ) (r : Result Received NotRead) : Type 0 where
  -- no tag's bytes, locks or state change
  pub unchanged : standing b.tags ≡ standing a.tags
  -- other tags cannot change the answer
  pub alone : (p : Placed) → Lone u a.tags p → longest ≤ length a.space → AsReadOverOne u unit q a space space' r p
  -- what is read of the tag that the session was made of is what it shows
  pub true : (p : Placed) → Lone u a.tags p → p.tag.uid ≡ u → p.tag.memory.unit ≡ unit → located_in p.tag.memory (Ok q) → Shown r p.tag.memory space'
  -- and what it shows is read, if it is not empty, the message space is long enough, the tag stays long enough and its
  -- blocks can be addressed
  pub whole : (p : Placed) → Lone u a.tags p → p.tag.uid ≡ u → p.tag.memory.unit ≡ unit → located_in p.tag.memory (Ok q) → longest ≤ length a.space → Reachable p.tag → Stays (exchanges_of r) p.span → (bytes : List ℕ) → shown p.tag.memory ≡ Some bytes → 1 ≤ length bytes → length bytes ≤ length space → Gives r space' bytes
