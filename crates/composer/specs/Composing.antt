-- What the composer and the recomposer answer, and what they leave in the space.
use Rattle.std.specs.Prelude.{◌≡◌, ℕ, ◌+◌, ◌≤◌, Bool, if◌then◌else◌, ◌&&◌, List, [], ◌∷◌, map, length, take, drop, Some, None, Ok, Err, Option, Result, nat_le, nat_lt, slice_index}
use Rattle.std.specs.List.{AllByRecursion}
use Rattle.composer.specs.declared.description.Description.{Description}
use Rattle.composer.specs.declared.description.Extent.{Extent}
use Rattle.header.specs.declared.refusal.RecordRefusal.{RecordRefusal}
use Rattle.header.specs.declared.refusal.RecordRefusal.TheVariants.{SpaceShort, BadHeader, BadDescription}
use Rattle.ndef.specs.Content.{Content}
use Rattle.header.specs.Format.{allows}
use Rattle.header.specs.Header.{has, sr, il}
use Rattle.composer.specs.Message.{none, message}
use Rattle.space.specs.Space.{laid}
use Rattle.ndef.specs.Reading.{Entry, entries, contents, fault, records}

-- what a description says of the store
abbrev pub field_of : List ℕ → Extent → List ℕ
field_of store x = take x.len (drop x.place store)

abbrev pub described : List ℕ → Description → Content
described store d =
    record { format = d.format; kind = field_of store d.kind; id = field_of store d.id; payload = field_of store d.payload }

abbrev pub inside : List ℕ → Extent → Bool
inside store x = nat_le (x.place + x.len) (length store)

-- a type and an ID of at most 255 bytes, and lengths that the format allows
abbrev pub tellable : Description → Bool
tellable d =
    nat_le d.kind.len 255 && nat_le d.id.len 255 && allows d.format d.kind.len d.id.len d.payload.len

-- a good description can be told by a header, and has its parts inside the store
abbrev pub sound : List ℕ → Description → Bool
sound store d = tellable d && inside store d.kind && inside store d.id && inside store d.payload

-- the index of the first bad one, counted from i
abbrev pub first_bad : List ℕ → ℕ → List Description → Option ℕ
first_bad store i [] = None
first_bad store i (d ∷ ds) = if sound store d then first_bad store (i + 1) ds else Some i

-- a message has at most so many bytes
abbrev pub longest : ℕ
longest = 65534

-- the length of a message that is to go into a space of so many bytes: refused where it is too long, or the space too short
abbrev pub fitted : List ℕ → ℕ → Result ℕ RecordRefusal
fitted m room =
    if nat_lt longest (length m) then Err (BadDescription 0) else if nat_le (length m) room then Ok (length m) else Err SpaceShort

-- the first bad description is refused before all else, then an empty list
abbrev pub composed_by : Option ℕ → List Content → ℕ → Result ℕ RecordRefusal
composed_by (Some i) cs room = Err (BadDescription i)
composed_by None cs room = if none cs then Err (BadDescription 0) else fitted (message cs) room

abbrev pub composed : List ℕ → List Description → ℕ → Result ℕ RecordRefusal
composed store ds room = composed_by (first_bad store 0 ds) (map (described store) ds) room

-- a refusal leaves the space as it was; else the message lies over its front
abbrev pub leaves : Result ℕ RecordRefusal → List ℕ → List ℕ → List ℕ
leaves (Ok n) m space = laid m space
leaves (Err e) m space = space

-- m is a good message, and says these records
pub record ReadAs (m : List ℕ) (cs : List Content) : Type 0 where
  pub whole : fault (records m) ≡ None
  pub same : contents (records m) ≡ cs

-- what `compose` does with the descriptions ds and a space, which is space' afterwards: what it left, read, gives exactly
-- the described records
pub record Composes (ds : List Description) (store space space' : List ℕ) (r : Result ℕ RecordRefusal) : Type 0 where
  pub answer : r ≡ composed store ds (length space)
  pub after : space' ≡ leaves r (message (map (described store) ds)) space
  pub reads : (n : ℕ) → r ≡ Ok n → ReadAs (take n space') (map (described store) ds)

-- a bad header is refused with its place
abbrev pub recomposed_by : Option ℕ → List Content → ℕ → Result ℕ RecordRefusal
recomposed_by (Some p) cs room = Err (BadHeader p)
recomposed_by None cs room = fitted (message cs) room

abbrev pub recomposed : List ℕ → ℕ → Result ℕ RecordRefusal
recomposed m room = recomposed_by (fault (records m)) (contents (records m)) room

-- a record of m has the shortest header: SR just for a payload of up to 255 bytes, IL just for an ID
pub record Tight (m : List ℕ) (e : Entry) : Type 0 where
  pub short : has sr (slice_index m e.place) ≡ nat_le (length e.payload.bytes) 255
  pub named : has il (slice_index m e.place) ≡ nat_lt 0 (length e.id.bytes)

abbrev pub Shortest : List ℕ → Type 0
Shortest m = AllByRecursion (Tight m) (entries (records m))

-- what `recompose` does: a good message with shortest headers comes out as the same bytes
pub record Recomposes (m space space' : List ℕ) (r : Result ℕ RecordRefusal) : Type 0 where
  pub answer : r ≡ recomposed m (length space)
  pub after : space' ≡ leaves r (message (contents (records m))) space
  pub reads : (n : ℕ) → r ≡ Ok n → ReadAs (take n space') (contents (records m))
  pub same : fault (records m) ≡ None → Shortest m → length m ≤ longest → length m ≤ length space → (r ≡ Ok (length m)) × (take (length m) space' ≡ m)
