-- What each call of the reader hands out. The reader of a message m stands at a place p.
use Rattle.std.specs.Prelude.{◌≡◌, ℕ, ◌+◌, ◌≤◌, Bool, true, List, length, take, drop, Some, None, Ok, Err, Option, Result}
use Rattle.ndef.specs.declared.layout.Layout.{Layout}
use Rattle.ndef.specs.declared.record.Part.{Part}
use Rattle.ndef.specs.declared.record.Record.{Record}
use Rattle.header.specs.declared.refusal.RecordRefusal.{RecordRefusal}
use Rattle.header.specs.declared.refusal.RecordRefusal.TheVariants.{BadHeader}
use Rattle.header.specs.Format.{format_of}
use Rattle.header.specs.Header.{fixed}
use Rattle.ndef.specs.Reading.{flags_of, kind_length, id_length, payload_length, good, good_at, Stretch, Entry, entry_at, ended, bad, one, left}

-- a record of the code, as an entry of the listing
abbrev pub stretch_of : Part → Stretch
stretch_of p = record { place = p.place; bytes = p.bytes.now }

abbrev pub entry_of : Record → Entry
entry_of r = record { place = r.place; format = r.format; kind = stretch_of r.kind; id = stretch_of r.id; payload = stretch_of r.payload }

-- the lengths of the record at the front of bs
pub record Lays (first : Bool) (bs : List ℕ) (l : Layout) : Type 0 where
  pub good : good first bs ≡ true
  pub format : l.format ≡ format_of (flags_of bs)
  pub fixed : l.fixed ≡ fixed (flags_of bs)
  pub kind : l.kind ≡ kind_length bs
  pub id : l.id ≡ id_length bs
  pub payload : l.payload ≡ payload_length bs

-- the record of the code is the good one at p
pub record Found (m : List ℕ) (p : ℕ) (r : Record) : Type 0 where
  pub good : good_at m p ≡ true
  pub entry : entry_of r ≡ entry_at m p

-- a part's bytes are those of m at its place
abbrev pub Lies : List ℕ → Part → Type 0
Lies m p = p.bytes.now ≡ take (length p.bytes.now) (drop p.place m)

-- at a record: that one, its parts where they say; the reader stands behind its payload then
pub record Handed (m : List ℕ) (p q : ℕ) (r : Record) : Type 0 where
  pub next : left m p ≡ one (entry_of r) (left m q)
  pub header : r.place ≡ p
  pub kind : Lies m r.kind
  pub id : Lies m r.id
  pub payload : Lies m r.payload
  pub stands : q ≡ r.payload.place + length r.payload.bytes.now

-- the place behind a record
abbrev pub behind : Record → ℕ
behind r = r.payload.place + length r.payload.bytes.now

-- the lengths of its type and its ID take one byte each
pub record IsBrief (r : Record) : Type 0 where
  pub kind : length r.kind.bytes.now ≤ 255
  pub id : length r.id.bytes.now ≤ 255

-- what there is at p
abbrev pub Next : List ℕ → ℕ → Result (Option Record) RecordRefusal → Type 0
Next m p (Ok (Some r)) = Handed m p (behind r) r × (behind r ≤ length m)
Next m p (Ok None) = left m p ≡ ended
Next m p (Err e) = (left m p ≡ bad p) × (e ≡ BadHeader p)

-- At the end of the message: none. At a bad header: the refusal with its place. In both the reader stays, so the next call
-- answers the same.
abbrev pub Hands : List ℕ → ℕ → ℕ → Result (Option Record) RecordRefusal → Type 0
Hands m p q (Ok (Some r)) = Handed m p q r
Hands m p q (Ok None) = (left m p ≡ ended) × (q ≡ p)
Hands m p q (Err e) = (left m p ≡ bad p) × (e ≡ BadHeader p) × (q ≡ p)
