-- What a message says: its records, one after the other, up to its end or to the first bad header.
use Rattle.std.specs.Prelude.{ℕ, zero, suc, ◌+◌, ◌-◌, ◌*◌, ◌<◌, Bool, if◌then◌else◌, not, ◌&&◌, List, [], ◌∷◌, length, take, drop, Some, None, Option, ◌==◌, nat_le, nat_lt, slice_index}
use Rattle.std.specs.Bool.{beq}
use Rattle.header.specs.declared.format.Format.{Format}
use Rattle.ndef.specs.Content.{Content}
use Rattle.header.specs.Format.{format_of, allows}
use Rattle.header.specs.Header.{has, fixed, mb, me, cf, sr, il}

-- each is a byte
abbrev pub Bytes : List ℕ → Type 0
Bytes bs = (k : ℕ) → slice_index bs k < 256

-- Below, bs is a message from a record's header on.

abbrev pub flags_of : List ℕ → ℕ
flags_of bs = slice_index bs 0

-- a number of four bytes, most significant first
abbrev pub wide : ℕ → ℕ → ℕ → ℕ → ℕ
wide a b c d = a * 16777216 + b * 65536 + c * 256 + d

-- the lengths that the fixed part gives: of the type, of the payload (one byte under SR, else four), of the ID (none without IL)
abbrev pub kind_length : List ℕ → ℕ
kind_length bs = slice_index bs 1

abbrev pub payload_length : List ℕ → ℕ
payload_length bs =
    if has sr (flags_of bs) then slice_index bs 2 else wide (slice_index bs 2) (slice_index bs 3) (slice_index bs 4) (slice_index bs 5)

abbrev pub id_length : List ℕ → ℕ
id_length bs = if has il (flags_of bs) then slice_index bs (fixed (flags_of bs) - 1) else 0

-- the whole record: the fixed part, then type, ID and payload
abbrev pub size : List ℕ → ℕ
size bs = fixed (flags_of bs) + kind_length bs + id_length bs + payload_length bs

-- a good record lies within the message, has MB just where it is the first, ME just where it ends the message, no CF, and
-- lengths that its format allows
abbrev pub good : Bool → List ℕ → Bool
good first bs =
    nat_le (size bs) (length bs) && beq (has mb (flags_of bs)) first && beq (has me (flags_of bs)) (size bs == length bs) && not (has cf (flags_of bs)) && allows (format_of (flags_of bs)) (kind_length bs) (id_length bs) (payload_length bs)

-- a part of a message: where it starts, and its bytes
pub record Stretch : Type 0 where
  pub place : ℕ
  pub bytes : List ℕ

abbrev pub stretch : List ℕ → ℕ → ℕ → Stretch
stretch m place n = record { place = place; bytes = take n (drop place m) }

-- a record as it lies in a message: its header's place, and its fields with theirs
pub record Entry : Type 0 where
  pub place : ℕ
  pub format : Format
  pub kind : Stretch
  pub id : Stretch
  pub payload : Stretch

abbrev pub kind_place : List ℕ → ℕ → ℕ
kind_place m p = p + fixed (flags_of (drop p m))

abbrev pub id_place : List ℕ → ℕ → ℕ
id_place m p = kind_place m p + kind_length (drop p m)

abbrev pub payload_place : List ℕ → ℕ → ℕ
payload_place m p = id_place m p + id_length (drop p m)

-- the record whose header is at p
abbrev pub entry_at : List ℕ → ℕ → Entry
entry_at m p =
    record {
      place = p;
      format = format_of (flags_of (drop p m));
      kind = stretch m (kind_place m p) (kind_length (drop p m));
      id = stretch m (id_place m p) (id_length (drop p m));
      payload = stretch m (payload_place m p) (payload_length (drop p m));
    }

-- the record whose header is at p is good
abbrev pub good_at : List ℕ → ℕ → Bool
good_at m p = good (p == 0) (drop p m)

-- records one after the other, and how they end: at the message's end, or at a bad header's place
pub data Listing : Type 0 where
  ended : Listing
  bad : ℕ → Listing
  one : Entry → Listing → Listing

-- the message is over at p: there was a record, and nothing is left
abbrev pub over : List ℕ → ℕ → Bool
over m p = nat_lt 0 p && p == length m

-- the records from p on, in at most so many turns
unfoldable pub listing : ℕ → List ℕ → ℕ → Listing
listing zero m p = ended
listing (suc turns) m p =
    if over m p then ended
    else if good_at m p then one (entry_at m p) (listing turns m (p + size (drop p m)))
    else bad p

-- the records from p on: a record takes a byte at least, so there are fewer turns than bytes
unfoldable pub left : List ℕ → ℕ → Listing
left m p = listing (suc (length m - p)) m p

-- the records of a message
abbrev pub records : List ℕ → Listing
records m = left m 0

-- those before the end or the bad header
abbrev pub entries : Listing → List Entry
entries ended = []
entries (bad p) = []
entries (one e l) = e ∷ entries l

-- the bad header's place, if there is one
abbrev pub fault : Listing → Option ℕ
fault ended = None
fault (bad p) = Some p
fault (one e l) = fault l

-- what a record says, wherever it lies
abbrev pub content : Entry → Content
content e = record { format = e.format; kind = e.kind.bytes; id = e.id.bytes; payload = e.payload.bytes }

abbrev pub contents : Listing → List Content
contents ended = []
contents (bad p) = []
contents (one e l) = content e ∷ contents l
