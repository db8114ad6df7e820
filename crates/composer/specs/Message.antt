-- The message of a list of records: each with the shortest header, MB on the first, ME on the last.
use Rattle.std.specs.Prelude.{ℕ, ◌+◌, ◌/◌, ◌%◌, Bool, true, false, if◌then◌else◌, List, [], ◌∷◌, ◌++◌, length, bit_or, nat_le, nat_lt}
use Rattle.ndef.specs.Content.{Content}
use Rattle.header.specs.Format.{number}
use Rattle.header.specs.Header.{mb, me, sr, il}

-- SR for a payload of up to 255 bytes
abbrev pub short : Content → Bool
short c = nat_le (length c.payload) 255

-- IL only for an ID of a byte or more
abbrev pub named : Content → Bool
named c = nat_lt 0 (length c.id)

-- a bit that is on or off
abbrev pub bit : Bool → ℕ → ℕ
bit on n = if on then n else 0

-- the header's first byte
abbrev pub header_byte : Bool → Bool → Bool → Bool → ℕ → ℕ
header_byte first last short named n =
    bit_or (bit_or (bit_or (bit_or (bit first mb) (bit last me)) (bit short sr)) (bit named il)) n

-- a number as four bytes, most significant first
abbrev pub four_bytes : ℕ → List ℕ
four_bytes n = (n / 16777216 % 256) ∷ (n / 65536 % 256) ∷ (n / 256 % 256) ∷ (n % 256) ∷ []

abbrev pub payload_count : Content → List ℕ
payload_count c = if short c then length c.payload ∷ [] else four_bytes (length c.payload)

abbrev pub id_count : Content → List ℕ
id_count c = if named c then length c.id ∷ [] else []

-- the fixed part of the header
abbrev pub header : Bool → Bool → Content → List ℕ
header first last c =
    (header_byte first last (short c) (named c) (number c.format) ∷ length c.kind ∷ []) ++ payload_count c ++ id_count c

-- one record: the fixed part, then type, ID and payload
abbrev pub encoded : Bool → Bool → Content → List ℕ
encoded first last c = header first last c ++ c.kind ++ c.id ++ c.payload

-- how many bytes that takes
abbrev pub encoded_length : Content → ℕ
encoded_length c =
    2 + (if short c then 1 else 4) + (if named c then 1 else 0) + length c.kind + length c.id + length c.payload

abbrev pub none : List Content → Bool
none [] = true
none (c ∷ cs) = false

-- records to the message's end; `first` says whether the message begins with them
abbrev pub message_from : Bool → List Content → List ℕ
message_from first [] = []
message_from first (c ∷ cs) = encoded first (none cs) c ++ message_from false cs

-- the message of a list of records
abbrev pub message : List Content → List ℕ
message cs = message_from true cs
