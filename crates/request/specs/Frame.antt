-- A frame: the request flag, a code, the tag's UID where it is addressed, and then what the code asks for.
use Rattle.std.specs.Prelude.{ℕ, ◌+◌, ◌*◌, Bool, if◌then◌else◌, not, ◌&&◌, ◌||◌, List, [], ◌∷◌, length, take, drop, ◌==◌, bit_and, nat_le, slice_index}

abbrev pub flag_of : List ℕ → ℕ
flag_of f = slice_index f 0

abbrev pub code_at : List ℕ → ℕ
code_at f = slice_index f 1

-- a bit of the request flag is set
abbrev pub flagged : ℕ → List ℕ → Bool
flagged bit f = not (bit_and (flag_of f) bit == 0)

-- OF: with lock bytes, or a write and lock of a special tag
abbrev pub optioned : List ℕ → Bool
optioned f = flagged 0x40 f

-- AMS: to the one tag whose UID follows
abbrev pub addressed : List ℕ → Bool
addressed f = flagged 0x20 f

-- SMS: to the selected tag
abbrev pub selective : List ℕ → Bool
selective f = flagged 0x10 f

-- the other bits: b7, b3, b2 and b0 are clear, b1 is set
abbrev pub plain : List ℕ → Bool
plain f = bit_and (flag_of f) 0x8F == 0x02

-- a number of bytes, least significant first
abbrev pub little : List ℕ → ℕ
little [] = 0
little (b ∷ bs) = b + 256 * little bs

abbrev pub uid_at : List ℕ → ℕ
uid_at f = little (take 8 (drop 2 f))

-- what stands behind flag, code and UID
abbrev pub body_of : List ℕ → List ℕ
body_of f = drop (if addressed f then 10 else 2) f

-- a frame that a tag may heed: it has a code, its flag is plain, it is not both for one tag and for the selected one, and
-- it is long enough for its UID
abbrev pub intact : List ℕ → Bool
intact f = nat_le 2 (length f) && plain f && not (addressed f && selective f) && (not (addressed f) || nat_le 10 (length f))
