-- The frames that a gate sends: each is for the one tag whose UID it names.
use Rattle.std.specs.Prelude.{ℕ, ◌+◌, ◌/◌, ◌%◌, if◌then◌else◌, List, [], ◌∷◌, ◌++◌, nat_le}

-- the eight bytes of a UID, least significant first
abbrev pub uid_bytes : ℕ → List ℕ
uid_bytes u =
    (u % 256) ∷ (u / 256 % 256) ∷ (u / 65536 % 256) ∷ (u / 16777216 % 256) ∷ (u / 4294967296 % 256) ∷ (u / 1099511627776 % 256) ∷ (u / 281474976710656 % 256) ∷ (u / 72057594037927936 % 256) ∷ []

-- a block number up to 255 is one byte, a later one two, the low byte first
abbrev pub block_bytes : ℕ → List ℕ
block_bytes n = if nat_le n 255 then n ∷ [] else n % 256 ∷ n / 256 ∷ []

-- and the code for it is 20h to 22h, or 30h to 32h
abbrev pub code_for : ℕ → ℕ → ℕ
code_for code n = if nat_le n 255 then code else code + 0x10

-- reads a block of the tag
abbrev pub read_frame : ℕ → ℕ → List ℕ
read_frame u n = 0x22 ∷ code_for 0x20 n ∷ uid_bytes u ++ block_bytes n
