-- How a draft follows another.
use Rattle.std.specs.Prelude.{◌≡◌, ℕ, ◌<◌, ◌≤◌, vec_len, slice_index}
use Rattle.std.specs.Global.{Vec}
use Rattle.gate.specs.declared.draft.Draft.{Draft}

-- the new store begins with what is in the old one
abbrev pub Begins : Vec ℕ → Vec ℕ → Type 0
Begins old new =
    (vec_len old ≤ vec_len new) ×
    ((k : ℕ) → k < vec_len old → slice_index new.items k ≡ slice_index old.items k)

-- both describe the same records, in the same store
abbrev pub Same : Draft → Draft → Type 0
Same old new =
    Begins old.store new.store ×
    (vec_len new.store ≡ vec_len old.store) ×
    (new.descriptions.items ≡ old.descriptions.items)

-- there is nothing to compose
abbrev pub Empty : Draft → Type 0
Empty draft = (vec_len draft.store ≡ 0) × (vec_len draft.descriptions ≡ 0)
