-- The tags of a rehearsal, and how they follow others.
use Rattle.std.specs.Prelude.{◌≡◌, ℕ, ◌*◌, Bool, if◌then◌else◌, not, List, [], ◌∷◌, ◌++◌, map, replicate, ◌==◌}
use Rattle.std.specs.List.{prefix_len}
use Rattle.bench.specs.declared.bench.Bench.{Bench}
use Rattle.bench.specs.Bench.{bench_of, bench_model}
use Rattle.memory.specs.declared.block_length.BlockLength.{BlockLength}
use Rattle.memory.specs.BlockLength.{bytes_of}
use Rattle.request.specs.declared.marks.Marks.{Marks}
use Rattle.request.specs.declared.state.State.TheVariants.{Ready}
use Rattle.tag.specs.Tag.{TagModel}
use Rattle.rack.specs.declared.rack.Slot.{Slot}
use Rattle.field.specs.declared.span.Span.{Span}
use Rattle.field.specs.Placed.{Placed}
use Rattle.rack.specs.Rack.{placed_of}
use Rattle.gate.specs.declared.new_tag.NewTag.{NewTag}
use Rattle.gate.specs.declared.tags.Tags.{Tags}

-- both have the same tags with the same spans, each as it was
abbrev pub SameTags : Tags → Tags → Type 0
SameTags old new = new.rack.slots.items ≡ old.rack.slots.items

-- the tags as a field means them, in order
abbrev pub placed : Tags → List Placed
placed tags = map (placed_of bench_model) tags.rack.slots.items

-- a new tag: n blocks of u bytes, all 00h and open
abbrev pub blank_tag : ℕ → ℕ → ℕ → Marks → TagModel
blank_tag uid u n marks = record { memory = bench_of u (replicate (u * n) 0) (replicate n 0); uid = uid; state = Ready; marks = marks }

-- the same in a field, with its span
abbrev pub blank_placed : NewTag → BlockLength → Placed
blank_placed new unit = record { tag = blank_tag new.uid.0 (bytes_of unit) new.count new.marks; span = new.span }

-- the tags with a new one behind them
abbrev pub WithNew : Placed → Tags → Tags → Type 0
WithNew tag old new = placed new ≡ placed old ++ tag ∷ []

abbrev pub has_uid : ℕ → Slot Bench → Bool
has_uid uid slot = slot.tag.uid.0 == uid

-- where the first tag with that UID stands, or how many tags there are if none has it
abbrev pub first_with : ℕ → Tags → ℕ
first_with uid tags = prefix_len (λ slot. not (has_uid uid slot)) tags.rack.slots.items

-- the first tag with that UID has the span; all else is as it was
abbrev pub spanned : ℕ → Span → List (Slot Bench) → List (Slot Bench)
spanned uid span [] = []
spanned uid span (slot ∷ more) =
    if has_uid uid slot then record { tag = slot.tag; span = span } ∷ more else slot ∷ spanned uid span more
