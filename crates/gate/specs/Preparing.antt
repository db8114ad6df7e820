-- What preparing a tag's memory does with the tags.
use Rattle.std.specs.Prelude.{◌≡◌, ℕ, if◌then◌else◌, List, [], ◌∷◌, slice_index_or, slice_set, ◌==◌}
use Rattle.bench.specs.declared.bench.Bench.{Bench}
use Rattle.bench.specs.Bench.{bench_model}
use Rattle.memory.specs.Model.{Model, put_at}
use Rattle.tag.specs.Tag.{with_memory}
use Rattle.rack.specs.declared.rack.Slot.{Slot}
use Rattle.field.specs.Placed.{Placed}
use Rattle.rack.specs.Rack.{placed_of}

-- bytes put at an address
abbrev pub bytes_put : ℕ → List ℕ → Model → Model
bytes_put at new m = record { unit = m.unit; bytes = put_at at new m.bytes; locks = m.locks }

-- a tag with what is made of its memory; its UID, state, marks and span stay
abbrev pub with_made : (Model → Model) → Placed → Placed
with_made make p = record { tag = with_memory p.tag (make p.tag.memory); span = p.span }

-- the first tag with that UID has what is made of its memory; all else is as it was
abbrev pub remade : ℕ → (Model → Model) → List Placed → List Placed
remade uid make [] = []
remade uid make (p ∷ more) = if p.tag.uid == uid then with_made make p ∷ more else p ∷ remade uid make more

-- the tag at a place has a memory that was made of its own
pub record Prepared (i : ℕ) (old new : List (Slot Bench)) (Made : Bench → Bench → Type 0) : Type 0 where
  pub was : Slot Bench
  pub now : Slot Bench
  pub memory : Bench
  pub is : was ≡ slice_index_or old i was
  pub slots : new ≡ slice_set old i now
  pub made : Made was.tag.memory memory
  pub placed : placed_of bench_model now ≡ with_made (λ m. bench_model memory) (placed_of bench_model was)
