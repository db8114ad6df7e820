-- That the tags of a rack are sound, as those of every field are. Assumes nothing.
use Rattle.std.specs.Prelude.{List, [], ◌∷◌, map}
use Rattle.memory.specs.Model.{Sound}
use Rattle.field.specs.Placed.{Placed, SoundAll}

pub sound-all : {S : Type 0} (placed : S → Placed) → ((x : S) → Sound (placed x).tag.memory) → (xs : List S) → SoundAll (map placed xs)
sound-all placed sound [] = tt
sound-all placed sound (x ∷ xs) = (sound x, sound-all placed sound xs)
