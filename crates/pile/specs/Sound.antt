-- That the tags of a fading field are sound, as those of every field are. Assumes nothing.
use Rattle.std.specs.Prelude.{ℕ, List, [], ◌∷◌, map}
use Rattle.field.specs.Placed.{Placed, SoundAll}
use Rattle.pile.specs.Capped.{capped_at}

pub sound-capped : (s : ℕ) (ts : List Placed) → SoundAll ts → SoundAll (map (capped_at s) ts)
sound-capped s [] x = tt
sound-capped s (t ∷ ts) x = (x.0, sound-capped s ts x.1)
