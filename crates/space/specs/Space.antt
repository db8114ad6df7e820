-- Bytes laid into a space that the caller lends.
use Rattle.std.specs.Prelude.{ℕ, ◌+◌, List, ◌++◌, length, take, drop}

-- over the front; what lies behind them stays
abbrev pub laid : List ℕ → List ℕ → List ℕ
laid bs space = bs ++ drop (length bs) space

-- at a place; what lies before and behind stays
abbrev pub put : List ℕ → ℕ → List ℕ → List ℕ
put space at bs = take at space ++ bs ++ drop (at + length bs) space
