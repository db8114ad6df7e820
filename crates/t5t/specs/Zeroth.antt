-- Block 0, once it is kept.
use Rattle.std.specs.Prelude.{◌≡◌, ℕ, List, take, drop, Some}
use Rattle.memory.specs.BlockLength.{bytes_of}
use Rattle.t5t.specs.declared.kept.Kept.{Kept}
use Rattle.t5t.specs.declared.link.Link.{Link}

-- it is kept, and these are its bytes behind the container's first four
pub record Behind (l : Link) (rest : List ℕ) : Type 0 where
  pub block : Kept
  pub kept : l.kept ≡ Some block
  pub first : block.number ≡ 0
  pub is : rest ≡ drop 4 (take (bytes_of l.unit) block.bytes)
