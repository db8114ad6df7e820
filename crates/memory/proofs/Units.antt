-- Which lengths a block has. Assumes nothing.
use Rattle.std.proofs.Common.{◌≡◌, ◌⊎◌, refl, inl, inr}
use Rattle.memory.specs.declared.block_length.BlockLength.{BlockLength}
use Rattle.memory.specs.declared.block_length.BlockLength.TheVariants.{Four, Eight, Sixteen, ThirtyTwo}
use Rattle.memory.specs.BlockLength.{bytes_of}

-- a listed block length
pub unit-listed : (l : BlockLength) → (bytes_of l ≡ 4) ⊎ ((bytes_of l ≡ 8) ⊎ ((bytes_of l ≡ 16) ⊎ (bytes_of l ≡ 32)))
unit-listed Four = inl refl
unit-listed Eight = inr (inl refl)
unit-listed Sixteen = inr (inr (inl refl))
unit-listed ThirtyTwo = inr (inr (inr refl))
