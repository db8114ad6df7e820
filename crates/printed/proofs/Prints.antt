-- Facts on the memory over an image, for any block length. Assumes nothing.
use Rattle.std.specs.Prelude.{◌≡◌, ℕ, ◌*◌, ◌<◌, List, take, drop}
use Rattle.std.proofs.Common.{ap, ◌∙◌, zero-add, arith}
use Rattle.memory.specs.Model.{count_of, block_at}
use Rattle.printed.specs.Printed.{printed_count, printed_of}
use Rattle.memory.proofs.Stretches.{block_within, read_within}
use Rattle.printed.specs.Sound.{printed_count_lem}

-- block n is there
module _ (u : ℕ) (bytes : List ℕ) (n : ℕ) (there : n < count_of (printed_of u bytes)) where
  counted : n < printed_count u bytes
  counted = let c = printed_count_lem u bytes in omega arith

  pub printed_block : block_at (printed_of u bytes) n ≡ take u (drop (n * u) bytes)
  printed_block =
      let k = printed_count u bytes in
      read_within bytes 0 (k * u) (n * u) u (block_within n k u counted) ∙ ap (λ at. take u (drop at bytes)) (zero-add (n * u))
