-- That a printed image is sound, as every memory is. Assumes nothing.
use Rattle.std.specs.Prelude.{◌≡◌, ℕ, ◌*◌, ◌≤◌, true, List, length}
use Rattle.std.proofs.Common.{sym, ap, ◌∙◌, arith, length-take-le}
use Rattle.std.proofs.lemmas.List.{length-replicate}
use Rattle.memory.specs.declared.block_length.BlockLength.{BlockLength}
use Rattle.memory.specs.BlockLength.{bytes_of}
use Rattle.memory.specs.Model.{Sound, count_of}
use Rattle.printed.specs.Printed.{printed_count, printed_of}
use Rattle.memory.proofs.Units.{unit-listed}
use Rattle.memory.proofs.Stretches.{whole_within}

module _ (u : ℕ) (bytes : List ℕ) where
  -- the blocks lie within the bytes
  pub printed_within : printed_count u bytes * u ≤ length bytes
  printed_within = whole_within (printed_count u bytes) u (length bytes) (omega arith)

  -- how many blocks it has
  pub printed_count_lem : count_of (printed_of u bytes) ≡ printed_count u bytes
  printed_count_lem = length-replicate (printed_count u bytes) true

pub printed_sound : (l : BlockLength) (bytes : List ℕ) → Sound (printed_of (bytes_of l) bytes)
printed_sound l bytes =
    let u = bytes_of l in
    let n : count_of (printed_of u bytes) ≡ printed_count u bytes = printed_count_lem u bytes in
    record {
      unit = unit-listed l;
      few = omega arith;
      whole = length-take-le (printed_count u bytes * u) bytes (printed_within u bytes) ∙ ap (λ k. k * u) (sym n);
    }
