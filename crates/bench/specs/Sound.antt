-- That the bench memory is sound, as every memory is. Assumes nothing.
use Rattle.std.specs.Prelude.{◌≡◌, ℕ, ◌*◌, ◌≤◌, List, length}
use Rattle.std.proofs.Common.{sym, ap, ◌∙◌, arith, length-take, length-take-le}
use Rattle.std.proofs.lemmas.List.{length-map}
use Rattle.memory.specs.BlockLength.{bytes_of}
use Rattle.memory.specs.declared.block_length.BlockLength.{BlockLength}
use Rattle.memory.specs.Model.{Sound, count_of}
use Rattle.bench.specs.Bench.{covered, bench_of}
use Rattle.memory.proofs.Stretches.{whole_within}
use Rattle.memory.proofs.Units.{unit-listed}

module _ (u : ℕ) (bytes locks : List ℕ) where
  -- the blocks lie within the bytes
  pub bench_within : covered u bytes locks * u ≤ length bytes
  bench_within = whole_within (covered u bytes locks) u (length bytes) (omega arith)

  -- how many blocks it has
  pub bench_count : count_of (bench_of u bytes locks) ≡ covered u bytes locks
  bench_count = simp (length-map, length-take) (omega arith)

pub bench_sound : (l : BlockLength) (bytes locks : List ℕ) → Sound (bench_of (bytes_of l) bytes locks)
bench_sound l bytes locks =
    let u = bytes_of l in
    let n : count_of (bench_of u bytes locks) ≡ covered u bytes locks = bench_count u bytes locks in
    record {
      unit = unit-listed l;
      few = omega arith;
      whole = length-take-le (covered u bytes locks * u) bytes (bench_within u bytes locks) ∙ ap (λ k. k * u) (sym n);
    }
