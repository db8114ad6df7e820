-- Facts on the memory over two buffers, for any block length. Assumes nothing.
use Rattle.std.specs.Prelude.{◌≡◌, ℕ, ◌*◌, ◌/◌, ◌<◌, min, true, List, map, length, take, drop, set, slice_set}
use Rattle.std.proofs.Common.{sym, ap, ◌∙◌, zero-add, arith}
use Rattle.std.proofs.lemmas.List.{map-set, length-set}
use Rattle.memory.specs.Model.{block_at, put_at, with_block, with_lock}
use Rattle.bench.specs.Bench.{shut, covered, bench_of}
use Rattle.memory.proofs.Stretches.{block_within, read_within, set_within, put_within, length-put}
use Rattle.bench.specs.Sound.{bench_within}

module _ (u : ℕ) (bytes locks : List ℕ) (n : ℕ) (there : n < covered u bytes locks) where
  pub bench_block : block_at (bench_of u bytes locks) n ≡ take u (drop (n * u) bytes)
  bench_block =
      read_within bytes 0 (covered u bytes locks * u) (n * u) u (block_within n (covered u bytes locks) u there) ∙ ap (λ k. take u (drop k bytes)) (zero-add (n * u))

  pub bench_put : (bs : List ℕ) → length bs ≡ u → with_block (bench_of u bytes locks) n bs ≡ bench_of u (put_at (n * u) bs bytes) locks
  bench_put bs e =
      let k = covered u bytes locks in
      let b = block_within n k u there in
      let w = bench_within u bytes locks in
      let long : length (put_at (n * u) bs bytes) ≡ length bytes = length-put bytes (n * u) bs (omega arith) in
      let same : take (k * u) (put_at (n * u) bs bytes) ≡ put_at (n * u) bs (take (k * u) bytes) =
      ap (λ at. take (k * u) (put_at at bs bytes)) (sym (zero-add (n * u))) ∙ put_within bytes 0 (k * u) (n * u) bs (omega arith) (omega arith)
      in
      let count : covered u (put_at (n * u) bs bytes) locks ≡ k = ap (λ len. min (len / u) (min (length locks) 65536)) long in
      sym (ap (λ c. record { unit = u; bytes = take (c * u) (put_at (n * u) bs bytes); locks = map shut (take c locks) }) count ∙ ap (λ bs'. record { unit = u; bytes = bs'; locks = map shut (take k locks) }) same)

  pub bench_set : bench_of u bytes (slice_set locks n 1) ≡ with_lock (bench_of u bytes locks) n
  bench_set =
      let k = covered u bytes locks in
      let count : covered u bytes (slice_set locks n 1) ≡ k = ap (λ len. min (length bytes / u) (min len 65536)) (length-set locks n 1) in
      let same : map shut (take k (slice_set locks n 1)) ≡ set (map shut (take k locks)) n true =
      ap (λ at. map shut (take k (slice_set locks at 1))) (sym (zero-add n)) ∙ ap (map shut) (set_within locks 0 k n 1 there) ∙ map-set shut (take k locks) n 1
      in
      ap (λ c. record { unit = u; bytes = take (c * u) bytes; locks = map shut (take c (slice_set locks n 1)) }) count ∙ ap (λ ls. record { unit = u; bytes = take (k * u) bytes; locks = ls }) same
