-- What is put into a tag's memory, and which tag that is. Assumes nothing.
use Rattle.std.proofs.Common.{◌≡◌, ℕ, ◌+◌, ◌*◌, ◌/◌, ◌≤◌, min, true, false, cond, if◌then◌else◌, not, List, [], ◌∷◌, length, get_or, map, set, take, sym, refl, ap, ◌∙◌, zero-add, one-add, length-take-le, arith}
use Rattle.std.specs.List.{prefix_len}
use Rattle.std.proofs.lemmas.List.{map-set}
use Rattle.memory.specs.Model.{Model, put_at}
use Rattle.memory.proofs.Stretches.{put_within, length-put}
use Rattle.bench.specs.declared.bench.Bench.{Bench}
use Rattle.bench.specs.Bench.{shut, covered, bench_of, bench_model}
use Rattle.bench.specs.Sound.{bench_within}
use Rattle.rack.specs.declared.rack.Slot.{Slot}
use Rattle.field.specs.Placed.{Placed}
use Rattle.rack.specs.Rack.{placed_of}
use Rattle.gate.specs.Preparing.{Prepared, bytes_put, remade, with_made}
use Rattle.gate.specs.Tagged.{has_uid}
use Rattle.gate.proofs.Firsts.{other}

pub bench_bytes : (u : ℕ) (bytes locks : List ℕ) (at : ℕ) (new : List ℕ) → at + length new ≤ length (bench_of u bytes locks).bytes → bench_of u (put_at at new bytes) locks ≡ bytes_put at new (bench_of u bytes locks)
bench_bytes u bytes locks at new h =
    let k = covered u bytes locks in
    let w = bench_within u bytes locks in
    let fits : at + length new ≤ k * u = omega (arith, h, length-take-le (k * u) bytes w) in
    let long : length (put_at at new bytes) ≡ length bytes = length-put bytes at new (omega arith) in
    let same : take (k * u) (put_at at new bytes) ≡ put_at at new (take (k * u) bytes) =
    ap (λ a. take (k * u) (put_at a new bytes)) (sym (zero-add at)) ∙ put_within bytes 0 (k * u) at new fits (omega arith) in
    let count : covered u (put_at at new bytes) locks ≡ k = ap (λ len. min (len / u) (min (length locks) 65536)) long in
    ap (λ c. record { unit = u; bytes = take (c * u) (put_at at new bytes); locks = map shut (take c locks) }) count ∙ ap (λ bs. record { unit = u; bytes = bs; locks = map shut (take k locks) }) same

module _ (uid : ℕ) (make : Model → Model) where
  -- the tag at a place with what is made of its memory
  abbrev pub made_at : List (Slot Bench) → Slot Bench → ℕ → List Placed
  made_at xs d n = set (map (placed_of bench_model) xs) n (with_made make (placed_of bench_model (get_or xs n d)))

  -- the same, where the first tag stands
  pub remade-first : (xs : List (Slot Bench)) (d : Slot Bench) → made_at xs d (prefix_len (other uid) xs) ≡ remade uid make (map (placed_of bench_model) xs)
  remade-first [] d = refl
  remade-first (x ∷ xs) d =
      let p = placed_of bench_model in
      elim (has_uid uid x) as (λ b. made_at (x ∷ xs) d (cond (not b) (1 + prefix_len (other uid) xs) 0) ≡ if b then with_made make (p x) ∷ map p xs else p x ∷ remade uid make (map p xs)) [
        | true ↦ refl
        | false ↦ ap (made_at (x ∷ xs) d) (one-add (prefix_len (other uid) xs)) ∙ ap (λ l. p x ∷ l) (remade-first xs d)
      ]

  pub prepared-first : (xs ys : List (Slot Bench)) (i : ℕ) (Made : Bench → Bench → Type 0) (p : Prepared i xs ys Made) → i ≡ prefix_len (other uid) xs → bench_model p.memory ≡ make (bench_model p.was.tag.memory) → map (placed_of bench_model) ys ≡ remade uid make (map (placed_of bench_model) xs)
  prepared-first xs ys i Made p first made =
      let f = placed_of bench_model in
      ap (map f) p.slots ∙ map-set f xs i p.now ∙ ap (set (map f xs) i) (p.placed ∙ ap (λ m. with_made (λ _. m) (f p.was)) made) ∙ ap (λ x. set (map f xs) i (with_made make (f x))) p.is ∙ ap (made_at xs p.was) first ∙ remade-first xs p.was
