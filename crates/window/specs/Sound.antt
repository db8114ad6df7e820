-- That a window is sound, as every memory is. Assumes nothing.
use Rattle.std.specs.Prelude.{◌≡◌, ℕ, ◌-◌, ◌*◌, ◌≤◌, length, drop}
use Rattle.std.proofs.Common.{sym, ap, ◌∙◌, mul_comm, arith, length-take, length-drop, length-take-le}
use Rattle.std.proofs.Math.Nat.{mul-sub}
use Rattle.std.proofs.lemmas.Nat.{mul-le}
use Rattle.memory.specs.Model.{Model, Sound, count_of}
use Rattle.window.specs.Window.{shown, window_of}

-- how many blocks it has
pub window_count : (m : Model) (first count : ℕ) → count_of (window_of m first count) ≡ shown m first count
window_count m first count = simp (length-take, length-drop) (omega arith)

module _ (m : Model) (s : Sound m) (first count : ℕ) where
  -- what is shown lies within what stands behind the first block below
  shown_rest : shown m first count * m.unit ≤ length m.bytes - first * m.unit
  shown_rest =
      let u = m.unit in
      let k = shown m first count in
      let l : k * u ≤ (count_of m - first) * u = mul-le k u (count_of m - first) u (omega arith) (omega arith) in
      let e : (count_of m - first) * u ≡ count_of m * u - first * u = mul_comm (count_of m - first) u ∙ mul-sub u (count_of m) first ∙ (λ i. mul_comm u (count_of m) i - mul_comm u first i) in
      let w = s.whole in
      omega arith

  pub window_sound : Sound (window_of m first count)
  window_sound =
      record {
        unit = s.unit;
        few = let c = window_count m first count in let f = s.few in omega arith;
        whole = length-take-le (shown m first count * m.unit) (drop (first * m.unit) m.bytes) (let r = shown_rest in let d = length-drop (first * m.unit) m.bytes in omega arith) ∙ ap (λ k. k * m.unit) (sym (window_count m first count));
      }
