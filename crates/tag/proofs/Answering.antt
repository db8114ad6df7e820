-- The loop that reads blocks into an answer. Assumes nothing.
use Rattle.std.proofs.lemmas.List.{places, same_lists}
use borrow.Rule.Slice.PartMut.{put_mid, mid_of}
use Rattle.std.proofs.Common.{rules, ◌≡◌, ℕ, ◌+◌, ◌-◌, ◌<◌, ◌≤◌, Bool, List, [], ◌∷◌, ◌++◌, length, set, sym, refl, ap, ◌∙◌, subst, arith, length-drop, length-set, drop-set-lt, set-set}
use Rattle.memory.specs.Model.{Model, Sound, count_of}
use Rattle.space.specs.Space.{laid, put}
use Rattle.space.proofs.Laying.{Laying, laying_none, laying_more, laying_all, next_fits}
use Rattle.tag.specs.Rules.{block_from, blocks_from}
use Rattle.tag.proofs.Blocks.{put_one, blocks_more, blocks-none, blocks_low}

-- of the blocks from n up to the end, those before k lie in the answer behind 00h, up to `at`
abbrev pub Answering : Model → Bool → ℕ → ℕ → List ℕ → List ℕ → ℕ → ℕ → Type 0
Answering m of n end s₀ s at k = Laying (0 ∷ blocks_from m of n (end - n)) s₀ s at (blocks_from m of k (end - k))

-- the space once its first byte is 00h
pub answering_none : (m : Model) (of : Bool) (n end : ℕ) (s : List ℕ) → 0 < length s → Answering m of n end (set s 0 0) (set s 0 0) 1 n
answering_none m of n end s some =
    let all = blocks_from m of n (end - n) in
    let long = length-set s 0 0 in
    laying_more (0 ∷ []) all (set s 0 0) 1 (sym (set-set s 0 0 0) ∙ put_one (set s 0 0) 0 0 (omega arith)) refl (laying_none (0 ∷ all) (set s 0 0))

module _ (m : Model) (of : Bool) (n end : ℕ) (s₀ s : List ℕ) (at k : ℕ) (so_far : Answering m of n end s₀ s at k) where
  opened : k < end → Laying (0 ∷ blocks_from m of n (end - n)) s₀ s at (block_from m of k ++ blocks_from m of (k + 1) (end - (k + 1)))
  opened h = subst (Laying (0 ∷ blocks_from m of n (end - n)) s₀ s at) (blocks_more m of k end h) so_far

  pub answering_more : (s' : List ℕ) (at' : ℕ) → k < end → s' ≡ put s at (block_from m of k) → at' ≡ at + length (block_from m of k) → Answering m of n end s₀ s' at' (k + 1)
  answering_more s' at' h es ea = laying_more (block_from m of k) _ s' at' es ea (opened h)

  -- the next block fits into the longest answer
  pub answering_room : Sound m → n ≤ end → end ≤ count_of m → end ≤ n + 32 → k < end → at + length (block_from m of k) ≤ 1057
  answering_room sound up within few h =
      let a = next_fits (block_from m of k) _ (opened h) in
      let b = blocks_low m of n (end - n) sound (omega arith) in
      omega arith

  pub answering_all : end ≤ k → (s ≡ laid (0 ∷ blocks_from m of n (end - n)) s₀) × (at ≡ length (0 ∷ blocks_from m of n (end - n)))
  answering_all h =
      let done = subst (Laying (0 ∷ blocks_from m of n (end - n)) s₀ s at) (blocks-none m of k end h) so_far in
      let a = ap length done.to_do in
      let b = length-drop at (0 ∷ blocks_from m of n (end - n)) in
      (laying_all done, omega (arith, done.within))

-- what the first byte was does not show behind the answer
pub over_first : (bs s : List ℕ) → laid (0 ∷ bs) (set s 0 0) ≡ laid (0 ∷ bs) s
over_first bs s = ap (λ l. (0 ∷ bs) ++ l) (drop-set-lt (length (0 ∷ bs)) s 0 0 (omega arith))

-- an answer laid over the front of what stands from `at` on
pub laid_behind : (s bs : List ℕ) (at k : ℕ) → at + k ≡ length s → length bs ≤ k → put_mid at k s (laid bs (mid_of at k s)) ≡ put s at bs
laid_behind s bs at k e h = same_lists _ _ (search (rules, places)) (λ i d l. grind (arith, places))
