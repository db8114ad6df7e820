-- The tags of a rack, one after the other. Assumes nothing.
use Rattle.std.specs.Prelude.{◌≡◌, ℕ, ◌+◌, ◌<◌, ◌≤◌, List, [], ◌∷◌, ◌++◌, map, length, get_or, take, drop, slice_index_or, slice_set, refl}
use Rattle.std.proofs.Common.{sym, ap, subst, ◌∙◌, add-zero, arith, length-set, take_all, drop-set-lt, get_or-drop, drop-drop}
use Rattle.std.proofs.lemmas.List.{take_more, take_more_set, map_push}
use Rattle.field.specs.declared.heard.Heard.{Heard}
use Rattle.field.specs.declared.heard.Heard.TheVariants.{Nothing}
use Rattle.field.specs.Exchange.{together, Exchange}
use Rattle.field.specs.Placed.{Placed}
use Rattle.field.proofs.Exchanges.{exchange_both, exchange_none}

-- of the slots, which were xs and are ys, the first i have heard the frame
pub record HeardBy {S : Type 0} (placed : S → Placed) (xs ys : List S) (f s₀ s : List ℕ) (h : Heard) (i : ℕ) : Type 0 where
  pub so_far : Exchange (map placed (take i xs)) (map placed (take i ys)) f s₀ s h
  pub rest : drop i ys ≡ drop i xs
  pub long : length ys ≡ length xs

pub heard-none : {S : Type 0} (placed : S → Placed) (xs : List S) (f s : List ℕ) → HeardBy placed xs xs f s s Nothing 0
heard-none placed xs f s = record { so_far = exchange_none f s; rest = refl; long = refl }

pub heard_more : {S : Type 0} (placed : S → Placed) (xs ys : List S) (f s₀ s s' : List ℕ) (h h' h'' : Heard) (i : ℕ) (old x : S) → HeardBy placed xs ys f s₀ s h i → i < length ys → old ≡ slice_index_or ys i old → Exchange (placed old ∷ []) (placed x ∷ []) f s s' h' → h'' ≡ together h h' → HeardBy placed xs (slice_set ys i x) f s₀ s' h'' (i + 1)
heard_more placed xs ys f s₀ s s' h h' h'' i old x was lt is one_more eh =
    let long = was.long in
    let same : get_or xs i old ≡ old = ap (λ n. get_or xs n old) (sym (add-zero i)) ∙ sym (get_or-drop i xs 0 old) ∙ ap (λ l. get_or l 0 old) (sym was.rest) ∙ get_or-drop i ys 0 old ∙ ap (λ n. get_or ys n old) (add-zero i) ∙ sym is in
    let a : map placed (take (i + 1) xs) ≡ map placed (take i xs) ++ placed old ∷ [] = ap (map placed) (take_more xs i old (omega arith)) ∙ map_push placed (take i xs) (slice_index_or xs i old) ∙ ap (λ y. map placed (take i xs) ++ placed y ∷ []) same in
    let b : map placed (take (i + 1) (slice_set ys i x)) ≡ map placed (take i ys) ++ placed x ∷ [] = ap (map placed) (take_more_set ys i x lt) ∙ map_push placed (take i ys) x in
    let both = exchange_both was.so_far one_more in
    let front = sym a in
    let after = sym b in
    let sum = sym eh in
    record {
      so_far = subst (λ l. Exchange l (map placed (take (i + 1) (slice_set ys i x))) f s₀ s' h'') front (subst (λ l. Exchange (map placed (take i xs) ++ placed old ∷ []) l f s₀ s' h'') after (subst (Exchange (map placed (take i xs) ++ placed old ∷ []) (map placed (take i ys) ++ placed x ∷ []) f s₀ s') sum both));
      rest = drop-set-lt (i + 1) ys i x (omega arith) ∙ sym (drop-drop 1 i ys) ∙ ap (drop 1) was.rest ∙ drop-drop 1 i xs;
      long = length-set ys i x ∙ long;
    }

pub heard_all : {S : Type 0} (placed : S → Placed) (xs ys : List S) (f s₀ s : List ℕ) (h : Heard) (i : ℕ) → HeardBy placed xs ys f s₀ s h i → length ys ≤ i → Exchange (map placed xs) (map placed ys) f s₀ s h
heard_all placed xs ys f s₀ s h i was over =
    let long = was.long in
    let a = take_all i xs (omega arith) in
    let b = take_all i ys over in
    subst (λ l. Exchange (map placed l) (map placed ys) f s₀ s h) a (subst (λ l. Exchange (map placed (take i xs)) (map placed l) f s₀ s h) b was.so_far)
