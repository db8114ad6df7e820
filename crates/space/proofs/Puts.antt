-- Bytes laid into a space, one run behind the other. Assumes nothing.
use Rattle.std.proofs.Common.{◌≡◌, ℕ, ◌+◌, ◌≤◌, List, [], ◌++◌, length, take, drop, sym, refl, ap, ◌∙◌, append_assoc, append-nil, add-zero, add_assoc, length-append, take-append-drop, length-take-le, drop-drop, take_at, drop_at}
use borrow.Rule.Slice.PartMut.{put_mid}
use lib.Seq.{take-length}
use Rattle.std.proofs.lemmas.Slice.{put_mid-paste}
use Rattle.space.specs.Space.{put}

-- what `copy_from_slice` leaves
pub copied : (s bs ys : List ℕ) (at k : ℕ) → ys ≡ bs → length bs ≡ k → put_mid at k s ys ≡ put s at bs
copied s bs ys at k e ek =
    put_mid-paste at k s ys bs (length bs) e ek refl ∙ ap (λ l. take at s ++ l ++ drop (at + length bs) s) (take-length bs)

pub put-none : (s : List ℕ) (at : ℕ) → put s at [] ≡ s
put-none s at =
    ap (λ n. take at s ++ [] ++ drop n s) (add-zero at) ∙ ap (λ l. l ++ drop at s) (append-nil (take at s)) ∙ take-append-drop at s

put-put : (s : List ℕ) (at : ℕ) (xs ys : List ℕ) → at ≤ length s → put (put s at xs) (at + length xs) ys ≡ put s at (xs ++ ys)
put-put s at xs ys h =
    let n = at + length xs in
    let front = take at s ++ xs in
    let rest = drop n s in
    let long : length front ≡ n = length-append (take at s) xs ∙ ap (λ k. k + length xs) (length-take-le at s h) in
    let a : take n (put s at xs) ≡ front = take_at front rest n long in
    let b : drop (n + length ys) (put s at xs) ≡ drop (n + length ys) s = sym (drop-drop (length ys) n (put s at xs)) ∙ ap (drop (length ys)) (drop_at front rest n long) ∙ drop-drop (length ys) n s in
    let total : n + length ys ≡ at + length (xs ++ ys) = add_assoc at (length xs) (length ys) ∙ ap (λ k. at + k) (sym (length-append xs ys)) in
    (λ i. a i ++ ys ++ b i) ∙ (λ i. append_assoc (take at s) xs ys i ++ drop (total i) s)

-- the bytes xs were laid into s at `at`, which gave s', and end at `end`
pub record Laid (s : List ℕ) (at : ℕ) (xs s' : List ℕ) (end : ℕ) : Type 0 where
  pub after : s' ≡ put s at xs
  pub value : end ≡ at + length xs

-- one run more
pub behind : {s : List ℕ} {at : ℕ} {xs s' : List ℕ} {end : ℕ} (ys s'' : List ℕ) (end' : ℕ) → at ≤ length s → Laid s at xs s' end → s'' ≡ put s' end ys → end' ≡ end + length ys → Laid s at (xs ++ ys) s'' end'
behind {s} {at} {xs} {s'} {end} ys s'' end' h l a v =
    let was = l.after in
    let stood = l.value in
    record {
      after = a ∙ (λ i. put (was i) (stood i) ys) ∙ put-put s at xs ys h;
      value = v ∙ ap (λ n. n + length ys) stood ∙ add_assoc at (length xs) (length ys) ∙ ap (λ n. at + n) (sym (length-append xs ys));
    }
