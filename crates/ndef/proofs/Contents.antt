-- What the record at the front of some bytes says. Assumes nothing.
use Rattle.std.proofs.Common.{◌≡◌, ℕ, ◌+◌, ◌≤◌, List, length, take, drop, sym, ap, ◌∙◌, add_assoc, arith, length-drop, length-take-le, drop-drop}
use Rattle.ndef.specs.Content.{Content}
use Rattle.header.specs.Format.{format_of}
use Rattle.header.specs.Header.{fixed}
use Rattle.ndef.specs.Reading.{flags_of, kind_length, id_length, payload_length, size, entry_at, content}

-- what the record at the front of bs says
abbrev pub content_at : List ℕ → Content
content_at bs =
    record {
      format = format_of (flags_of bs);
      kind = take (kind_length bs) (drop (fixed (flags_of bs)) bs);
      id = take (id_length bs) (drop (fixed (flags_of bs) + kind_length bs) bs);
      payload = take (payload_length bs) (drop (fixed (flags_of bs) + kind_length bs + id_length bs) bs);
    }

-- the same of the record at p in a message
pub content_at_lem : (m : List ℕ) (p : ℕ) → content (entry_at m p) ≡ content_at (drop p m)
content_at_lem m p =
    let bs = drop p m in
    let f = fixed (flags_of bs) in
    let k = kind_length bs in
    let i = id_length bs in
    let a : drop (p + f) m ≡ drop f bs = sym (drop-drop f p m) in
    let b : drop (p + f + k) m ≡ drop (f + k) bs = ap (λ n. drop n m) (add_assoc p f k) ∙ sym (drop-drop (f + k) p m) in
    let c : drop (p + f + k + i) m ≡ drop (f + k + i) bs = ap (λ n. drop n m) (ap (λ n. n + i) (add_assoc p f k) ∙ add_assoc p (f + k) i) ∙ sym (drop-drop (f + k + i) p m) in
    simp (a, b, c)

-- its parts are as long as its header says
module _ (bs : List ℕ) (within : size bs ≤ length bs) where
  pub kind-long : length (content_at bs).kind ≡ kind_length bs
  kind-long = length-take-le _ _ (let l = length-drop (fixed (flags_of bs)) bs in omega arith)

  pub id-long : length (content_at bs).id ≡ id_length bs
  id-long = length-take-le _ _ (let l = length-drop (fixed (flags_of bs) + kind_length bs) bs in omega arith)

  pub payload-long : length (content_at bs).payload ≡ payload_length bs
  payload-long = length-take-le _ _ (let l = length-drop (fixed (flags_of bs) + kind_length bs + id_length bs) bs in omega arith)
