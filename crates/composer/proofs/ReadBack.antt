-- A composed message, read: the same records, in order. Assumes nothing.
use Rattle.std.proofs.Common.{◌≡◌, ℕ, ◌+◌, ◌^◌, ◌<◌, ◌≤◌, true, false, eqb, ltb, List, [], ◌∷◌, ◌++◌, length, drop, None, sym, refl, ap, ◌∙◌, arith, length-append, length-drop, drop-drop, drop_at}
use Rattle.std.specs.List.{AllByRecursion}
use Rattle.std.proofs.lemmas.Bool.{and_from, and_right, eq-eqb, ne_eqb, lt-ltb}
use Rattle.ndef.specs.Content.{Content}
use Rattle.header.specs.Format.{allows}
use Rattle.ndef.specs.Reading.{size, good, good_at, entry_at, content, over, one, left, fault, contents}
use Rattle.composer.specs.Message.{encoded, none, message_from, message}
use Rattle.ndef.proofs.Contents.{content_at, content_at_lem}
use Rattle.composer.proofs.Encoded.{encoded-size, encoded-content, encoded-good}
use Rattle.ndef.proofs.Listings.{steps, left_over, left-good}

-- a record that a header can tell of
pub record Tellable (c : Content) : Type 0 where
  pub small : length c.payload < 2 ^ 32
  pub allowed : allows c.format (length c.kind) (length c.id) (length c.payload) ≡ true

-- the rest of m from p on is read as these records, to the end
pub record Rest (m : List ℕ) (p : ℕ) (cs : List Content) : Type 0 where
  pub whole : fault (left m p) ≡ None
  pub same : contents (left m p) ≡ cs

-- the last record ends the message, and no other does
last_ends : (e : List ℕ) (cs : List Content) → none cs ≡ eqb (length e) (length (e ++ message_from false cs))
last_ends e [] = sym (eq-eqb _ _ (let l = length-append e [] in omega arith))
last_ends e (c ∷ cs) = sym (ne_eqb _ _ (λ same. let l = length-append e (message_from false (c ∷ cs)) in omega arith))

read-rest : (m : List ℕ) (p : ℕ) (cs : List Content) → p ≤ length m → drop p m ≡ message_from (eqb p 0) cs → (cs ≡ [] → 0 < p) → AllByRecursion Tellable cs → Rest m p cs
read-rest m p [] h e some t =
    let long = ap length e in
    let dropped = length-drop p m in
    let o = left_over m p (and_from _ _ (lt-ltb 0 p (some refl)) (eq-eqb p (length m) (omega arith))) in
    record { whole = ap fault o; same = ap contents o }
read-rest m p (c ∷ cs) h e some t =
    let first = eqb p 0 in
    let tail = message_from false cs in
    let long = ap length e in
    let dropped = length-drop p m in
    let open-yet : over m p ≡ false = and_right (ltb 0 p) _ (ne_eqb p (length m) (λ same. omega arith)) in
    let fine : good_at m p ≡ true = ap (good first) e ∙ encoded-good first (none cs) c tail t.0.small t.0.allowed (last_ends (encoded first (none cs) c) cs) in
    let sized : size (drop p m) ≡ length (encoded first (none cs) c) = ap size e ∙ encoded-size first (none cs) c tail t.0.small in
    let q = p + size (drop p m) in
    let on : drop q m ≡ tail = sym (drop-drop (size (drop p m)) p m) ∙ ap (drop (size (drop p m))) e ∙ drop_at (encoded first (none cs) c) tail _ (sym sized) in
    let s = steps m p h fine in
    let later : eqb q 0 ≡ false = ne_eqb q 0 (λ none. omega (arith, s.on)) in
    let rest = read-rest m q cs s.within (on ∙ ap (λ b. message_from b cs) (sym later)) (λ none. omega (arith, s.on)) t.1 in
    let here : left m p ≡ one (entry_at m p) (left m q) = left-good m p h open-yet fine in
    let said : content (entry_at m p) ≡ c = content_at_lem m p ∙ ap content_at e ∙ encoded-content first (none cs) c tail t.0.small in
    record { whole = ap fault here ∙ rest.whole; same = ap contents here ∙ (λ i. said i ∷ rest.same i) }

-- a message composed of such records, one at least
pub read_back : (c : Content) (cs : List Content) → AllByRecursion Tellable (c ∷ cs) → Rest (message (c ∷ cs)) 0 (c ∷ cs)
read_back c cs t = read-rest (message (c ∷ cs)) 0 (c ∷ cs) (omega arith) refl (λ nothing. absurd (let z = ap length nothing in omega arith)) t
