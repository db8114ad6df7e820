-- From the lengths of a record to the record, and from the record to what the reader hands out. Assumes nothing.
use Rattle.std.proofs.Common.{◌≡◌, ℕ, ◌+◌, ◌≤◌, false, eqb, List, length, take, drop, sym, ap, ◌∙◌, arith, length-take}
use Rattle.std.proofs.lemmas.List.{take_min}
use Rattle.ndef.specs.declared.layout.Layout.{Layout}
use Rattle.ndef.specs.declared.record.Part.{Part}
use Rattle.ndef.specs.declared.record.Record.{Record}
use Rattle.ndef.specs.Reader.{stretch_of, Lays, Found, Lies, Handed}
use Rattle.ndef.specs.Reading.{payload_length, payload_place, size, Stretch, stretch, entry_at, over, left, one}
use Rattle.ndef.proofs.Contents.{content_at_lem, payload-long}
use Rattle.ndef.proofs.Listings.{good_facts, steps, left-good}

-- the three parts of the code's record, where its layout puts them
pub record Parts (m : List ℕ) (p : ℕ) (l : Layout) (kind id payload : Part) : Type 0 where
  pub kind_at : stretch_of kind ≡ stretch m (p + l.fixed) l.kind
  pub id_at : stretch_of id ≡ stretch m (kind.place + l.kind) l.id
  pub payload_at : stretch_of payload ≡ stretch m (id.place + l.id) l.payload

module _ (m : List ℕ) (p : ℕ) (l : Layout) (lays : Lays (eqb p 0) (drop p m) l) where
  pub found : (kind id payload : Part) → Parts m p l kind id payload → Found m p (record { place = p; format = l.format; kind = kind; id = id; payload = payload })
  found kind id payload parts =
      let fixed-is = lays.fixed in
      let kind-is = lays.kind in
      let id-is = lays.id in
      let payload-is = lays.payload in
      let format-is = lays.format in
      let kind-place : kind.place ≡ p + l.fixed = ap (λ (s : Stretch). s.place) parts.kind_at in
      let id-place : id.place ≡ kind.place + l.kind = ap (λ (s : Stretch). s.place) parts.id_at in
      let k : stretch_of kind ≡ (entry_at m p).kind = parts.kind_at ∙ (λ i. stretch m (p + fixed-is i) (kind-is i)) in
      let d : stretch_of id ≡ (entry_at m p).id = parts.id_at ∙ ap (λ n. stretch m (n + l.kind) l.id) kind-place ∙ (λ i. stretch m (p + fixed-is i + kind-is i) (id-is i)) in
      let y : stretch_of payload ≡ (entry_at m p).payload = parts.payload_at ∙ ap (λ n. stretch m (n + l.id) l.payload) (id-place ∙ ap (λ n. n + l.kind) kind-place) ∙ (λ i. stretch m (p + fixed-is i + kind-is i + id-is i) (payload-is i)) in
      record {
        good = lays.good;
        entry = λ i. record { place = p; format = format-is i; kind = k i; id = d i; payload = y i };
      }

-- what a front of a list has is that many of the list's
own_length : (n : ℕ) (xs : List ℕ) → take n xs ≡ take (length (take n xs)) xs
own_length n xs = sym (ap (λ k. take k xs) (length-take n xs) ∙ take_min n xs)

lies : (m : List ℕ) (part : Part) (n : ℕ) {place : ℕ} → stretch_of part ≡ stretch m place n → Lies m part
lies m part n {place} e =
    let is : part.bytes.now ≡ take n (drop place m) = ap (λ (s : Stretch). s.bytes) e in
    let at : place ≡ part.place = sym (ap (λ (s : Stretch). s.place) e) in
    is ∙ own_length n (drop place m) ∙ ap (λ l. take (length l) (drop place m)) (sym is) ∙ ap (λ q. take (length part.bytes.now) (drop q m)) at

-- the reader that found a record, and stands behind its payload then
module _ (m : List ℕ) (p : ℕ) (r : Record) (h : p ≤ length m) (f : Found m p r) where
  pub behind : r.payload.place + length r.payload.bytes.now ≡ p + size (drop p m)
  behind =
      let bs = drop p m in
      let facts = good_facts (eqb p 0) bs f.good in
      let same = f.entry in
      let place : r.payload.place ≡ payload_place m p = ap (λ e. e.payload.place) same in
      let long : length r.payload.bytes.now ≡ payload_length bs = ap (λ e. length e.payload.bytes) same ∙ ap (λ c. length c.payload) (content_at_lem m p) ∙ payload-long bs facts.within in
      omega arith

  pub behind_within : r.payload.place + length r.payload.bytes.now ≤ length m
  behind_within = let e = behind in omega (arith, (steps m p h f.good).within)

  pub hands : over m p ≡ false → (q : ℕ) → q ≡ r.payload.place + length r.payload.bytes.now → Handed m p q r
  hands o q e =
      let e' = sym (e ∙ behind) in
      let same = sym f.entry in
      record {
        next = left-good m p h o f.good ∙ (λ i. one (same i) (left m (e' i)));
        header = ap (λ x. x.place) f.entry;
        kind = lies m r.kind _ (ap (λ x. x.kind) f.entry);
        id = lies m r.id _ (ap (λ x. x.id) f.entry);
        payload = lies m r.payload _ (ap (λ x. x.payload) f.entry);
        stands = e;
      }
