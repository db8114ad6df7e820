-- A message with shortest headers, read and composed again: the same bytes. Assumes nothing.
use Rattle.std.proofs.Common.{◌≡◌, ℕ, zero, suc, ◌+◌, ◌-◌, ◌<◌, ◌≤◌, Bool, true, false, cond, eqb, ltb, leb, List, [], ◌∷◌, ◌++◌, length, get_or, take, drop, Some, None, Option, sym, refl, ap, ◌∙◌, subst, ⊎_elim, add-zero, arith, length-drop, take-append-drop, get_or-drop, take-suc, drop-drop, take-add}
use Rattle.std.proofs.lemmas.Bool.{and_parts, and_from, and_right, cond-true, cond-false, cases_Bool, cases_eq, eq-eqb, ne_eqb, eqb-true, lt-ltb}
use Rattle.std.specs.List.{AllByRecursion}
use Rattle.std.proofs.lemmas.List.{drop_all}
use Rattle.composer.specs.Composing.{Tight, Shortest}
use Rattle.header.specs.Format.{number, format_of}
use Rattle.header.specs.Header.{has, fixed, sr, il}
use Rattle.ndef.specs.Reading.{Bytes, flags_of, kind_length, id_length, payload_length, size, good, good_at, over, left, entries, contents, fault, records}
use Rattle.composer.specs.Message.{short, named, header_byte, four_bytes, header, encoded, none, message_from, message}
use Rattle.ndef.proofs.Contents.{content_at, content_at_lem, kind-long, id-long, payload-long}
use Rattle.composer.proofs.Encoded.{four_wide}
use Rattle.composer.proofs.Flags.{rebuilt}
use Rattle.ndef.proofs.Listings.{good_facts, steps, left_over, left-good, left-bad}

-- the first bytes of a list, one by one
first3 : (bs : List ℕ) → 3 ≤ length bs → take 3 bs ≡ get_or bs 0 0 ∷ get_or bs 1 0 ∷ get_or bs 2 0 ∷ []
first3 (a ∷ b ∷ c ∷ bs) h = refl
first3 (a ∷ b ∷ []) h = absurd (omega arith)
first3 (a ∷ []) h = absurd (omega arith)
first3 [] h = absurd (omega arith)

first4 : (bs : List ℕ) → 4 ≤ length bs → take 4 bs ≡ get_or bs 0 0 ∷ get_or bs 1 0 ∷ get_or bs 2 0 ∷ get_or bs 3 0 ∷ []
first4 bs h = take-suc bs 3 0 (omega arith) ∙ ap (λ l. l ++ (get_or bs 3 0 ∷ [])) (first3 bs (omega arith))

first6 : (bs : List ℕ) → 6 ≤ length bs → take 6 bs ≡ get_or bs 0 0 ∷ get_or bs 1 0 ∷ get_or bs 2 0 ∷ get_or bs 3 0 ∷ get_or bs 4 0 ∷ get_or bs 5 0 ∷ []
first6 bs h =
    take-suc bs 5 0 (omega arith) ∙ ap (λ l. l ++ (get_or bs 5 0 ∷ [])) (take-suc bs 4 0 (omega arith) ∙ ap (λ l. l ++ (get_or bs 4 0 ∷ [])) (first4 bs (omega arith)))

first7 : (bs : List ℕ) → 7 ≤ length bs → take 7 bs ≡ get_or bs 0 0 ∷ get_or bs 1 0 ∷ get_or bs 2 0 ∷ get_or bs 3 0 ∷ get_or bs 4 0 ∷ get_or bs 5 0 ∷ get_or bs 6 0 ∷ []
first7 bs h = take-suc bs 6 0 (omega arith) ∙ ap (λ l. l ++ (get_or bs 6 0 ∷ [])) (first6 bs (omega arith))

-- the fixed part, by its two length bits
fixed_part : (s n : Bool) (bs : List ℕ) → ((k : ℕ) → get_or bs k 0 < 256) → has sr (flags_of bs) ≡ s → has il (flags_of bs) ≡ n → fixed (flags_of bs) ≤ length bs → (flags_of bs ∷ kind_length bs ∷ []) ++ cond s (payload_length bs ∷ []) (four_bytes (payload_length bs)) ++ cond n (id_length bs ∷ []) [] ≡ take (fixed (flags_of bs)) bs
fixed_part true true bs byte es en h =
    let f : fixed (flags_of bs) ≡ 4 = ap (λ b. 2 + cond b 1 4 + cond (has il (flags_of bs)) 1 0) es ∙ ap (λ b. 3 + cond b 1 0) en in
    let p : payload_length bs ≡ get_or bs 2 0 = cond-true _ _ _ es in
    let i : id_length bs ≡ get_or bs 3 0 = cond-true _ _ _ en ∙ ap (λ j. get_or bs (j - 1) 0) f in
    (λ j. flags_of bs ∷ kind_length bs ∷ p j ∷ i j ∷ []) ∙ sym (first4 bs (omega arith)) ∙ ap (λ n. take n bs) (sym f)
fixed_part true false bs byte es en h =
    let f : fixed (flags_of bs) ≡ 3 = ap (λ b. 2 + cond b 1 4 + cond (has il (flags_of bs)) 1 0) es ∙ ap (λ b. 3 + cond b 1 0) en in
    let p : payload_length bs ≡ get_or bs 2 0 = cond-true _ _ _ es in
    (λ j. flags_of bs ∷ kind_length bs ∷ p j ∷ []) ∙ sym (first3 bs (omega arith)) ∙ ap (λ n. take n bs) (sym f)
fixed_part false true bs byte es en h =
    let f : fixed (flags_of bs) ≡ 7 = ap (λ b. 2 + cond b 1 4 + cond (has il (flags_of bs)) 1 0) es ∙ ap (λ b. 6 + cond b 1 0) en in
    let p = ap four_bytes (cond-false _ _ _ es) ∙ four_wide _ _ _ _ (byte 2) (byte 3) (byte 4) (byte 5) in
    let i : id_length bs ≡ get_or bs 6 0 = cond-true _ _ _ en ∙ ap (λ j. get_or bs (j - 1) 0) f in
    (λ j. (flags_of bs ∷ kind_length bs ∷ []) ++ p j ++ (i j ∷ [])) ∙ sym (first7 bs (omega arith)) ∙ ap (λ n. take n bs) (sym f)
fixed_part false false bs byte es en h =
    let f : fixed (flags_of bs) ≡ 6 = ap (λ b. 2 + cond b 1 4 + cond (has il (flags_of bs)) 1 0) es ∙ ap (λ b. 6 + cond b 1 0) en in
    let p = ap four_bytes (cond-false _ _ _ es) ∙ four_wide _ _ _ _ (byte 2) (byte 3) (byte 4) (byte 5) in
    (λ j. (flags_of bs ∷ kind_length bs ∷ []) ++ p j ++ []) ∙ sym (first6 bs (omega arith)) ∙ ap (λ n. take n bs) (sym f)

-- ---- one record

record_rebuilt : (first : Bool) (bs : List ℕ) → Bytes bs → good first bs ≡ true → has sr (flags_of bs) ≡ leb (payload_length bs) 255 → has il (flags_of bs) ≡ ltb 0 (id_length bs) → encoded first (eqb (size bs) (length bs)) (content_at bs) ≡ take (size bs) bs
record_rebuilt first bs byte g tight-s tight-n =
    let facts = good_facts first bs g in
    let within = facts.within in
    let c = content_at bs in
    let h = flags_of bs in
    let ek = kind-long bs within in
    let ei = id-long bs within in
    let ep = payload-long bs within in
    let es : short c ≡ has sr h = ap (λ n. leb n 255) ep ∙ sym tight-s in
    let en : named c ≡ has il h = ap (ltb 0) ei ∙ sym tight-n in
    let mb-is = sym facts.begins in
    let me-is = sym facts.ends in
    let eh : header_byte first (eqb (size bs) (length bs)) (short c) (named c) (number (format_of h)) ≡ h = (λ j. header_byte (mb-is j) (me-is j) (es j) (en j) (number (format_of h))) ∙ rebuilt h (byte 0) facts.unchunked in
    let front : header first (eqb (size bs) (length bs)) c ≡ take (fixed h) bs = (λ j. (eh j ∷ ek j ∷ []) ++ cond (es j) (ep j ∷ []) (four_bytes (ep j)) ++ cond (en j) (ei j ∷ []) []) ∙ fixed_part (has sr h) (has il h) bs byte refl refl (omega arith) in
    let f = fixed h in
    let k = kind_length bs in
    let i = id_length bs in
    let p = payload_length bs in
    ap (λ l. l ++ c.kind ++ c.id ++ c.payload) front ∙ ap (λ l. l ++ c.id ++ c.payload) (sym (take-add f k bs)) ∙ ap (λ l. l ++ c.payload) (sym (take-add (f + k) i bs)) ∙ sym (take-add (f + k + i) p bs)

-- ---- the whole message

pub some_none : {p : ℕ} → ◌≡◌ {A = Option ℕ} (Some p) None → ⊥
some_none {p} e = cc

-- behind a record, nothing more comes just where the message ends
pub none_at_end : (m : List ℕ) (p : ℕ) → 0 < p → p ≤ length m → fault (left m p) ≡ None → none (contents (left m p)) ≡ eqb p (length m)
none_at_end m p some h whole =
    ⊎_elim
    (λ e. ap (λ l. none (contents l)) (left_over m p (and_from _ _ (lt-ltb 0 p some) (eq-eqb p (length m) e))) ∙ sym (eq-eqb p (length m) e))
    (λ ne.
    let o : over m p ≡ false = and_right (ltb 0 p) _ (ne_eqb p (length m) ne) in
    ⊎_elim (λ g. ap (λ l. none (contents l)) (left-good m p h o g) ∙ sym (ne_eqb p (length m) ne))
    (λ g. absurd (some_none (sym (ap fault (left-bad m p o g)) ∙ whole)))
    (cases_Bool (good_at m p)))
    (cases_eq p (length m))

ends_alike : (p s l n : ℕ) → p ≤ n → l ≡ n - p → eqb (p + s) n ≡ eqb s l
ends_alike p s l n h e =
    ⊎_elim (λ y. eq-eqb (p + s) n (omega arith) ∙ sym (eq-eqb s l y)) (λ y. ne_eqb (p + s) n (λ z. y (omega arith)) ∙ sym (ne_eqb s l y)) (cases_eq s l)

pub bytes_drop : (p : ℕ) (m : List ℕ) → Bytes m → Bytes (drop p m)
bytes_drop p m byte k = subst (λ n. n < 256) (sym (get_or-drop p m k 0)) (byte (p + k))

rebuild_rest : (n : ℕ) (m : List ℕ) (p : ℕ) → length m - p < n → p ≤ length m → Bytes m → fault (left m p) ≡ None → AllByRecursion (Tight m) (entries (left m p)) → message_from (eqb p 0) (contents (left m p)) ≡ drop p m
rebuild_rest zero m p few h byte whole tight = absurd (omega arith)
rebuild_rest (suc n) m p few h byte whole tight =
    ⊎_elim
    (λ o. ap (λ l. message_from (eqb p 0) (contents l)) (left_over m p o) ∙ sym (drop_all p m (let e = eqb-true p (length m) (and_parts (ltb 0 p) (eqb p (length m)) o).1 in omega arith)))
    (λ o.
    ⊎_elim
    (λ g.
    let bs = drop p m in
    let q = p + size bs in
    let s = steps m p h g in
    let long = length-drop p m in
    let here = left-good m p h o g in
    let ended = sym (ap fault here) ∙ whole in
    let tights = subst (λ l. AllByRecursion (Tight m) (entries l)) here tight in
    let later : eqb q 0 ≡ false = ne_eqb q 0 (λ z. omega (arith, s.on)) in
    let rest : message_from false (contents (left m q)) ≡ drop q m = ap (λ b. message_from b (contents (left m q))) (sym later) ∙ rebuild_rest n m q (omega (arith, s.on, s.within)) s.within byte ended tights.1 in
    let last : none (contents (left m q)) ≡ eqb (size bs) (length bs) = none_at_end m q (omega (arith, s.on)) s.within ended ∙ ends_alike p (size bs) (length bs) (length m) h long in
    let facts = good_facts (eqb p 0) bs g in
    let top : flags_of bs ≡ get_or m p 0 = get_or-drop p m 0 0 ∙ ap (λ n. get_or m n 0) (add-zero p) in
    let same-payload = ap (λ c. length c.payload) (content_at_lem m p) ∙ payload-long bs facts.within in
    let same_id = ap (λ c. length c.id) (content_at_lem m p) ∙ id-long bs facts.within in
    let again = record_rebuilt (eqb p 0) bs (bytes_drop p m byte) g (ap (has sr) top ∙ tights.0.short ∙ ap (λ n. leb n 255) same-payload) (ap (has il) top ∙ tights.0.named ∙ ap (ltb 0) same_id) in
    ap (λ l. message_from (eqb p 0) (contents l)) here ∙ (λ j. encoded (eqb p 0) (last j) (content_at_lem m p j) ++ rest j) ∙ ap (λ l. l ++ drop q m) again ∙ ap (λ l. take (size bs) bs ++ l) (sym (drop-drop (size bs) p m)) ∙ take-append-drop (size bs) bs)
    (λ g. absurd (some_none (sym (ap fault (left-bad m p o g)) ∙ whole)))
    (cases_Bool (good_at m p)))
    (cases_Bool (over m p))

-- a good message with shortest headers
pub rebuilds : (m : List ℕ) → Bytes m → fault (records m) ≡ None → Shortest m → message (contents (records m)) ≡ m
rebuilds m byte whole tight = rebuild_rest (suc (length m)) m 0 (omega arith) (omega arith) byte whole tight
