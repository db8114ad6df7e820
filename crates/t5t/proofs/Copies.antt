-- Copying a value, turn by turn. Assumes nothing.
use Rattle.std.proofs.Common.{◌≡◌, ℕ, zero, suc, ◌+◌, ◌-◌, ◌*◌, ◌/◌, ◌%◌, ◌<◌, ◌≤◌, cond, List, [], ◌++◌, length, drop, Some, Ok, Err, Option, Result, sym, refl, ap, ◌∙◌, subst, arith, length-append}
use Rattle.std.proofs.lemmas.Bool.{eq-eqb, ne_eqb}
use Rattle.memory.specs.declared.block_length.BlockLength.{BlockLength}
use Rattle.memory.specs.declared.block_length.BlockLength.TheVariants.{Four, Eight, Sixteen, ThirtyTwo}
use Rattle.memory.specs.BlockLength.{bytes_of}
use Rattle.space.specs.Space.{laid, put}
use Rattle.space.proofs.Puts.{put-none, Laid, behind}
use Rattle.field.specs.declared.field.Field as Field
use Rattle.procedure.specs.Procedure.{Procedure, answer, bind, Air, Performs}
use Rattle.procedure.proofs.Binds.{performs-none, performs_then}
use Rattle.shown.specs.declared.value.Value.{Value}
use Rattle.t5t.specs.declared.kept.Kept.{Kept}
use Rattle.t5t.specs.declared.link.Link.{Link}
use Rattle.refusal.specs.declared.step.Step.TheVariants as Step
use Rattle.t5t.specs.declared.stop.Stop.{Stop}
use Rattle.t5t.specs.declared.tlvs.Tlvs.{Tlvs}
use Rattle.t5t.specs.Asking.{block_of, Had}
use Rattle.t5t.specs.Calls.{air_in, SameAir}
use Rattle.t5t.specs.Reading.{Break, chunk, chunk_of, or_break, copying}

-- the rest of the copying of v, from l on, with so much fuel, so many bytes done
abbrev pub rest_of : Value → Link → ℕ → ℕ → List ℕ → Procedure (Result (List ℕ) Break)
rest_of v l fuel done got =
    copying fuel l.uid.0 (bytes_of l.unit) l.kept (v.at + done) (v.long - done) got

abbrev pub all_of : Value → Link → Procedure (Result (List ℕ) Break)
all_of v l = copying v.long l.uid.0 (bytes_of l.unit) l.kept v.at v.long []

-- the copying began at l₀, a₀ and s₀, and has done so many bytes: whatever it comes to from here on, it comes to from there
pub record Copying (v : Value) (l₀ l : Link) (a₀ a : Air) (s₀ s : List ℕ) (done : ℕ) : Type 0 where
  pub fuel : ℕ
  pub enough : v.long ≤ done + fuel
  pub got : List ℕ
  pub long : length got ≡ done
  pub left : s ≡ put s₀ 0 got
  pub rest : (b : Air) (r : Result (List ℕ) Break) (n : ℕ) → Performs (rest_of v l fuel done got) a b r l.exchanges n → Performs (all_of v l₀) a₀ b r l₀.exchanges n
  pub within : done ≤ v.long
  pub unit : l.unit ≡ l₀.unit
  pub uid : l.uid ≡ l₀.uid

pub copying-none : (v : Value) (l : Link) (a : Air) (s : List ℕ) → Copying v l l a a s s 0
copying-none v l a s =
    let e : v.at + 0 ≡ v.at = omega arith in
    let f : v.long - 0 ≡ v.long = omega arith in
    record {
      fuel = v.long;
      enough = omega arith;
      got = [];
      long = refl;
      left = sym (put-none s 0);
      rest = λ b r n x. subst (λ k. Performs (copying v.long l.uid.0 (bytes_of l.unit) l.kept v.at k []) a b r l.exchanges n) f (subst (λ k. Performs (copying v.long l.uid.0 (bytes_of l.unit) l.kept k (v.long - 0) []) a b r l.exchanges n) e x);
      within = omega arith;
      unit = refl;
      uid = refl;
    }

-- all is done
ended : (fuel u unit : ℕ) (k : Option Kept) (at left : ℕ) (got : List ℕ) (a : Air) (n : ℕ) → left ≡ 0 → Performs (copying fuel u unit k at left got) a a (Ok got) n n
ended zero u unit k at left got a n e = performs-none a (Ok got) n
ended (suc fuel) u unit k at left got a n e =
    let on = bind (block_of Step.Read u unit k (at / unit)) (or_break got (λ b. copying fuel u unit (Some b) (at + chunk unit at left) (left - chunk unit at left) (got ++ chunk_of unit at left b))) in
    subst (λ t. Performs (cond t (answer (Ok got)) on) a a (Ok got) n n) (sym (eq-eqb left 0 e)) (performs-none a (Ok got) n)

pub copying-over : (v : Value) (l₀ l : Link) (a₀ a : Air) (s₀ s : List ℕ) (done : ℕ) (x : Copying v l₀ l a₀ a s₀ s done) → v.long ≤ done → Performs (all_of v l₀) a₀ a (Ok x.got) l₀.exchanges l.exchanges
copying-over v l₀ l a₀ a s₀ s done x over =
    x.rest a (Ok x.got) l.exchanges (ended x.fuel l.uid.0 (bytes_of l.unit) l.kept (v.at + done) (v.long - done) x.got a l.exchanges (omega arith))

module _ (v : Value) (l₀ l : Link) (a₀ a : Air) (s₀ s : List ℕ) (done : ℕ) (x : Copying v l₀ l a₀ a s₀ s done) (more : done < v.long) (l' : Link) (b : Air) (n : ℕ) (en : n ≡ (v.at + done) / bytes_of l.unit) where
  abbrev unit : ℕ
  unit = bytes_of l.unit

  abbrev at : ℕ
  at = v.at + done

  abbrev left : ℕ
  left = v.long - done

  next : (fuel : ℕ) → Kept → Procedure (Result (List ℕ) Break)
  next fuel k = copying fuel l.uid.0 unit (Some k) (at + chunk unit at left) (left - chunk unit at left) (x.got ++ chunk_of unit at left k)

  -- a turn, from the block on
  turned : (fuel : ℕ) (r : Result Kept Stop) (c : Air) (w : Result (List ℕ) Break) (m : ℕ) → v.long ≤ done + fuel → Had Step.Read n l l' a b r → Performs (or_break x.got (next (fuel - 1)) r) b c w l'.exchanges m → Performs (rest_of v l fuel done x.got) a c w l.exchanges m
  unfolding next
  turned zero r c w m enough had on = absurd (omega arith)
  turned (suc fuel) r c w m enough had on =
      let e : suc fuel - 1 ≡ fuel = omega arith in
      let some : left ≡ 0 → ⊥ = λ z. omega arith in
      let block = subst (λ z. Performs (block_of Step.Read l.uid.0 unit l.kept z) a b r l.exchanges l'.exchanges) en had.performs in
      let go = subst (λ z. Performs (or_break x.got (next z) r) b c w l'.exchanges m) e on in
      subst (λ t. Performs (cond t (answer (Ok x.got)) (bind (block_of Step.Read l.uid.0 unit l.kept (at / unit)) (or_break x.got (next fuel)))) a c w l.exchanges m) (sym (ne_eqb left 0 some)) (performs_then (block_of Step.Read l.uid.0 unit l.kept (at / unit)) (or_break x.got (next fuel)) a b c r w l.exchanges l'.exchanges m block go)

  -- the block is not had
  pub copying_broken : (z : Stop) → Had Step.Read n l l' a b (Err z) → Performs (all_of v l₀) a₀ b (Err (record { stop = z; got = x.got })) l₀.exchanges l'.exchanges
  copying_broken z had =
      x.rest b (Err (record { stop = z; got = x.got })) l'.exchanges (turned x.fuel (Err z) b (Err (record { stop = z; got = x.got })) l'.exchanges x.enough had (performs-none b (Err (record { stop = z; got = x.got })) l'.exchanges))

  -- the block's bytes lie behind those that were got
  pub copying_on : (k : Kept) (count : ℕ) (s' : List ℕ) → Had Step.Read n l l' a b (Ok k) → count ≡ chunk unit at left → 1 ≤ count → length (chunk_of unit at left k) ≡ count → s' ≡ put s done (chunk_of unit at left k) → Copying v l₀ l' a₀ b s₀ s' (done + count)
  unfolding next
  copying_on k count s' had ec some long es =
      let enough = x.enough in
      let lies : Laid s₀ 0 x.got s done = record { after = x.left; value = let g = x.long in omega arith } in
      let now-lies = behind (chunk_of unit at left k) s' (done + count) (omega arith) lies es (ap (λ z. done + z) (sym long)) in
      let eu = sym had.uid in
      let en = sym had.unit in
      let ek = sym had.kept in
      let ea : at + chunk unit at left ≡ v.at + (done + count) = omega arith in
      let el : left - chunk unit at left ≡ v.long - (done + count) = omega arith in
      let same : next (x.fuel - 1) k ≡ rest_of v l' (x.fuel - 1) (done + count) (x.got ++ chunk_of unit at left k) = λ i. copying (x.fuel - 1) (eu i).0 (bytes_of (en i)) (ek i) (ea i) (el i) (x.got ++ chunk_of unit at left k) in
      record {
        fuel = x.fuel - 1;
        enough = omega arith;
        got = x.got ++ chunk_of unit at left k;
        long = let l = length-append x.got (chunk_of unit at left k) in let g = x.long in omega arith;
        left = now-lies.after;
        rest = λ c w m y. x.rest c w m (turned x.fuel (Ok k) c w m x.enough had (subst (λ p. Performs p b c w l'.exchanges m) (sym same) y));
        within = omega arith;
        unit = had.unit ∙ x.unit;
        uid = had.uid ∙ x.uid;
      }

-- bytes at the front
pub put_front : (s bs : List ℕ) → put s 0 bs ≡ laid bs s
put_front s bs = let z : 0 + length bs ≡ length bs = omega arith in ap (λ n. bs ++ drop n s) z

-- an address that block numbers reach
pub block_low : (b : BlockLength) (a : ℕ) → a < 65536 * bytes_of b → a / bytes_of b < 65536
block_low Four a h = omega arith
block_low Eight a h = omega arith
block_low Sixteen a h = omega arith
block_low ThirtyTwo a h = omega arith

-- where it lies in its block
pub place_low : (b : BlockLength) (a : ℕ) → a % bytes_of b < bytes_of b
place_low Four a = omega arith
place_low Eight a = omega arith
place_low Sixteen a = omega arith
place_low ThirtyTwo a = omega arith

pub unit_low : (b : BlockLength) → bytes_of b ≤ 32
unit_low Four = omega arith
unit_low Eight = omega arith
unit_low Sixteen = omega arith
unit_low ThirtyTwo = omega arith

-- the same of a copying through TLVs, with what stays as it is
pub record CopiesOn {F : Type 0} {G : Field.Ghosts F} (v : Value) (t₀ t : Tlvs F G) (s₀ s : List ℕ) (done : ℕ) : Type 0 where
  pub copying : Copying v t₀.call.now.link t.call.now.link (air_in t₀.call.now) (air_in t.call.now) s₀ s done
  pub at : t.at ≡ v.at + done
  pub container : t.container ≡ t₀.container
  pub air : SameAir t₀.call.now t.call.now
  pub call : t.call.ghost_name ≡ t₀.call.ghost_name
