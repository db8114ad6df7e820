-- The container's header, in the block 0 that is kept. Assumes nothing.
use Rattle.std.proofs.Common.{◌≡◌, ℕ, ◌/◌, ◌%◌, ◌<◌, ◌≤◌, List, get_or, take, Some, Ok, Result, sym, refl, ap, ◌∙◌, subst, arith, get_or-take}
use Rattle.std.proofs.lemmas.Bool.{cond-true, eq-eqb}
use Rattle.memory.specs.declared.block_length.BlockLength.{BlockLength}
use Rattle.memory.specs.declared.block_length.BlockLength.TheVariants.{Four, Eight, Sixteen, ThirtyTwo}
use Rattle.memory.specs.BlockLength.{bytes_of}
use Rattle.procedure.specs.Procedure.{Air, Performs}
use Rattle.procedure.proofs.Binds.{performs-none}
use Rattle.shown.specs.declared.header.Header.{Header}
use Rattle.shown.specs.Asks.{done, byte, just_byte}
use Rattle.shown.specs.Container.{checked, header}
use Rattle.t5t.specs.declared.kept.Kept.{Kept}
use Rattle.t5t.specs.declared.link.Link.{Link}
use Rattle.refusal.specs.declared.step.Step.{Step}
use Rattle.refusal.specs.declared.step.Step.TheVariants.{Container}
use Rattle.t5t.specs.declared.stop.Stop.{Stop}
use Rattle.t5t.specs.Asking.{kept_at, or_reads, stopped, Asked, Had}
use Rattle.t5t.proofs.Askings.{byte_had, and_goes, asked_now}

-- every block has four bytes at least
pub four_bytes : (b : BlockLength) → 4 ≤ bytes_of b
four_bytes Four = omega arith
four_bytes Eight = omega arith
four_bytes Sixteen = omega arith
four_bytes ThirtyTwo = omega arith

-- an address below 4 lies in block 0, at the same place
in_first : (b : BlockLength) (a : ℕ) → a < 4 → (0 ≡ a / bytes_of b) × (a % bytes_of b ≡ a)
in_first Four a h = (omega arith, omega arith)
in_first Eight a h = (omega arith, omega arith)
in_first Sixteen a h = (omega arith, omega arith)
in_first ThirtyTwo a h = (omega arith, omega arith)

module _ (l : Link) (k : Kept) (a : Air) (kept : l.kept ≡ Some k) (first : k.number ≡ 0) where
  had_here : (step : Step) → Had step 0 l l a a (Ok k)
  had_here step =
      let is : kept_at l.kept 0 ≡ Some k = ap (λ x. kept_at x 0) kept ∙ cond-true _ _ _ (eq-eqb k.number 0 first) in
      record {
        performs = subst (λ x. Performs (or_reads step l.uid.0 (bytes_of l.unit) 0 x) a a (Ok k) l.exchanges l.exchanges) (sym is) (performs-none a (Ok k) l.exchanges);
        kept = kept;
        uid = refl;
        unit = refl;
      }

  byte_here : (at v : ℕ) → at < 4 → v ≡ get_or k.bytes at 0 → Asked Container (just_byte at) l l a a (Ok v)
  byte_here at v h e =
      let where-it-is = in_first l.unit at h in
      byte_had Container at l l a a k 0 v where-it-is.0 (e ∙ ap (λ i. get_or k.bytes i 0) (sym where-it-is.1)) (had_here Container)

  -- the header's bytes are in the block, as far as it has them
  module _ (h : Header) (bs : List ℕ) (n : ℕ) (front : bs ≡ take n k.bytes) (long : 4 ≤ n) (r : Result Header Stop) where
    there : (i : ℕ) → i < 4 → get_or bs i 0 ≡ get_or k.bytes i 0
    there i lt = ap (λ x. get_or x i 0) front ∙ get_or-take n k.bytes i 0 (omega arith)

    pub header_here : h ≡ record { magic = get_or bs 0 0; access = get_or bs 1 0; mlen = get_or bs 2 0; features = get_or bs 3 0 } → r ≡ stopped Container l.kept (checked h) → Asked Container header l l a a r
    header_here is er =
        let b0 = get_or bs 0 0 in
        let b1 = get_or bs 1 0 in
        let b2 = get_or bs 2 0 in
        and_goes (λ magic. byte 1 (λ access. byte 2 (λ mlen. byte 3 (λ features. done (checked (record { magic = magic; access = access; mlen = mlen; features = features })))))) (byte_here 0 b0 (omega arith) (there 0 (omega arith)))
        (and_goes (λ access. byte 2 (λ mlen. byte 3 (λ features. done (checked (record { magic = b0; access = access; mlen = mlen; features = features }))))) (byte_here 1 b1 (omega arith) (there 1 (omega arith)))
        (and_goes (λ mlen. byte 3 (λ features. done (checked (record { magic = b0; access = b1; mlen = mlen; features = features })))) (byte_here 2 b2 (omega arith) (there 2 (omega arith)))
        (and_goes (λ features. done (checked (record { magic = b0; access = b1; mlen = b2; features = features }))) (byte_here 3 (get_or bs 3 0) (omega arith) (there 3 (omega arith)))
        (asked_now Container l a (checked (record { magic = b0; access = b1; mlen = b2; features = get_or bs 3 0 })) r (er ∙ ap (λ x. stopped Container l.kept (checked x)) is)))))
