-- A good description: a header can tell of what it says. Assumes nothing.
use Rattle.std.proofs.Common.{◌≡◌, ℕ, ◌+◌, ◌^◌, ◌<◌, ◌≤◌, true, ◌&&◌, leb, List, length, drop, ◌∙◌, arith, length-drop, length-take}
use Rattle.std.proofs.lemmas.Bool.{and_parts, leb-true}
use Rattle.composer.specs.declared.description.Description.{Description}
use Rattle.composer.specs.declared.description.Extent.{Extent}
use Rattle.composer.specs.Composing.{field_of, described, inside, tellable, sound}
use Rattle.header.specs.Format.{allows}
use Rattle.composer.proofs.ReadBack.{Tellable}

pub field_long : (store : List ℕ) (x : Extent) → inside store x ≡ true → length (field_of store x) ≡ x.len
field_long store x e =
    let h = leb-true (x.place + x.len) (length store) e in
    let a = length-take x.len (drop x.place store) in
    let b = length-drop x.place store in
    omega arith

-- the parts of being told by a header
pub record Told (d : Description) : Type 0 where
  pub kind : d.kind.len ≤ 255
  pub id : d.id.len ≤ 255
  pub allowed : allows d.format d.kind.len d.id.len d.payload.len ≡ true

pub told : (d : Description) → tellable d ≡ true → Told d
told d t =
    let lens = allows d.format d.kind.len d.id.len d.payload.len in
    let a = and_parts (leb d.kind.len 255 && leb d.id.len 255) lens t in
    let b = and_parts (leb d.kind.len 255) (leb d.id.len 255) a.0 in
    record { kind = leb-true d.kind.len 255 b.0; id = leb-true d.id.len 255 b.1; allowed = a.1 }

-- the parts of a good description
pub record Sound (store : List ℕ) (d : Description) : Type 0 where
  pub told_of : Told d
  pub kind : inside store d.kind ≡ true
  pub id : inside store d.id ≡ true
  pub payload : inside store d.payload ≡ true

pub sound_facts : (store : List ℕ) (d : Description) → sound store d ≡ true → Sound store d
sound_facts store d s =
    let k = inside store d.kind in
    let i = inside store d.id in
    let a = and_parts (tellable d && k && i) (inside store d.payload) s in
    let b = and_parts (tellable d && k) i a.0 in
    let e = and_parts (tellable d) k b.0 in
    record { told_of = told d e.0; kind = e.1; id = b.1; payload = a.1 }

-- what a good description says, a header can tell
pub description_told : (store : List ℕ) (d : Description) → sound store d ≡ true → length (described store d).payload < 2 ^ 32 → Tellable (described store d)
description_told store d s small =
    let facts = sound_facts store d s in
    let lk = field_long store d.kind facts.kind in
    let li = field_long store d.id facts.id in
    let lp = field_long store d.payload facts.payload in
    record { small = small; allowed = (λ j. allows d.format (lk j) (li j) (lp j)) ∙ facts.told_of.allowed }
