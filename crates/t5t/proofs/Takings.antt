-- Parts of what is read of the TLVs, put together. Assumes nothing.
use Rattle.std.proofs.Common.{◌≡◌, Bool, true, false, cond, Ok, Err, Result, refl, ◌∙◌, subst, arith}
use Rattle.field.specs.declared.field.Field as Field
use Rattle.refusal.specs.declared.step.Step.TheVariants.{Walk}
use Rattle.shown.specs.Asks.{Asks, done, and_then}
use Rattle.shown.specs.declared.flaw.Flaw.{Flaw}
use Rattle.t5t.specs.Asking.{stopped}
use Rattle.t5t.specs.Calls.{air_in}
use Rattle.t5t.specs.declared.stop.Stop.{Stop}
use Rattle.t5t.specs.declared.tlvs.Tlvs.{Tlvs}
use Rattle.t5t.specs.Takes.{Takes}
use Rattle.t5t.proofs.Askings.{and_goes, and_stops, asked_now, asked_true, asked_false}
use Rattle.t5t.proofs.Calls.{same_then}

-- one part after the other
pub takes_goes : {F : Type 0} {G : Field.Ghosts F} {V W : Type 0} {x : Asks (Result V Flaw)} {t t' t'' : Tlvs F G} {v : V} {r : Result W Stop} (next : V → Asks (Result W Flaw)) → Takes x t t' (Ok v) → Takes (next v) t' t'' r → Takes (and_then x next) t t'' r
takes_goes next first second =
    let far = first.onward in
    let on = second.onward in
    record { asked = and_goes next first.asked second.asked; container = second.container ∙ first.container; air = same_then first.air second.air; call = second.call ∙ first.call; onward = omega arith }

-- the first part stops
pub takes_stops : {F : Type 0} {G : Field.Ghosts F} {V W : Type 0} {x : Asks (Result V Flaw)} {t t' : Tlvs F G} {s : Stop} (next : V → Asks (Result W Flaw)) (r : Result W Stop) → r ≡ Err s → Takes x t t' (Err s) → Takes (and_then x next) t t' r
takes_stops next r is first =
    record { asked = and_stops next r is first.asked; container = first.container; air = first.air; call = first.call; onward = first.onward }

-- what was read is made something of
pub takes_now : {F : Type 0} {G : Field.Ghosts F} {V : Type 0} (t : Tlvs F G) (x : Result V Flaw) (r : Result V Stop) → r ≡ stopped Walk t.call.now.link.kept x → Takes (done x) t t r
takes_now t x r is =
    record { asked = asked_now Walk t.call.now.link (air_in t.call.now) x r is; container = refl; air = record { field = refl; space = refl }; call = refl; onward = omega arith }

-- of two ways to go on, the one that is taken
pub takes_true : {F : Type 0} {G : Field.Ghosts F} {V : Type 0} {x : Asks (Result V Flaw)} {t t' : Tlvs F G} {r : Result V Stop} (b : Bool) (y : Asks (Result V Flaw)) → b ≡ true → Takes x t t' r → Takes (cond b x y) t t' r
takes_true b y is first =
    record { asked = asked_true b y is first.asked; container = first.container; air = first.air; call = first.call; onward = first.onward }

pub takes_false : {F : Type 0} {G : Field.Ghosts F} {V : Type 0} {y : Asks (Result V Flaw)} {t t' : Tlvs F G} {r : Result V Stop} (b : Bool) (x : Asks (Result V Flaw)) → b ≡ false → Takes y t t' r → Takes (cond b x y) t t' r
takes_false b x is first =
    record { asked = asked_false b x is first.asked; container = first.container; air = first.air; call = first.call; onward = first.onward }

-- the same by another name
pub takes_as : {F : Type 0} {G : Field.Ghosts F} {V : Type 0} {x y : Asks (Result V Flaw)} {t t' : Tlvs F G} {r : Result V Stop} → x ≡ y → Takes x t t' r → Takes y t t' r
takes_as {F} {G} {V} {x} {y} {t} {t'} {r} e first = subst (λ z. Takes z t t' r) e first
