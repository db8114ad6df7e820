-- A part of what is read of the TLVs.
use Rattle.std.specs.Prelude.{◌≡◌, ◌≤◌, Result}
use Rattle.field.specs.declared.field.Field as Field
use Rattle.shown.specs.Asks.{Asks}
use Rattle.shown.specs.declared.flaw.Flaw.{Flaw}
use Rattle.refusal.specs.declared.step.Step.TheVariants.{Walk}
use Rattle.t5t.specs.Asking.{Asked}
use Rattle.t5t.specs.Calls.{air_in, SameAir}
use Rattle.t5t.specs.declared.stop.Stop.{Stop}
use Rattle.t5t.specs.declared.tlvs.Tlvs.{Tlvs}

-- what it asks for; the call, its air and the container stay
pub record Takes {F : Type 0} {G : Field.Ghosts F} {V : Type 0} (asks : Asks (Result V Flaw)) (t t' : Tlvs F G) (r : Result V Stop) : Type 0 where
  pub asked : Asked Walk asks t.call.now.link t'.call.now.link (air_in t.call.now) (air_in t'.call.now) r
  pub container : t'.container ≡ t.container
  pub air : SameAir t.call.now t'.call.now
  pub call : t'.call.ghost_name ≡ t.call.ghost_name
  pub onward : t.at ≤ t'.at
