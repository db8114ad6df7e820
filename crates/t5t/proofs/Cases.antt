-- Known cases, worked out by the definitions. Assumes nothing.
use Rattle.std.proofs.Common.{◌≡◌, ℕ, true, false, List, [], ◌∷◌, Some, None, Ok, Err, refl}
use Rattle.memory.specs.Model.{Model}
use Rattle.request.specs.declared.state.State.{State}
use Rattle.request.specs.declared.state.State.TheVariants.{Ready, Quiet}
use Rattle.tag.specs.Rules.{turn}
use Rattle.tag.specs.Tag.{TagModel}
use Rattle.shown.specs.declared.flaw.Flaw.TheVariants.{TooLong, Malformed}
use Rattle.shown.specs.Asks.{over}
use Rattle.shown.specs.Container.{container, container_of}
use Rattle.shown.specs.Shown.{shown}
use Rattle.shown.specs.Walk.{length_field}

-- the tag of twelve bytes: its message is AAh BBh, and FEh follows
abbrev twelve : List ℕ
twelve = 0xE1 ∷ 0x40 ∷ 0x01 ∷ 0x08 ∷ 0x03 ∷ 0x02 ∷ 0xAA ∷ 0xBB ∷ 0xFE ∷ 0x00 ∷ 0x00 ∷ 0x00 ∷ []

abbrev memory : Model
memory = record { unit = 4; bytes = twelve; locks = false ∷ false ∷ false ∷ [] }

abbrev tag : State → TagModel
tag s = record { memory = memory; uid = 1; state = s; marks = record { wide = false; multi = false; lockable = true; special = false } }

-- a container of eight bytes
abbrev eight : ℕ → List ℕ
eight magic = magic ∷ 0x40 ∷ 0x00 ∷ 0x01 ∷ 0x00 ∷ 0x00 ∷ 0x03 ∷ 0xFF ∷ []

pub cases :
    -- a container of four bytes
    (over (0xE1 ∷ 0x40 ∷ 0x20 ∷ 0x00 ∷ []) (container 4) ≡ Some (Ok (container_of (record { magic = 0xE1; access = 0x40; mlen = 0x20; features = 0x00 }) false 0x20))) ×
    -- of eight: its end is 8,192, which 256 blocks of 32 bytes reach, and of 16 do not; 65,536 blocks of 4 do
    (over (eight 0xE1) (container 32) ≡ Some (Ok (record { header = record { magic = 0xE1; access = 0x40; mlen = 0x00; features = 0x01 }; begin = 8; end = 8192 }))) ×
    (over (eight 0xE1) (container 16) ≡ Some (Err TooLong)) ×
    (over (eight 0xE2) (container 4) ≡ Some (Ok (record { header = record { magic = 0xE2; access = 0x40; mlen = 0x00; features = 0x01 }; begin = 8; end = 8192 }))) ×
    -- a length in three bytes: empty, and none
    (over (0x03 ∷ 0xFF ∷ 0x00 ∷ 0x00 ∷ []) (length_field 4 0) ≡ Some (Ok (record { at = 4; long = 0 }))) ×
    (over (0x03 ∷ 0xFF ∷ 0xFF ∷ 0xFF ∷ []) (length_field 4 0) ≡ Some (Err Malformed)) ×
    -- the tag of twelve bytes
    (shown memory ≡ Some (0xAA ∷ 0xBB ∷ [])) ×
    ((turn (tag Ready) (0x02 ∷ 0x20 ∷ 0x00 ∷ [])).says ≡ Some (0x00 ∷ 0xE1 ∷ 0x40 ∷ 0x01 ∷ 0x08 ∷ [])) ×
    ((turn (tag Ready) (0x42 ∷ 0x20 ∷ 0x00 ∷ [])).says ≡ Some (0x00 ∷ 0x00 ∷ 0xE1 ∷ 0x40 ∷ 0x01 ∷ 0x08 ∷ [])) ×
    ((turn (tag Ready) (0x02 ∷ 0x20 ∷ 0x03 ∷ [])).says ≡ Some (0x01 ∷ 0x10 ∷ [])) ×
    ((turn (tag Quiet) (0x02 ∷ 0x20 ∷ 0x00 ∷ [])).says ≡ None)
unfolding turn
cases = (refl, refl, refl, refl, refl, refl, refl, refl, refl, refl, refl)
