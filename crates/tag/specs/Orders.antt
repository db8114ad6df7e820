-- What a frame asks of a tag with a UID, by the first rules, and what the tag makes of it.
use Rattle.std.specs.Prelude.{◌≡◌, ℕ, Bool, true, false, if◌then◌else◌, List, [], None, Ok}
use Rattle.request.specs.declared.frame.Frame.{Frame}
use Rattle.tag.specs.declared.order.BlockOrder.{BlockOrder}
use Rattle.tag.specs.declared.order.Order.{Order}
use Rattle.tag.specs.declared.order.Order.TheVariants.{Nothing, SelectAnother, Select, StayQuiet, ToEvery, ToSelected, ToThis}
use Rattle.request.specs.declared.state.State.TheVariants.{Selected, Quiet}
use Rattle.request.specs.Command.{command_of}
use Rattle.tag.specs.Rules.{Turn, silence, replies, released, deaf, blocks, heeds, turn}
use Rattle.tag.specs.Tag.{TagModel, with_state}

-- a command on blocks, where the tag heeds it
abbrev pub does_blocks : TagModel → BlockOrder → Turn
does_blocks t o = replies t (blocks t o.optioned o.body.now o.command)

abbrev pub does : TagModel → Order → Turn
does t Nothing = silence t
does t SelectAnother = silence (with_state t (released t.state))
does t Select = replies t (Ok (with_state t Selected, []))
does t StayQuiet = record { after = with_state t Quiet; says = None; carried = true }
does t (ToEvery o) = if deaf t.state false then silence t else does_blocks t o
does t (ToSelected o) = if deaf t.state true then silence t else does_blocks t o
does t (ToThis o) = does_blocks t o

-- the order of a frame's code
pub record IsOrderOf (x : Frame) (o : BlockOrder) : Type 0 where
  pub command : o.command ≡ command_of x.code
  pub optioned : o.optioned ≡ x.optioned
  pub body : o.body.now ≡ x.body.now

-- what a tag makes of a frame that it heeds
abbrev pub heeds_frame : TagModel → Bool → Frame → Turn
heeds_frame t this x = heeds t this x.length x.code x.optioned x.body.now

-- the order says what the rules make of the frame at every tag with that UID
abbrev pub Orders : List ℕ → ℕ → Order → Type 0
Orders f uid o = (t : TagModel) → t.uid ≡ uid → turn t f ≡ does t o
