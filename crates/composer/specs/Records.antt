-- Records that are handed out one after the other, and the message of them all.
use Rattle.std.specs.Prelude.{◌≡◌, ℕ, ◌<◌, ◌≤◌, if◌then◌else◌, List, [], ◌∷◌, length, Some, None, Ok, Err, Option, Result}
use Rattle.composer.specs.declared.fields.Fields.{Fields}
use Rattle.header.specs.declared.refusal.RecordRefusal.{RecordRefusal}
use Rattle.header.specs.declared.refusal.RecordRefusal.TheVariants.{SpaceShort, BadHeader, BadDescription}
use Rattle.composer.specs.Composing.{fitted, longest}
use Rattle.composer.specs.Fields.{content_of}
use Rattle.composer.specs.Message.{none, message}
use Rattle.ndef.specs.Content.{Content}

-- the refusal of the first bad description, and that of a bad header
abbrev pub bad_description : Option ℕ → Option RecordRefusal
bad_description (Some i) = Some (BadDescription i)
bad_description None = None

abbrev pub bad_header : Option ℕ → Option RecordRefusal
bad_header (Some p) = Some (BadHeader p)
bad_header None = None

-- Below, the records cs are left before a call, and break off in the refusal f, if there is one; cs' and f' are those after
-- it.

-- the first of them was handed out
pub record Given (cs : List Content) (f : Option RecordRefusal) (cs' : List Content) (f' : Option RecordRefusal) (x : Fields) : Type 0 where
  pub next : cs ≡ content_of x ∷ cs'
  pub ends : f ≡ f'

-- at their end there is none, and where they break off the refusal
abbrev pub Gives : List Content → Option RecordRefusal → List Content → Option RecordRefusal → Result (Option Fields) RecordRefusal → Type 0
Gives cs f cs' f' (Ok (Some x)) = Given cs f cs' f' x
Gives cs f cs' f' (Ok None) = (cs ≡ []) × (f ≡ None)
Gives cs f cs' f' (Err e) = f ≡ Some e

-- the answer for the message of these records and a space of so many bytes: where they break off that refusal, before all
-- else, then none at all is refused
abbrev pub fit : Option RecordRefusal → List Content → ℕ → Result ℕ RecordRefusal
fit (Some e) cs room = Err e
fit None cs room = if none cs then Err (BadDescription 0) else fitted (message cs) room

-- the records are good, and make a message of n bytes, which is not too long: a shorter space is refused, and else it is laid
pub record Sized (f : Option RecordRefusal) (cs : List Content) (n : ℕ) : Type 0 where
  pub good : f ≡ None
  pub is : n ≡ length (message cs)
  pub few : n ≤ longest
  pub short : (room : ℕ) → room < n → fit f cs room ≡ Err SpaceShort
  pub enough : (room : ℕ) → n ≤ room → fit f cs room ≡ Ok n

-- a refusal stands whatever the space is
abbrev pub Totals : Option RecordRefusal → List Content → Result ℕ RecordRefusal → Type 0
Totals f cs (Ok n) = Sized f cs n
Totals f cs (Err e) = (room : ℕ) → fit f cs room ≡ Err e
