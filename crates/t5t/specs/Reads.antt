-- What a reading owes.
use Rattle.std.specs.Prelude.{◌≡◌, ℕ, ◌≤◌, ◌⊎◌, List, length, Ok, Err, Result}
use Rattle.space.specs.Space.{laid}
use Rattle.tag.specs.Means.{longest}
use Rattle.procedure.specs.Procedure.{Air, Performs}
use Rattle.t5t.specs.declared.reading.NotRead.{NotRead}
use Rattle.t5t.specs.declared.reading.Received.{Received}
use Rattle.t5t.specs.Detects.{TooShort, stop_of}
use Rattle.t5t.specs.Reading.{Break, reading}

-- the answer of the procedure, with the bytes that were got
abbrev pub outcome_by : Result Received NotRead → List ℕ → Result (List ℕ) Break
outcome_by (Ok x) got = Ok got
outcome_by (Err y) got = Err (record { stop = stop_of y.refusal; got = got })

abbrev pub length_of : Result Received NotRead → ℕ
length_of (Ok x) = x.length
length_of (Err y) = y.got

abbrev pub exchanges_of : Result Received NotRead → ℕ
exchanges_of (Ok x) = x.exchanges
exchanges_of (Err y) = y.refusal.exchanges

-- answer, air and exchanges are the procedure's; the bytes that were got, the message or those before a break, lie over the
-- front of the message space, whose rest is as it was
pub record Read (u unit end at : ℕ) (a b : Air) (space space' : List ℕ) (r : Result Received NotRead) : Type 0 where
  pub room : longest ≤ length a.space
  pub got : List ℕ
  pub performs : Performs (reading u unit end at (length space)) a b (outcome_by r got) 0 (exchanges_of r)
  pub left : space' ≡ laid got space
  pub long : length got ≡ length_of r

-- a short answer space is refused before all else
abbrev pub Unread : Air → Air → List ℕ → List ℕ → Result Received NotRead → Type 0
Unread a b space space' (Ok x) = ⊥
Unread a b space space' (Err y) = TooShort a b y.refusal × (y.got ≡ 0) × (space' ≡ space)

abbrev pub Reads : ℕ → ℕ → ℕ → ℕ → Air → Air → List ℕ → List ℕ → Result Received NotRead → Type 0
Reads u unit end at a b space space' r = Unread a b space space' r ⊎ Read u unit end at a b space space' r
