-- What copying a value owes.
use Rattle.std.specs.Prelude.{◌≡◌, ℕ, List, [], length, Ok, Err, Result}
use Rattle.memory.specs.BlockLength.{bytes_of}
use Rattle.space.specs.Space.{laid}
use Rattle.procedure.specs.Procedure.{Air, Performs}
use Rattle.shown.specs.declared.value.Value.{Value}
use Rattle.t5t.specs.declared.copying.Broken.{Broken}
use Rattle.t5t.specs.declared.link.Link.{Link}
use Rattle.t5t.specs.Reading.{Break, copying, reading_from}

-- the answer of the procedure, with the bytes that were got
abbrev pub got_by : Result (Unit {0}) Broken → List ℕ → Result (List ℕ) Break
got_by (Ok u) got = Ok got
got_by (Err e) got = Err (record { stop = e.stop; got = got })

-- how many they are: all, or as many as it says
abbrev pub count_by : Result (Unit {0}) Broken → ℕ → ℕ
count_by (Ok u) n = n
count_by (Err e) n = e.got

-- they lie over the front of the message space
pub record Copied (v : Value) (l l' : Link) (a b : Air) (space space' : List ℕ) (r : Result (Unit {0}) Broken) : Type 0 where
  pub got : List ℕ
  pub performs : Performs (copying v.long l.uid.0 (bytes_of l.unit) l.kept v.at v.long []) a b (got_by r got) l.exchanges l'.exchanges
  pub left : space' ≡ laid got space
  pub long : length got ≡ count_by r v.long

-- the same of a whole reading, whose answer is the length of the message
abbrev pub read_by : Result ℕ Broken → List ℕ → Result (List ℕ) Break
read_by (Ok n) got = Ok got
read_by (Err e) got = Err (record { stop = e.stop; got = got })

abbrev pub length_by : Result ℕ Broken → ℕ
length_by (Ok n) = n
length_by (Err e) = e.got

pub record MessageRead (end at : ℕ) (l l' : Link) (a b : Air) (space space' : List ℕ) (r : Result ℕ Broken) : Type 0 where
  pub got : List ℕ
  pub performs : Performs (reading_from l.kept l.uid.0 (bytes_of l.unit) end at (length space)) a b (read_by r got) l.exchanges l'.exchanges
  pub left : space' ≡ laid got space
  pub long : length got ≡ length_by r
