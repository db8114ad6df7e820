-- What a record says, wherever it lies: its type name format, type, ID and payload.
use Rattle.std.specs.Prelude.{ℕ, List}
use Rattle.header.specs.declared.format.Format.{Format}

pub record Content : Type 0 where
  pub format : Format
  pub kind : List ℕ
  pub id : List ℕ
  pub payload : List ℕ
