-- What is written into a space that the caller lends.
use Rattle.std.specs.Prelude.{◌≡◌, ℕ, ◌+◌, List, length}
use Rattle.composer.specs.declared.writer.Writer.{Writer}
use Rattle.space.specs.Space.{put}

-- the bytes lie behind those that were written before; the space is the same one
pub record Writes (old new : Writer) (bs : List ℕ) : Type 0 where
  pub same_space : new.space.ghost_name ≡ old.space.ghost_name
  pub after : new.space.now ≡ put old.space.now old.at bs
  pub at : new.at ≡ old.at + length bs
  pub room : length new.space.now ≡ length old.space.now
