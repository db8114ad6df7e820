-- Bytes written one run behind the other. Assumes nothing.
use Rattle.std.proofs.Common.{◌≤◌, List, ℕ, ◌++◌, length, ◌∙◌}
use Rattle.composer.specs.declared.writer.Writer.{Writer}
use Rattle.composer.specs.Writer.{Writes}
use Rattle.space.proofs.Puts.{behind}

-- one run more
pub further : {a b c : Writer} {xs ys : List ℕ} → a.at ≤ length a.space.now → Writes a b xs → Writes b c ys → Writes a c (xs ++ ys)
further {a} {b} {c} {xs} {ys} h first then =
    let both = behind ys c.space.now c.at h (record { after = first.after; value = first.at }) then.after then.at in
    record {
      same_space = then.same_space ∙ first.same_space;
      after = both.after;
      at = both.value;
      room = then.room ∙ first.room;
    }
