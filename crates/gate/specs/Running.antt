-- What each command does with the tags, and with the sessions.
use Rattle.std.specs.Prelude.{◌≡◌}
use Rattle.memory.specs.BlockLength.{listed}
use Rattle.memory.specs.Model.{with_lock}
use Rattle.gate.specs.declared.answer.Answer.{Answer}
use Rattle.gate.specs.declared.answer.Answer.TheVariants.{BytesPut, Locked, SpanSet}
use Rattle.gate.specs.declared.command.Command.{Command}
use Rattle.gate.specs.declared.command.Command.TheVariants as command
use Rattle.gate.specs.declared.rehearsal.Rehearsal.{Rehearsal}
use Rattle.gate.specs.Adding.{Adding}
use Rattle.gate.specs.Detecting.{Detecting}
use Rattle.gate.specs.Hearings.{Hearing}
use Rattle.gate.specs.Preparing.{bytes_put, remade}
use Rattle.gate.specs.Receiving.{Receiving}
use Rattle.gate.specs.Rehearsals.{SameSessions, Still}
use Rattle.gate.specs.Tagged.{placed, spanned}

abbrev pub Runs : Command → Rehearsal → Rehearsal → Answer → Type 0
Runs (command.House walk text) old new a = Still old new
Runs (command.Record fields) old new a = Still old new
Runs (command.Compose room) old new a = Still old new
Runs (command.Message message) old new a = Still old new
Runs (command.Recompose room) old new a = Still old new
Runs command.Records old new a = Still old new
Runs command.Show old new a = Still old new
Runs (command.Tag unit tag) old new a = SameSessions old new × Adding tag (listed unit) old.tags new.tags a
Runs (command.Bytes uid address bytes) old new a =
    SameSessions old new × (a ≡ BytesPut uid address) × (placed new.tags ≡ remade uid.0 (bytes_put address bytes.items) (placed old.tags))
Runs (command.Lock uid block) old new a =
    SameSessions old new × (a ≡ Locked uid block) × (placed new.tags ≡ remade uid.0 (λ m. with_lock m block) (placed old.tags))
Runs (command.Span uid span) old new a =
    SameSessions old new × (a ≡ SpanSet uid span) × (new.tags.rack.slots.items ≡ spanned uid.0 span old.tags.rack.slots.items)
Runs (command.Frame frame) old new a = SameSessions old new × Hearing old.tags new.tags frame.items a
Runs (command.Dump uid) old new a = Still old new
Runs (command.Detect uid) old new a = Detecting uid.0 old new a
Runs (command.Read session room) old new a = Receiving session room old new a
