-- The loop that lays the records, one behind the other. Assumes nothing.
use Rattle.std.proofs.Common.{◌≡◌, ℕ, ◌+◌, ◌^◌, ◌<◌, ◌≤◌, Bool, false, eqb, List, [], ◌++◌, length, None, Option, sym, ap, ◌∙◌, subst, arith}
use Rattle.std.proofs.lemmas.Bool.{ne_eqb}
use Rattle.composer.specs.declared.fields.Fields.{Fields}
use Rattle.header.specs.declared.refusal.RecordRefusal.{RecordRefusal}
use Rattle.composer.specs.declared.writer.Writer.{Writer}
use Rattle.composer.specs.Composing.{longest}
use Rattle.composer.specs.Fields.{content_of}
use Rattle.composer.specs.Message.{encoded, encoded_length, none, message_from, message}
use Rattle.composer.specs.Records.{Given}
use Rattle.composer.specs.Writer.{Writes}
use Rattle.ndef.specs.Content.{Content}
use Rattle.space.specs.Space.{laid}
use Rattle.space.proofs.Laying.{Laying, laying_more, laying_all, next_fits}
use Rattle.composer.proofs.Encoded.{encoded-length}

-- of the records cs, those before cs' are written, by a writer that stood at its start before
pub record Filled (cs : List Content) (before now : Writer) (cs' : List Content) (f' : Option RecordRefusal) : Type 0 where
  pub same_space : now.space.ghost_name ≡ before.space.ghost_name
  pub room : length now.space.now ≡ length before.space.now
  pub laying : Laying (message cs) before.space.now now.space.now now.at (message_from (eqb now.at 0) cs')
  pub good : f' ≡ None

-- the next fields go into a space that has room for the message
pub record Goes (x : Fields) (w : Writer) : Type 0 where
  pub small : length x.payload.now < 2 ^ 32
  pub room : w.at + encoded_length (content_of x) ≤ length w.space.now

module _ {cs : List Content} {before now : Writer} {cs' : List Content} {f' : Option RecordRefusal} (so_far : Filled cs before now cs' f') {cs'' : List Content} {f'' : Option RecordRefusal} {x : Fields} (gave : Given cs' f' cs'' f'' x) where
  bytes : List ℕ
  bytes = encoded (eqb now.at 0) (none cs'') (content_of x)

  opened : Laying (message cs) before.space.now now.space.now now.at (bytes ++ message_from false cs'')
  unfolding bytes
  opened =
      subst (Laying (message cs) before.space.now now.space.now now.at) (ap (message_from (eqb now.at 0)) gave.next) so_far.laying

  pub goes : length (message cs) ≤ longest → length (message cs) ≤ length before.space.now → Goes x now
  unfolding bytes
  goes few room =
      let long = encoded-length (eqb now.at 0) (none cs'') (content_of x) in
      let next = next_fits bytes _ opened in
      let same = so_far.room in
      record { small = omega arith; room = omega arith }

  pub filled_more : {last : Bool} {w : Writer} → last ≡ none cs'' → Writes now w (encoded (eqb now.at 0) last (content_of x)) → Filled cs before w cs'' f''
  unfolding bytes
  filled_more {last} {w} ends wrote =
      let long = encoded-length (eqb now.at 0) (none cs'') (content_of x) in
      let done = subst (λ b. Writes now w (encoded (eqb now.at 0) b (content_of x))) ends wrote in
      let moved = done.at in
      let later : false ≡ eqb w.at 0 = sym (ne_eqb w.at 0 (λ z. omega arith)) in
      let laying : Laying (message cs) before.space.now w.space.now w.at (message_from false cs'') = laying_more bytes _ w.space.now w.at done.after done.at opened in
      record {
        same_space = done.same_space ∙ so_far.same_space;
        room = done.room ∙ so_far.room;
        laying = subst (λ b. Laying (message cs) before.space.now w.space.now w.at (message_from b cs'')) later laying;
        good = sym gave.ends ∙ so_far.good;
      }

pub filled-all : {cs : List Content} {before now : Writer} {cs' : List Content} {f' : Option RecordRefusal} → cs' ≡ [] → Filled cs before now cs' f' → now.space.now ≡ laid (message cs) before.space.now
filled-all {cs} {before} {now} over filled =
    laying_all (subst (Laying (message cs) before.space.now now.space.now now.at) (ap (message_from (eqb now.at 0)) over) filled.laying)
