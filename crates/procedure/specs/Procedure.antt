-- A call over a field, as a tree: what it sends, and what it makes of each reply.
use Rattle.std.specs.Prelude.{◌≡◌, ℕ, ◌+◌, List, [], ◌∷◌, map}
use Rattle.tag.specs.Tag.{TagModel}
use Rattle.field.specs.Exchange.{hears, heard_from, laid_all}
use Rattle.field.specs.Placed.{Placed}

-- what comes back of a frame
pub data Reply : Type 0 where
  silence : Reply
  one : List ℕ → Reply
  several : Reply

abbrev pub reply_of : List (List ℕ) → Reply
reply_of [] = silence
reply_of (a ∷ []) = one a
reply_of (a ∷ b ∷ more) = several

-- an answer at once, or a frame that is sent, and how it goes on with the reply
pub data Procedure (V : Type 0) : Type 0 where
  answer : V → Procedure V
  send : List ℕ → (Reply → Procedure V) → Procedure V

-- one procedure after the other
abbrev pub bind : {V W : Type 0} → Procedure V → (V → Procedure W) → Procedure W
bind (answer v) next = next v
bind (send f on) next = send f (λ r. bind (on r) next)

-- a field as its exchanges see it: the tags, and the answer space
pub record Air : Type 0 where
  pub tags : List Placed
  pub space : List ℕ

-- the tags as they stand: bytes, locks and states, whatever their spans
abbrev pub standing : List Placed → List TagModel
standing ts = map (λ p. p.tag) ts

-- the air after one frame
abbrev pub stirred : List ℕ → Air → Air
stirred f a = record { tags = map (hears f) a.tags; space = laid_all (heard_from f a.tags) a.space }

pub record Outcome (V : Type 0) : Type 0 where
  pub value : V
  pub air : Air
  pub sent : ℕ

-- with one frame more
abbrev pub counted : {V : Type 0} → Outcome V → Outcome V
counted o = record { value = o.value; air = o.air; sent = o.sent + 1 }

-- each frame is one exchange over the list of tags
abbrev pub perform : {V : Type 0} → Procedure V → Air → Outcome V
perform (answer v) a = record { value = v; air = a; sent = 0 }
perform (send f on) a = counted (perform (on (reply_of (heard_from f a.tags))) (stirred f a))

-- what a call over a field owes: its answer and the air are those of its procedure, and it has counted the frames, from n
-- on to m
pub record Performs {V : Type 0} (p : Procedure V) (a b : Air) (v : V) (n m : ℕ) : Type 0 where
  pub value : v ≡ (perform p a).value
  pub air : b ≡ (perform p a).air
  pub sent : m ≡ n + (perform p a).sent

-- every frame that a procedure can send is such a frame
abbrev pub Sends : {V : Type 0} → (List ℕ → Type 0) → Procedure V → Type 0
Sends such (answer v) = Unit {0}
Sends such (send f on) = such f × ((r : Reply) → Sends such (on r))
