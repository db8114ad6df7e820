-- Procedures whose frames are all for one tag. Assumes nothing.
use Rattle.std.proofs.Common.{◌≡◌, ℕ, ◌+◌, List, [], ◌∷◌, map, sym, refl, ap, ◌∙◌, subst}
use Rattle.field.specs.Addressed.{AddressedTo, Lone}
use Rattle.field.specs.Exchange.{hears, heard_from, laid_all}
use Rattle.field.specs.Placed.{Placed, SoundAll}
use Rattle.field.proofs.Addressed.{lone_heard, lone_stays, sound_stays}
use Rattle.procedure.specs.Procedure.{reply_of, Procedure, answer, send, Air, stirred, Outcome, counted, perform, Sends, standing}

abbrev pub air : List Placed → List ℕ → Air
air ts s = record { tags = ts; space = s }

-- what a procedure over the list shares with the one over the single tag
pub record AsAlone {V : Type 0} (u : ℕ) (o l : Outcome V) : Type 0 where
  pub value : o.value ≡ l.value
  pub sent : o.sent ≡ l.sent
  pub space : o.air.space ≡ l.air.space
  pub tag : Placed
  pub only : l.air.tags ≡ tag ∷ []
  pub lone : Lone u o.air.tags tag

more : {V : Type 0} (u : ℕ) (o l : Outcome V) → AsAlone u o l → AsAlone u (counted o) (counted l)
more u o l x =
    record { value = x.value; sent = ap (λ n. n + 1) x.sent; space = x.space; tag = x.tag; only = x.only; lone = x.lone }

-- the UID occurs once: the procedure goes as it goes over that tag alone
pub alone : {V : Type 0} (u : ℕ) (p : Procedure V) → Sends (AddressedTo u) p → (ts : List Placed) (s : List ℕ) (t : Placed) → Lone u ts t → AsAlone u (perform p (air ts s)) (perform p (air (t ∷ []) s))
alone u (answer v) to ts s t l =
    record { value = refl; sent = refl; space = refl; tag = t; only = refl; lone = l }
alone u (send f on) to ts s t l =
    let same = lone_heard u f to.0 ts t l in
    let r = reply_of (heard_from f (t ∷ [])) in
    let back = sym same in
    let rest = alone u (on r) (to.1 r) (map (hears f) ts) (laid_all (heard_from f (t ∷ [])) s) (hears f t) (lone_stays u f to.0 ts t l) in
    subst (λ x. AsAlone u (counted (perform (on (reply_of x)) (air (map (hears f) ts) (laid_all x s)))) (perform (send f on) (air (t ∷ []) s))) back (more u _ _ rest)

-- a frame that no tag is changed by
abbrev pub Harmless : List ℕ → Type 0
Harmless f = (p : Placed) → (hears f p).tag ≡ p.tag

all_stand : (f : List ℕ) → Harmless f → (ts : List Placed) → standing (map (hears f) ts) ≡ standing ts
all_stand f h [] = refl
all_stand f h (p ∷ ps) = λ i. h p i ∷ all_stand f h ps i

-- a procedure of such frames leaves every tag with its bytes, locks and state
pub harmless : {V : Type 0} (p : Procedure V) → Sends Harmless p → (a : Air) → standing (perform p a).air.tags ≡ standing a.tags
harmless (answer v) h a = refl
harmless (send f on) h a =
    let r = reply_of (heard_from f a.tags) in
    harmless (on r) (h.1 r) (stirred f a) ∙ all_stand f h.0 a.tags

pub sound-after : {V : Type 0} (p : Procedure V) (a : Air) → SoundAll a.tags → SoundAll (perform p a).air.tags
sound-after (answer v) a s = s
sound-after (send f on) a s = sound-after (on (reply_of (heard_from f a.tags))) (stirred f a) (sound_stays f a.tags s)
