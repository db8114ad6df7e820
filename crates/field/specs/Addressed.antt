-- A frame for one tag, and the tags that stand aside.
use Rattle.std.specs.Prelude.{◌≡◌, ℕ, ◌≤◌, true, false, ◌⊎◌, List, ◌∷◌, ◌++◌, ◌≢◌}
use Rattle.std.specs.List.{AllByRecursion}
use Rattle.request.specs.Frame.{addressed, code_at, uid_at}
use Rattle.field.specs.declared.span.Span.{Span}
use Rattle.field.specs.declared.span.Span.TheVariants.{Endless, Left}
use Rattle.field.specs.Placed.{Placed}
use Rattle.field.specs.Span.{reaches}

-- a frame for the tag with a UID, that selects no tag
pub record AddressedTo (u : ℕ) (f : List ℕ) : Type 0 where
  pub addressed : addressed f ≡ true
  pub uid : uid_at f ≡ u
  pub selects-none : code_at f ≡ 0x25 → ⊥

-- a tag that such a frame does not concern: it has another UID, or is out of reach
abbrev pub Aside : ℕ → Placed → Type 0
Aside u p = (p.tag.uid ≢ u) ⊎ (reaches p.span ≡ false)

-- of the tags in the list, p alone has the UID, but for such as are out of reach
pub record Lone (u : ℕ) (ts : List Placed) (p : Placed) : Type 0 where
  pub front : List Placed
  pub back : List Placed
  pub whole : ts ≡ front ++ p ∷ back
  pub before : AllByRecursion (Aside u) front
  pub behind : AllByRecursion (Aside u) back

-- a span that is no longer than another
abbrev pub NoLonger : Span → Span → Type 0
NoLonger s Endless = Unit {0}
NoLonger Endless (Left n) = ⊥
NoLonger (Left m) (Left n) = m ≤ n
