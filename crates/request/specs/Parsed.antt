-- The code's frame, as the parts of the bytes that it was read from.
use Rattle.std.specs.Prelude.{◌≡◌, ℕ, true, if◌then◌else◌, List, length}
use Rattle.request.specs.declared.frame.Frame.{Frame}
use Rattle.request.specs.declared.frame.Reach.{Reach}
use Rattle.request.specs.declared.frame.Reach.TheVariants.{Every, TheSelected, One}
use Rattle.request.specs.Frame.{code_at, optioned, addressed, selective, intact, uid_at, body_of}

-- whom a frame is for
abbrev pub reach_of : List ℕ → Reach
reach_of f = if addressed f then One (record { 0 = uid_at f }) else if selective f then TheSelected else Every

pub record Parsed (f : List ℕ) (x : Frame) : Type 0 where
  pub intact : intact f ≡ true
  pub reach : x.reach ≡ reach_of f
  pub optioned : x.optioned ≡ optioned f
  pub code : x.code ≡ code_at f
  pub body : x.body.now ≡ body_of f
  pub long : x.length ≡ length f
