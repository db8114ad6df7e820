-- The bytes of a frame.
use Rattle.std.specs.Prelude.{ℕ, List}
use Rattle.frames.specs.declared.frame.Frame.{Frame}
use Rattle.frames.specs.declared.frame.Frame.TheVariants.{OneByte, TwoBytes}

abbrev pub bytes_of : Frame → List ℕ
bytes_of (OneByte bytes) = bytes
bytes_of (TwoBytes bytes) = bytes
