-- A recorder: the bytes of the page, how long a file may be, how many bytes of the present one are
-- written, the instant of the entry noted last, the frames noted last, which file it is, whether
-- something has been noted since it began, and whether the record has stopped.
use Rattle.std.specs.Prelude.{ℕ, Bool, List}
use Rattle.flight_records.specs.Frames.{FramesView}
use Rattle.flight_recorder.specs.declared.recorder.Side.{Side}

pub record RecorderView : Type 0 where
  pub page : List ℕ
  pub size : ℕ
  pub written : ℕ
  pub last : ℕ
  pub frames : FramesView
  pub side : Side
  pub is_begun : Bool
  pub is_stopped : Bool
