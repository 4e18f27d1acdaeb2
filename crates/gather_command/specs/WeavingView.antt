-- What contracts see of a weaving: the gathering, with the world that the entries so far led to, the
-- nodes' records, and what was seen.
use Rattle.std.specs.Prelude.{List}
use Rattle.record_gathering.specs.View.{GatheringView}
use Rattle.gather_command.specs.View.{NodeRecordView}
use Rattle.gather_command.specs.Watch.{Seen}

pub record WeavingView : Type 0 where
  pub gathering : GatheringView
  pub records : List NodeRecordView
  pub seen : Seen
