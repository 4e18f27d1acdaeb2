-- The frames that were noted last on the links of a node, by the neighbour's id: taken, and sent.
use Rattle.std.specs.Prelude.{List, Option}
use Rattle.topology.specs.declared.frame.Frame.{Frame}

pub record FramesView : Type 0 where
  pub taken : List (Option Frame)
  pub sent : List (Option Frame)
