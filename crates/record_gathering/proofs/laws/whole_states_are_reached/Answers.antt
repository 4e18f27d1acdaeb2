use Rattle.record_gathering.proofs.Whole.{state-reached, state-quiet, state-said}
use Rattle.record_gathering.proofs.laws.whole_states_are_reached.Goals as goal

pub returns : goal.returns
returns c =
    let join = c.runs.ensures.join in
    let nodes = c.joined.ensures.nodes in
    record {
      reached = λ w queue v network s range here. state-reached join c.in_range.ensures nodes v s w queue network range here;
      quiet = λ w queue v network s. state-quiet w v s queue network;
      said = λ w queue v network s range here. state-said join c.runs.ensures.undamaged_splits nodes w v s range here queue network;
    }
