use Rattle.record_gathering.proofs.SetUps.{set-up-reached, edges-unchanged}
use Rattle.record_gathering.proofs.laws.set_ups_are_reached.Goals as goal

pub returns : goal.returns
returns c = record {
  reached = set-up-reached c.runs.ensures.join c.runs.ensures.frame c.in_range.ensures c.joined.ensures.nodes c.start.ensures;
  unchanged = edges-unchanged;
}
