use Rattle.record_gathering.proofs.Replays.{parts-reached, taken-follows, sent-follows}
use Rattle.record_gathering.proofs.laws.replays_follow_records.Goals as goal

pub returns : goal.returns
returns c =
    let join = c.runs.ensures.join in
    let nodes = c.joined.ensures.nodes in
    record {
      parts = parts-reached join nodes;
      taken = taken-follows join nodes;
      sent = sent-follows join nodes;
    }
