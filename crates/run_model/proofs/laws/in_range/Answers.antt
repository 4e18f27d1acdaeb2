use Rattle.run_model.proofs.RunRanges.{run-range}
use Rattle.run_model.proofs.laws.in_range.Goals as goal

pub returns : goal.returns
returns c =
    let desk = c.ranges_are_kept.ensures in
    let step = c.step_in_range.ensures in
    let net = c.changes.ensures in
    run-range (record {
      near = c.neighbours.ensures.joined;
      ports = c.ports.ensures;
      distances = step.distance;
      parents = step.parent;
      ticks = desk.ticks;
      asks = desk.asks;
      leaves = desk.leaves;
      loans = desk.writes;
    }) (record {
      joined = net.joined;
      parted = net.parted;
      who_is_joined = net.who_is_joined;
      who_is_parted = net.who_is_parted;
      others_at_join = net.others_at_join;
      others_at_part = net.others_at_part;
    })
