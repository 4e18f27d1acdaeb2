use Rattle.run_model.proofs.Steps.{refused-stays}
use Rattle.run_model.proofs.Runs.{run-network, run-frame, runs-join, undamaged-joins, undamaged-splits}
use Rattle.run_model.proofs.laws.runs.Goals as goal

pub returns : goal.returns
returns c = record {
  refused = refused-stays;
  network = run-network;
  frame = run-frame;
  join = runs-join;
  undamaged_joins = undamaged-joins;
  undamaged_splits = undamaged-splits;
}
