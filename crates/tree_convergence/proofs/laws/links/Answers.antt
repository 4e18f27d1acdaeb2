use Rattle.tree_convergence.proofs.Links.{stay-stable, turn-stable, turn-stable_in_six, numbers-move}
use Rattle.run_model.specs.Links.{AreLinksStable}
use Rattle.run_model.proofs.Along.{kept, in_range}
use Rattle.tree_convergence.proofs.laws.links.Goals as goal

pub returns-clause-stay : goal.returns-clause-stay
returns-clause-stay c =
    let edges = c.edges.ensures in
    stay-stable c.runs.ensures.network edges.in_range edges.steps c.stays_stable.ensures.stays

pub returns-clause-turn : goal.returns-clause-turn
returns-clause-turn c =
    let edges = c.edges.ensures in
    turn-stable c.runs.ensures.network edges.in_range edges.runs edges.sweeps c.turns_stable.ensures.after_sweeps

pub returns-clause-stay_in_runs : goal.returns-clause-stay_in_runs
returns-clause-stay_in_runs c w es r u =
    let edges = c.edges.ensures in
    let stay = stay-stable c.runs.ensures.network edges.in_range edges.steps c.stays_stable.ensures.stays in
    kept (in_range c.in_range.ensures) AreLinksStable (λ x e now. stay x e now.0 now.1) w es (r, u)

pub returns-clause-turn_in_six : goal.returns-clause-turn_in_six
returns-clause-turn_in_six c =
    let edges = c.edges.ensures in
    turn-stable_in_six c.runs.ensures.network edges.in_range edges.runs edges.sweeps c.six_sweeps.ensures

pub returns-clause-numbers_move : goal.returns-clause-numbers_move
returns-clause-numbers_move c = numbers-move c.edges.ensures.sweeps c.sweeps.ensures.moves
