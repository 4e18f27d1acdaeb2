use Rattle.tree_convergence.proofs.Links.{staged-present, copy-staged, turn-fresh, staged-fresh, copy-turns}
use Rattle.tree_convergence.proofs.laws.payloads.Goals as goal

pub returns-clause-staged : goal.returns-clause-staged
returns-clause-staged c = staged-present c.edges.ensures.steps c.payloads.ensures.staged

pub returns-clause-copied : goal.returns-clause-copied
returns-clause-copied c = copy-staged c.edges.ensures.in_range c.edges.ensures.steps c.payloads.ensures.copy

pub returns-clause-turn_fresh : goal.returns-clause-turn_fresh
returns-clause-turn_fresh c =
    let edges = c.edges.ensures in
    turn-fresh edges.in_range edges.runs edges.sweeps c.payloads.ensures.three_sweeps

pub returns-clause-staged_turns : goal.returns-clause-staged_turns
returns-clause-staged_turns c =
    staged-fresh c.edges.ensures.runs c.edges.ensures.sweeps c.sweeps.ensures.moves c.payloads.ensures.move_refreshes

pub returns-clause-copy_turns : goal.returns-clause-copy_turns
returns-clause-copy_turns c =
    let edges = c.edges.ensures in
    copy-turns c.runs.ensures.network c.in_range.ensures edges.steps c.joined.ensures.back edges.in_range edges.runs edges.renewed c.payloads.ensures.sweep_copies
