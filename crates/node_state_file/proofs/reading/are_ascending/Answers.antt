use Rattle.std.proofs.Common.{rules, ◌≤◌, ◌-◌, ◌∙◌, suc, sym, length}
use Rattle.node_state_file.proofs.Ascending.{few_ascend}
use Rattle.node_state_file.proofs.reading.are_ascending.Goals as goal

pub returns : goal.returns
returns c =
    let done : length c.args.ports.now ≤ suc (c.loop-at.at - 1) = search rules in
    sym (c.loop-at.invariant.1 ∙ few_ascend c.args.ports.now (c.loop-at.at - 1) done)
