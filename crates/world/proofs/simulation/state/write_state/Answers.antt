use Rattle.std.proofs.Common.{◌++◌, arith}
use Rattle.std.proofs.lemmas.Grind.{common_steps}
use Rattle.world.specs.StateText.{node_lines, link_lines, counts_line, sweeps_line}
use Rattle.judge.specs.configuration.ConfigurationView.{world_of}
use Rattle.world.proofs.Writing.{fails_on_the_way, then_beginning, beginning_of_more, writes_then}
use Rattle.world.proofs.simulation.state.write_state.Goals as goal

pub returns-in_err-write_links : goal.returns-in_err-write_links
returns-in_err-write_links g c =
    let w = world_of c.args.configuration.now in
    let later = counts_line w ++ sweeps_line w c.args.sweeps in
    let nodes = c.in_ok-write_nodes.ensures in
    let failed = c.in_err-write_links.ensures in
    fails_on_the_way c.from_residual-in_err-write_links.result (node_lines w ++ (link_lines w ++ later)) _ _ _ _ c.from_residual-in_err-write_links.ensures.0
    (then_beginning (node_lines w) (link_lines w ++ later) _ _ _ nodes.0 (beginning_of_more (link_lines w) later _ _ failed.0))
    (grind (arith, common_steps)) (grind (arith, common_steps))

pub returns-in_err-write_counts : goal.returns-in_err-write_counts
returns-in_err-write_counts g c =
    let w = world_of c.args.configuration.now in
    let later = sweeps_line w c.args.sweeps in
    let nodes = c.in_ok-write_nodes.ensures in
    let links = c.in_ok-write_links.ensures in
    let failed = c.in_err-write_counts.ensures in
    fails_on_the_way c.from_residual-in_err-write_counts.result (node_lines w ++ (link_lines w ++ (counts_line w ++ later))) _ _ _ _
    c.from_residual-in_err-write_counts.ensures.0
    (then_beginning (node_lines w) (link_lines w ++ (counts_line w ++ later)) _ _ _ nodes.0
    (then_beginning (link_lines w) (counts_line w ++ later) _ _ _ links.0 (beginning_of_more (counts_line w) later _ _ failed.0)))
    (grind (arith, common_steps)) (grind (arith, common_steps))

pub returns : goal.returns
returns g c =
    let w = world_of c.args.configuration.now in
    let nodes = c.in_ok-write_nodes.ensures in
    let links = c.in_ok-write_links.ensures in
    let counts = c.in_ok-write_counts.ensures in
    writes_then c.write_sweeps.result (node_lines w) (link_lines w ++ (counts_line w ++ sweeps_line w c.args.sweeps)) _ _ _ _ _ _ nodes.0 nodes.1
    (writes_then c.write_sweeps.result (link_lines w) (counts_line w ++ sweeps_line w c.args.sweeps) _ _ _ _ _ _ links.0 links.1
    (writes_then c.write_sweeps.result (counts_line w) (sweeps_line w c.args.sweeps) _ _ _ _ _ _ counts.0 counts.1 c.write_sweeps.ensures))
