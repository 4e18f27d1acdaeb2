use Rattle.std.proofs.Common.{arith}
use Rattle.std.proofs.lemmas.List.{length-take}
use Rattle.node_loop.proofs.run.NodeRun.rest.Goals as goal

pub slice_bounds-sights-end : goal.slice_bounds-sights-end
slice_bounds-sights-end g c =
    let self = c.args.self.now in
    let count = c.len.ensures in
    let nodes = self.ports_are.0 in
    let few = self.ports_are.1 in
    omega arith

pub slice_bounds-rest-end : goal.slice_bounds-rest-end
slice_bounds-rest-end g c =
    let self = c.args.self.now in
    let count = c.len.ensures in
    let nodes = self.ports_are.0 in
    let few = self.ports_are.1 in
    rw (length-take c.len.result c.sights-sights.result) (omega arith)

pub rest-requires : goal.rest-requires
rest-requires g c =
    let self = c.args.self.now in
    let count = c.len.ensures in
    let nodes = self.ports_are.0 in
    let few = self.ports_are.1 in
    rw (length-take c.len.result c.sights-sights.result) (omega arith)

pub returns-clause-longest : goal.returns-clause-longest
returns-clause-longest g c = omega (arith, c.rest.ensures.longest)
