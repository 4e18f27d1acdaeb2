use Rattle.std.proofs.Common.{◌≡◌, ◌<◌, ap, length, take, arith}
use Rattle.std.proofs.lemmas.List.{get_or-take, length-take}
use Rattle.node_core.specs.View.{site_in}
use Rattle.pace.specs.Plans.{no_sight}
use Rattle.node_loop.proofs.Sights.{is-node}
use Rattle.node_loop.proofs.run.NodeRun.plan.Goals as goal

pub returns : goal.returns
returns g c = record {
  ticks = rw c.outlook-outlook.ensures at c.plan.ensures.ticks;
  offers = λ w here has.
      let self = c.args.self.now in
      let site = site_in self.node in
      let sights = c.sights-sights.result in
      let node : w < site.ranges.nodes = is-node c.neighbours.ensures.joined self.net site.id w site self.wired has in
      let nodes : site.ranges.nodes ≡ self.net.nodes = ap (λ s. s.ranges.nodes) self.wired in
      let ports : length self.ports.items ≡ self.net.nodes = self.ports_are.0 in
      let count = c.len.ensures in
      let below : w < c.len.result = omega arith in
      let within : w < length (take c.len.result sights) = rw (length-take c.len.result sights) (omega arith) in
      rw (get_or-take c.len.result sights w no_sight below, c.sights-sights.ensures w here has, c.outlook-outlook.ensures, c.deref.ensures.value) at (c.plan.ensures.offers w within);
}

pub slice_bounds-sights-end : goal.slice_bounds-sights-end
slice_bounds-sights-end g c =
    let self = c.args.self.now in
    let count = c.len.ensures in
    let nodes = self.ports_are.0 in
    let few = self.ports_are.1 in
    omega arith

pub slice_bounds-plan-end : goal.slice_bounds-plan-end
slice_bounds-plan-end g c =
    let self = c.args.self.now in
    let count = c.len.ensures in
    let nodes = self.ports_are.0 in
    let few = self.ports_are.1 in
    rw (length-take c.len.result c.sights-sights.result) (omega arith)

pub plan-requires : goal.plan-requires
plan-requires g c =
    let self = c.args.self.now in
    let count = c.len.ensures in
    let nodes = self.ports_are.0 in
    let few = self.ports_are.1 in
    rw (length-take c.len.result c.sights-sights.result) (omega arith)
