use Rattle.std.proofs.Common.{◌∙◌, refl}
use Rattle.node_connections.proofs.Hearing.{wired-at, wired-join, wired-same}
use Rattle.node_loop.proofs.Remembering.{remembers-join, remembers-same}
use Rattle.node_loop.proofs.run.NodeRun.connect.Goals as goal

pub loop-id-init : goal.loop-id-init
loop-id-init g c = (refl, refl, refl, refl, wired-same c.args.self.now.ports.items, refl, remembers-same c.args.self.now.pace)

pub loop-id-preserved : goal.loop-id-preserved
loop-id-preserved g c =
    let before = c.loop-id.invariant in
    let done = c.connect_to.ensures in
    let mid = c.loop-id.self.ports.items in
    let new = c.connect_to.new.self.ports.items in (
      done.node ∙ before.0,
      done.rest.0 ∙ before.1,
      done.rest.1 ∙ before.2,
      done.rest.2 ∙ before.3,
      wired-join c.args.self.now.ports.items mid new before.4 (wired-at mid new c.loop-id.id done.wires),
      done.rest.3 ∙ before.5,
      remembers-join c.args.self.now.pace c.loop-id.self.pace c.connect_to.new.self.pace before.6 done.pace,
    )
