use Rattle.std.proofs.Common.{◌∙◌, refl}
use Rattle.node_connections.proofs.Hearing.{wired-at, wired-join, wired-same}
use Rattle.node_loop.proofs.Remembering.{remembers-join, remembers-same}
use Rattle.node_loop.proofs.run.NodeRun.hear_hellos.Goals.{in-Some, in_default}
use Rattle.node_loop.proofs.run.NodeRun.hear_hellos.Goals as goal

pub loop-place-init : goal.loop-place-init
loop-place-init g c = (refl, refl, refl, refl, wired-same c.args.self.now.ports.items, refl, remembers-same c.args.self.now.pace)

pub loop-place-preserved : goal.loop-place-preserved
loop-place-preserved g c =
    let before = c.loop-place.invariant in
    let start = c.args.self.now.ports.items in
    let mid = c.loop-place.self.ports.items in
    elim c.match-listen.branch [
      | in-Some w ↦ (
          let new = w.welcome.new.self in
          let done = w.welcome.ensures in
          rw w.self-is (
            done.node ∙ before.0,
            done.rest.0 ∙ before.1,
            done.rest.1 ∙ before.2,
            done.rest.2 ∙ before.3,
            wired-join start mid new.ports.items before.4 (wired-at mid new.ports.items w.in-Some.id done.wires),
            done.rest.3 ∙ before.5,
            remembers-join c.args.self.now.pace c.loop-place.self.pace new.pace before.6 done.pace,
          ))
      | in_default w ↦ rw w.self-is before
    ]
