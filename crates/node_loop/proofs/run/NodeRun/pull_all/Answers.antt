use Rattle.std.proofs.Common.{◌∙◌, ap, refl, subst}
use Rattle.node_connections.specs.Hearing.{Pulls}
use Rattle.node_loop.specs.Noting.{DidTake}
use Rattle.node_loop.proofs.Hearing.{heard-all}
use Rattle.node_loop.proofs.Noting.{noted-next, noted-start}
use Rattle.node_loop.proofs.Remembering.{remembers-join, remembers-same}
use Rattle.node_loop.proofs.run.NodeRun.pull_all.Goals as goal

pub loop-id-init : goal.loop-id-init
loop-id-init g c =
    let self = c.args.self.now in
    (noted-start (Pulls self.node.registers.ranges g.D.P.Pipe.gave g.D.P.Pipe.took g.D.P.Pipe.counts) self.node self.ports.items c.args.notes.now, refl, refl, refl, refl, remembers-same self.pace)

pub loop-id-preserved : goal.loop-id-preserved
loop-id-preserved g c =
    let self = c.args.self.now in
    let before = c.loop-id.invariant in
    let mid = c.loop-id.self in
    let new = c.pull.new.self in
    let same = ap (λ s. s.ranges) before.0.heard.takes.site in
    let rest = c.pull.ensures.rest in (
      noted-next (Pulls self.node.registers.ranges g.D.P.Pipe.gave g.D.P.Pipe.took g.D.P.Pipe.counts) self.node mid.node new.node self.ports.items mid.ports.items new.ports.items c.loop-id.id c.args.notes.now c.loop-id.notes c.pull.new.notes before.0
          (subst (λ x. DidTake (Pulls x g.D.P.Pipe.gave g.D.P.Pipe.took g.D.P.Pipe.counts) c.loop-id.id mid.node new.node mid.ports.items new.ports.items c.loop-id.notes c.pull.new.notes) same c.pull.ensures.takes),
      rest.0 ∙ before.1,
      rest.1 ∙ before.2,
      rest.2 ∙ before.3,
      rest.3 ∙ before.4,
      remembers-join self.pace mid.pace new.pace before.5 c.pull.ensures.pace,
    )

pub returns-clause-hears : goal.returns-clause-hears
returns-clause-hears g c =
    record {
      hears = heard-all g.D.P.Pipe.gave g.D.P.Pipe.took g.D.P.Pipe.counts c.args.self.now.node c.loop-id.self.node c.args.self.now.ports.items c.loop-id.self.ports.items c.loop-id.id c.loop-id.invariant.0.heard;
      noted = c.loop-id.invariant.0.noted;
    }
