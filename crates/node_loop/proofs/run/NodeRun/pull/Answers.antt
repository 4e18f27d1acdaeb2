use Rattle.std.specs.Prelude.{IsTrue}
use Rattle.std.proofs.Common.{◌∙◌, ap, refl, rules, subst}
use Rattle.node_connections.specs.Hearing.{Comes, Pulls}
use Rattle.node_loop.specs.Noting.{DidTake}
use Rattle.node_loop.proofs.Hearing.{takes-none, takes-end}
use Rattle.node_connections.proofs.Hearing.{comes-none, comes-join, comes-then}
use Rattle.node_loop.proofs.Noting.{take-join}
use Rattle.node_loop.proofs.Remembering.{remembers-join, remembers-same}
use Rattle.node_loop.proofs.run.NodeRun.pull.Goals as goal

pub loop-init : goal.loop-init
loop-init g c =
    let self = c.args.self.now in
    let r = self.node.registers.ranges in (
      record { takes = takes-none (Comes r g.D.P.Pipe.gave g.D.P.Pipe.took) (comes-none r g.D.P.Pipe.gave g.D.P.Pipe.took g.D.P.Pipe.counts) c.args.id self.node self.ports.items; noted = refl },
      refl,
      refl,
      refl,
      refl,
      remembers-same self.pace,
    )

pub loop-preserved : goal.loop-preserved
loop-preserved g c =
    let self = c.args.self.now in
    let r = self.node.registers.ranges in
    let comes = Comes r g.D.P.Pipe.gave g.D.P.Pipe.took in
    let before = c.loop.invariant in
    let mid = c.loop.self in
    let new = c.pull_one.new.self in
    let same = ap (λ s. s.ranges) before.0.takes.takes.site in
    let more : IsTrue c.pull_one.result = search rules in
    let rest = c.pull_one.ensures.rest in (
      take-join comes comes comes (comes-join r g.D.P.Pipe.gave g.D.P.Pipe.took g.D.P.Pipe.counts) c.args.id self.node mid.node new.node self.ports.items mid.ports.items new.ports.items c.args.notes.now c.loop.notes c.pull_one.new.notes before.0
          (subst (λ x. DidTake (Comes x g.D.P.Pipe.gave g.D.P.Pipe.took) c.args.id mid.node new.node mid.ports.items new.ports.items c.loop.notes c.pull_one.new.notes) same (c.pull_one.ensures.came more)),
      rest.0 ∙ before.1,
      rest.1 ∙ before.2,
      rest.2 ∙ before.3,
      rest.3 ∙ before.4,
      remembers-join self.pace mid.pace new.pace before.5 c.pull_one.ensures.pace,
    )

pub returns-then-not-pull_one-clause-takes : goal.returns-then-not-pull_one-clause-takes
returns-then-not-pull_one-clause-takes g c =
    let self = c.args.self.now in
    let r = self.node.registers.ranges in
    let comes = Comes r g.D.P.Pipe.gave g.D.P.Pipe.took in
    let pulls = Pulls r g.D.P.Pipe.gave g.D.P.Pipe.took g.D.P.Pipe.counts in
    let before = c.loop.invariant in
    let mid = c.loop.self in
    let new = c.pull_one.new.self in
    let same = ap (λ s. s.ranges) before.0.takes.takes.site in
    take-join comes pulls pulls (comes-then r g.D.P.Pipe.gave g.D.P.Pipe.took g.D.P.Pipe.counts) c.args.id self.node mid.node new.node self.ports.items mid.ports.items new.ports.items c.args.notes.now c.loop.notes c.pull_one.new.notes before.0
    (subst (λ x. DidTake (Pulls x g.D.P.Pipe.gave g.D.P.Pipe.took g.D.P.Pipe.counts) c.args.id mid.node new.node mid.ports.items new.ports.items c.loop.notes c.pull_one.new.notes) same (c.pull_one.ensures.ended c.if-not-pull_one.true))

pub returns-clause-takes : goal.returns-clause-takes
returns-clause-takes g c =
    let r = c.args.self.now.node.registers.ranges in
    record {
      takes = takes-end r g.D.P.Pipe.gave g.D.P.Pipe.took g.D.P.Pipe.counts c.args.id c.args.self.now.node c.loop.self.node c.args.self.now.ports.items c.loop.self.ports.items c.loop.invariant.0.takes;
      noted = c.loop.invariant.0.noted;
    }
