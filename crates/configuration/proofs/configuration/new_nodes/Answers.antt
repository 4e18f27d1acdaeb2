use Rattle.std.proofs.Common.{rules, ◌≡◌, arith, subst}
use Rattle.configuration.proofs.NewNodes.{AreNew, new-more, new-states}
use Rattle.configuration.proofs.configuration.new_nodes.Goals as goal

pub loop-id-preserved : goal.loop-id-preserved
loop-id-preserved g c =
    rw c.in_ok-push.ensures.items (new-more c.args.net.now c.loop-id.nodes.items c.loop-id.id c.in_ok-new.field-0 c.loop-id.invariant c.in_ok-new.ensures.site c.in_ok-new.ensures.state)

pub returns-clause-states : goal.returns-clause-states
returns-clause-states g c =
    let last : c.loop-id.id ≡ c.args.net.now.nodes = search (rules, arith) in
    let all : AreNew c.args.net.now c.loop-id.nodes.items c.args.net.now.nodes = subst (λ k. AreNew c.args.net.now c.loop-id.nodes.items k) last c.loop-id.invariant in
    new-states c.args.net.now c.loop-id.nodes.items all
