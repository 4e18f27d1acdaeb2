use Rattle.std.proofs.Common.{◌≡◌, IfSome, false, slice_get, subst, sym}
use Rattle.node_connections.specs.LinkSights.{link_at}
use Rattle.node_connections.proofs.Loose.{loose-down}
use Rattle.node_loop.proofs.run.NodeRun.link.Goals as goal

pub returns-clause-strangers : goal.returns-clause-strangers
returns-clause-strangers g c none =
    let port = slice_get c.args.self.now.ports.items c.args.id in
    let is : c.link_at.result ≡ link_at port = rw c.deref.ensures.value at c.link_at.ensures in
    subst (λ x. IfSome x (λ sight. sight.is_up ≡ false)) (sym is) (loose-down port (c.args.self.now.strangers c.args.id none))
