use Rattle.std.proofs.Common.{◌≡◌, length, take}
use Rattle.topology.specs.Network.{are_joined}
use Rattle.judge.specs.configuration.LinksView.{under_way}
use Rattle.thread_net.specs.Tables.{rows_in}
use Rattle.thread_net.proofs.Settling.{IsSettling}
use Rattle.thread_net.proofs.settle.settle_all.Given as goal

abbrev pub invariant-loop-index : goal.invariant-loop-index
invariant-loop-index g l =
    (l.links.net ≡ l.fn.links.net)
    × (l.links.spares ≡ l.fn.links.spares)
    × (length l.rows.items ≡ length l.fn.rows.items)
    × IsSettling l.fn.links.net (are_joined (take l.index l.fn.links.net.edges)) (rows_in l.fn.rows.items) (rows_in l.rows.items) (under_way l.fn.links) (under_way l.links)
