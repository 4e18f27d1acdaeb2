-- Small examples of services for what is heard from clients, and some that look like them and are none.
use Rattle.std.proofs.Common.{◌≡◌, ◌∙◌, ℕ, List, Option, Some, codes, sym, []}
use Rattle.slab.specs.Slab.{get}
use Rattle.node_core.specs.View.{NodeView, state_of}
use Rattle.node_connections.specs.socket_links.Counts.{Counts}
use Rattle.node_connections.specs.declared.clients.Client.{Client}
use Rattle.node_connections.specs.declared.clients.Clients.{Clients}
use Rattle.node_service.specs.Deeds.{Became, IsOfClient}
use Rattle.node_connections.specs.Heard.{HasNewReader}
use Rattle.node_loop.specs.Said.{HasAnswered}
use Rattle.node_service.specs.Services.{lines_of}
use Rattle.node_connections.proofs.RowsHeard.{heard-lock}
use Rattle.node_service.proofs.RowsHeard.{asked-lines, asks-none}

-- a client that said `lock` to a node that does nothing was not answered
answered_not-nothing : {P A : Type 0} (gave took : P → Option (List ℕ)) (counts : P → Counts) (old new : Clients P A) (a b : Client P) {x y : NodeView} (serves : Became IsOfClient x y)
    → (f : HasAnswered gave took counts serves old new) → get f.came.table 3 ≡ Some a → get new.table 3 ≡ Some b → HasNewReader (Some a) → gave a.pipe ≡ Some [] → gave b.pipe ≡ Some (codes "lock\n")
    → serves.deeds ≡ [] → ⊥
answered_not-nothing gave took counts old new a b {x} serves f was is fresh before after none =
    asks-none f.services (state_of x) (sym f.deeds_are ∙ none)
    (heard-lock gave took counts f.came new a b was is fresh before after (asked-lines (lines_of 3 f.services (state_of x))) (f.heard 3))
