-- Nodes that run are processes.
use Rattle.std.proofs.Common.{◌≡◌, ◌⊎◌, ◌<◌, ◌≤◌, ℕ, Bool, true, false, List, [], Option, Contains, IsTrue, refl, inl, inr, sym, subst, ◌∙◌, arith}
use Rattle.std.proofs.lemmas.Bool.{cases_lt}
use Rattle.topology.specs.Network.{are_joined, neighbours_of}
use Rattle.topology.specs.Laws.{JoinedAreNodes, JoinedBack, NeighboursAreJoined}
use Rattle.topology.specs.Ranges.{ranges_of}
use Rattle.node_core.specs.Site.{site_of}
use Rattle.node_core.specs.View.{state_of}
use Rattle.run_model.specs.World.{World, IsWorldInRange}
use Rattle.socket_links.specs.Counts.{Counts}
use Rattle.node_core.specs.Deeds.{Leads, taken_from, sent_to}
use Rattle.processes.specs.Accounts.{Timed, deeds}
use Rattle.processes.specs.Laws.{BytesKeepPromise}
use Rattle.processes.specs.Links.{accepts_in, gives_in}
use Rattle.processes.specs.Together.{AreProcessesOverBytes, Wires}
use Rattle.running_nodes.specs.Laws.{NodeRunsAreProcesses, NodeRunsKeepPromise}
use Rattle.running_nodes.specs.Pipes.{Ends}
use Rattle.running_nodes.specs.Running.{AreConnections, AreNodeRuns, ArePipes, Runs}
use Rattle.running_nodes.specs.Stood.{Stood, PortWas, StartsAt}
use Rattle.running_nodes.specs.Stretches.{all_deeds}
use Rattle.running_nodes.proofs.Joining.{pipes-are-bytes}
use Rattle.running_nodes.proofs.Turning.{turns-go, turns-lead}

module _ {P : Type 0} (gave took : P → Option (List ℕ)) (counts : P → Counts) (nodes : JoinedAreNodes) (neighbours : NeighboursAreJoined) (back : JoinedBack) where
  module _ (w last : World) (runs : Runs P) (account : ℕ → List Timed) (range : IsWorldInRange w) (are : AreNodeRuns gave took counts w runs account last) where
    -- the connections of a port, as its turns have them
    of-port : (u v : ℕ) → IsTrue (are_joined w.net.edges u v)
        → (cs : List (Stood P)) × PortWas (ranges_of w.net) gave took (taken_from v (all_deeds (runs.turns u))) (sent_to v (all_deeds (runs.turns u))) cs
    of-port u v is =
        let in-net = nodes w.net u v range.network is in
        let begins = are.begin u v is in
        let site = are.sites u in-net.0 in
        let has : Contains (neighbours_of w.net u) v = (neighbours w.net u v).1 (in-net.1, is) in
        subst (λ s. (cs : List (Stood P)) × PortWas s.ranges gave took (taken_from v (all_deeds (runs.turns u))) (sent_to v (all_deeds (runs.turns u))) cs) site
        (turns-go gave took counts (runs.first u) (runs.end u) (runs.turns u) v begins.port (runs.start u v) (are.go u in-net.0) (subst (λ s. v < s.ranges.nodes) (sym site) in-net.1)
        (subst (λ s. Contains s.neighbours v) (sym site) has) begins.there (subst (λ s. StartsAt s.ranges gave took (runs.start u v) begins.port.link) (sym site) begins.starts))

    found : (u v : ℕ) → (cs : List (Stood P)) × (IsTrue (are_joined w.net.edges u v)
        → PortWas (ranges_of w.net) gave took (taken_from v (all_deeds (runs.turns u))) (sent_to v (all_deeds (runs.turns u))) cs)
    found u v = by (are_joined w.net.edges u v) refl where
      by : (b : Bool) → are_joined w.net.edges u v ≡ b → (cs : List (Stood P)) × (IsTrue (are_joined w.net.edges u v)
          → PortWas (ranges_of w.net) gave took (taken_from v (all_deeds (runs.turns u))) (sent_to v (all_deeds (runs.turns u))) cs)
      by true e = let port = of-port u v e in (port.0, λ is. port.1)
      by false e = ([], λ is. absurd cc)

    pub stood : ℕ → ℕ → List (Stood P)
    stood u v = (found u v).0

    pub are-connections : AreConnections gave took w runs stood
    unfolding stood
    are-connections u v is = (found u v).1 is

    pub leads : (v : ℕ) → Leads (site_of w.net v) (deeds (account v)) (w.node v) (last.node v)
    leads v = by (cases_lt v w.net.nodes) where
      by : (v < w.net.nodes) ⊎ (w.net.nodes ≤ v) → Leads (site_of w.net v) (deeds (account v)) (w.node v) (last.node v)
      by (inl below) =
          subst (λ ds. Leads (site_of w.net v) ds (w.node v) (last.node v)) (sym (are.deeds_are v below))
          (subst (λ s. Leads (site_of w.net v) (all_deeds (runs.turns v)) (w.node v) s) (sym (are.lasts v below))
          (subst (λ s. Leads (site_of w.net v) (all_deeds (runs.turns v)) s (state_of (runs.end v).node)) (are.states v below)
          (subst (λ site. Leads site (all_deeds (runs.turns v)) (state_of (runs.first v).node) (state_of (runs.end v).node)) (are.sites v below)
          (turns-lead gave took counts (runs.first v) (runs.end v) (runs.turns v) (are.go v below)).1)))
      by (inr from) =
          let none = are.nobody v from in
          subst (λ ts. Leads (site_of w.net v) (deeds ts) (w.node v) (last.node v)) (sym none.0) none.1

    pub processes-are : (ends : ℕ → ℕ → List (Ends P)) (wires : Wires) → ArePipes gave took w account stood ends wires last → AreProcessesOverBytes w account wires last
    processes-are ends wires pipes = record {
      network = are.network;
      spares = are.spares;
      in_time = are.in_time;
      nodes = leads;
      nobody = λ v from. (are.nobody v from).0;
      first = pipes.first;
      links = λ u v is.
          pipes-are-bytes gave took (ranges_of w.net) w.net.capacity (wires.junk u v) (accepts_in v (account u)) (gives_in u (account v)) (wires.ended u v) (wires.acts u v) (ends u v) (stood u v)
          (stood v u) (are-connections u v is).each (are-connections v u (back w.net.edges v u ∙ is)).each (pipes.links u v is);
      left = pipes.left;
      nowhere = pipes.nowhere;
    }

  pub runs-are : NodeRunsAreProcesses gave took counts
  runs-are w last runs account range are = (stood w last runs account range are, are-connections w last runs account range are, processes-are w last runs account range are)

  pub runs-keep : BytesKeepPromise → NodeRunsKeepPromise gave took counts
  runs-keep keep w last runs account range are = (
    stood w last runs account range are,
    are-connections w last runs account range are,
    λ ends wires pipes. keep w last account wires range (processes-are w last runs account range are ends wires pipes),
  )
