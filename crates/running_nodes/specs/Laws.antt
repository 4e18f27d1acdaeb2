-- The laws of nodes that run: their turns, strung together, and the pipes between them.
use Rattle.std.specs.Prelude.{◌≡◌, ℕ, ◌<◌, List, Option, Some, slice_get, Contains, MatchOption, ⊤}
use Rattle.topology.specs.declared.frame.Ranges.{Ranges}
use Rattle.node_core.specs.View.{site_in, state_of}
use Rattle.run_model.specs.World.{World, IsWorldInRange}
use Rattle.run_model.specs.declared.event.Event.{Event}
use Rattle.socket_links.specs.Counts.{Counts}
use Rattle.node_core.specs.Deeds.{Leads, taken_from, sent_to}
use Rattle.node_loop.specs.Moments.{Moment}
use Rattle.node_loop.specs.node_connections.declared.port.NodePort.{NodePort}
use Rattle.processes.specs.Accounts.{Timed}
use Rattle.processes.specs.Connections.{IsConnection}
use Rattle.processes.specs.Laws.{KeepsPromise}
use Rattle.processes.specs.Marks.{IsOrderOf}
use Rattle.processes.specs.Links.{Act, the_accepts, accepts_in}
use Rattle.processes.specs.Together.{AreProcessesOverBytes, Wires, history_on}
use Rattle.processes.specs.Turns.{GivesOften, Pace}
use Rattle.running_nodes.specs.Pipes.{Ends, AreEnds, sent_at, taken_at}
use Rattle.running_nodes.specs.Repeating.{TimedTurn, whens, all_did, BeginsBy, GoesUp}
use Rattle.running_nodes.specs.Running.{Runs, AreNodeRuns, AreConnections, ArePipes}
use Rattle.running_nodes.specs.Stood.{Start, Stood, IsStood, PortWas, StartsAt}
use Rattle.running_nodes.specs.Stretches.{Went, Goes, all_deeds}

module _ {P : Type 0} (gave took : P → Option (List ℕ)) (counts : P → Counts) where
  -- all that a node did over many turns leads from where it stood at first to where it stands at
  -- last, and it knows the same of its network
  abbrev pub TurnsLead : Type 0
  TurnsLead =
      (old last : Moment P) (ts : List (Went P)) → Goes gave took counts old ts last
      → (site_in last.node ≡ site_in old.node)
      × Leads (site_in old.node) (all_deeds ts) (state_of old.node) (state_of last.node)

  -- At its port to each neighbour it took and sent exactly the frames of some connections, one
  -- after the other, by what their pipes report, if what the port's link keeps at first is what its
  -- pipe gave and has yet to write.
  abbrev pub TurnsGoByConnections : Type 0
  TurnsGoByConnections =
      (old last : Moment P) (ts : List (Went P)) (w : ℕ) (port : NodePort P) (start : Start)
      → Goes gave took counts old ts last → w < (site_in old.node).ranges.nodes
      → Contains (site_in old.node).neighbours w → slice_get old.ports w ≡ Some port
      → StartsAt (site_in old.node).ranges gave took start port.link
      → (cs : List (Stood P)) × PortWas (site_in old.node).ranges gave took
      (taken_from w (all_deeds ts)) (sent_to w (all_deeds ts)) cs

-- Two ends of a connection, of which one gives a beginning of what the other took, are a connection
-- that carries the frames that were sent and taken at its ends.
abbrev pub EndsAreConnections : {P : Type 0} → (P → Option (List ℕ)) → (P → Option (List ℕ)) → Type 0
EndsAreConnections {P} gave took =
    (r : Ranges) (junk : List ℕ) (out into : Option (Stood P))
    → MatchOption out ⊤ (λ c. IsStood r gave took c)
    → MatchOption into ⊤ (λ c. IsStood r gave took c) → AreEnds gave took junk out into
    → IsConnection r junk (sent_at out) (taken_at into)

module _ {P : Type 0} (gave took : P → Option (List ℕ)) (counts : P → Counts) where
  -- Nodes that run have connections, one after the other at each port; and if the pipes of these
  -- connections are joined two by two, then this holds of what the nodes did over these links:
  abbrev pub IfPipesAreJoined :
      (World → (ℕ → List Timed) → Wires → World → Type 0) → Type 0
  IfPipesAreJoined Holds =
      (w last : World) (runs : Runs P) (account : ℕ → List Timed) → IsWorldInRange w
      → AreNodeRuns gave took counts w runs account last
      → (stood : ℕ → ℕ → List (Stood P)) × AreConnections gave took w runs stood
      × ((ends : ℕ → ℕ → List (Ends P)) (wires : Wires)
      → ArePipes gave took w account stood ends wires last → Holds w account wires last)

  -- the nodes are processes over links of bytes,
  abbrev pub NodeRunsAreProcesses : Type 0
  NodeRunsAreProcesses = IfPipesAreJoined AreProcessesOverBytes

  -- so the headline and the service hold of them.
  abbrev pub NodeRunsKeepPromise : Type 0
  NodeRunsKeepPromise = IfPipesAreJoined (λ w account wires last.
      ((some : List Event) × IsOrderOf account (history_on w wires) some)
      × ((events : List Event) → IsOrderOf account (history_on w wires) events
      → KeepsPromise w last events))

  -- A port whose link takes each frame that is offered, throughout, is given one again and again,
  -- whatever the pace of its node remembers at first: after any instant from the first turn on, by
  -- the end of each turn that begins the repetition time or more later.
  abbrev pub PortsAreGivenAgain : Type 0
  PortsAreGivenAgain =
      (w : ℕ) (first : Moment P) (turns : List (TimedTurn P)) (pace : Pace) (start until : ℕ)
      (acts : List Act) → w < 64 → w < (site_in first.node).ranges.nodes
      → Contains (site_in first.node).neighbours w
      → first.pace.manner.repeat ≡ pace.repeat → BeginsBy start turns
      → GoesUp gave took counts w first turns → the_accepts acts ≡ accepts_in w (all_did turns)
      → GivesOften pace start until (whens turns) acts
