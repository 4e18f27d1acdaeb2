-- The facts of a world, and the events that they become in a world that begins as the network starts.
use Rattle.std.specs.Prelude.{ℕ, zero, suc, Bool, true, false, if◌then◌else◌, List, [], ◌∷◌, ◌++◌, map, replicate}
use Rattle.topology.specs.Network.{Edge, Network, are_joined}
use Rattle.flight_records.specs.declared.entry.Noted.TheVariants as noted
use Rattle.node_follower.specs.Parts.{state_parts}
use Rattle.configuration.specs.node_core.Site.{Site}
use Rattle.configuration.specs.node_core.State.{LocalState}
use Rattle.configuration.specs.link_model.declared.item.Item.{Item}
use Rattle.configuration.specs.run_model.World.{World, site}
use Rattle.configuration.specs.run_model.Start.{world_with_spares}
use Rattle.configuration.specs.run_model.Run.{run}
use Rattle.configuration.specs.run_model.declared.event.Event.{Event}
use Rattle.configuration.specs.run_model.declared.event.Event.TheVariants.{Damage}
use Rattle.configuration.specs.run_model.declared.event.Harm.{Harm}
use Rattle.configuration.specs.run_model.declared.event.Harm.TheVariants as harm
use Rattle.record_gathering.specs.declared.facts.Fact.{Fact}
use Rattle.record_gathering.specs.declared.facts.Fact.TheVariants.{State, Written}
use Rattle.record_gathering.specs.Accepted.{accepted}
use Rattle.record_gathering.specs.Entries.{entry_events}
use Rattle.record_gathering.specs.Queues.{queue_of, queues_after}

-- ---- what a world is

-- an edge joins, or it parts
abbrev pub edge_harm : Bool → Edge → Harm
edge_harm true e = harm.Join e.0 e.1
edge_harm false e = harm.Part e.0 e.1

-- those of the edges that a network does not have join, or part
abbrev pub lacking : Bool → Network → List Edge → List Fact
lacking joins net [] = []
lacking joins net (e ∷ es) =
    if are_joined net.edges e.0 e.1 then lacking joins net es else Written (edge_harm joins e) ∷ lacking joins net es

-- the changes of edges that turn a network into another one; twice, as an edge for which no pair of
-- links is left may join once another edge has parted
abbrev pub edge_changes : Network → Network → List Fact
edge_changes net other = lacking true net other.edges ++ lacking false other net.edges

abbrev pub edge_facts : Network → Network → List Fact
edge_facts net other = edge_changes net other ++ edge_changes net other

-- a node's whole state; a record names the network by a number
abbrev pub state_facts : ℕ → Site → LocalState → List Fact
state_facts network site s = map (State site.id) (state_parts network site s)

-- the states of the nodes below this number
abbrev pub states_below : ℕ → World → ℕ → List Fact
states_below network w zero = []
states_below network w (suc v) = states_below network w v ++ state_facts network (site w v) (w.node v)

-- what is under way from u to v, the oldest first
abbrev pub link_facts : World → ℕ → ℕ → List Fact
link_facts w u v = map (λ (item : Item). Written (harm.Item u v item)) (w.link u v)

-- what is under way from u to the nodes below this number
abbrev pub links_from : World → ℕ → ℕ → List Fact
links_from w u zero = []
links_from w u (suc v) = links_from w u v ++ link_facts w u v

-- what is under way from the nodes below this number to all nodes
abbrev pub links_below : World → ℕ → List Fact
links_below w zero = []
links_below w (suc u) = links_below w u ++ links_from w u w.net.nodes

-- the facts of a world whose network began as this one: the edges that joined or parted, the state of
-- each node, and what is under way
abbrev pub facts_of : ℕ → Network → World → List Fact
facts_of network net w =
    edge_facts net w.net ++ (states_below network w w.net.nodes ++ links_below w w.net.nodes)

-- ---- what they become

-- what a fact becomes, without what is refused; a part of a state becomes what an entry of it would
abbrev pub fact_events : World → List (List ℕ) → Fact → List Event
fact_events w queues (State v p) = accepted w (entry_events w (queue_of queues v) v (noted.State p))
fact_events w queues (Written h) = accepted w (Damage h ∷ [])

-- the tickets that are noted to wait after a fact
abbrev pub queues_with : List (List ℕ) → Fact → List (List ℕ)
queues_with queues (State v p) = queues_after queues v (noted.State p)
queues_with queues (Written h) = queues

-- what facts become, one after the other
abbrev pub set_events : World → List (List ℕ) → List Fact → List Event
set_events w queues [] = []
set_events w queues (f ∷ fs) =
    fact_events w queues f ++ set_events (run w (fact_events w queues f)) (queues_with queues f) fs

abbrev pub set_queues : List (List ℕ) → List Fact → List (List ℕ)
set_queues queues [] = queues
set_queues queues (f ∷ fs) = set_queues (queues_with queues f) fs

-- The events that bring a network, as it starts with this many spare pairs of links, into the state
-- of a world. None that the network refuses is among them.
abbrev pub set_up : ℕ → Network → ℕ → World → List Event
set_up network net pairs w =
    set_events (world_with_spares net pairs) (replicate net.nodes []) (facts_of network net w)
