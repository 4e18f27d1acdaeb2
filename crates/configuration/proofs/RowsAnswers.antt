-- What a configuration shows, and what it may answer: examples.
use Rattle.std.proofs.Common.{◌≡◌, ℕ, List, [], ◌∷◌, Some, None, Ok, Err, refl, ap, arith}
use Rattle.topology.specs.Ranges.{ranges_of}
use Rattle.run_model.specs.node_core.Site.{Site}
use Rattle.run_model.specs.node_core.State.{default_node}
use Rattle.run_model.specs.link_model.Link.{link}
use Rattle.run_model.specs.World.{World}
use Rattle.run_model.specs.Step.{refusal}
use Rattle.run_model.specs.declared.event.Event.TheVariants.{Tick, Send}
use Rattle.run_model.specs.declared.event.EventFault.TheVariants.{NoNode, NoLink}
use Rattle.run_model.specs.declared.happened.Happened.TheVariants.{FullTick}
use Rattle.configuration.proofs.RowsRewired.{two_nodes}
use Rattle.configuration.specs.LinksView.{LinksView}
use Rattle.configuration.specs.Answers.{Answers}
use Rattle.configuration.specs.ConfigurationView.{ConfigurationView, no_node, node_at, states_of, world_of, AreNodesOf}

-- two places of nodes, and nothing under way
abbrev shown : ConfigurationView
shown = record {
  nodes = no_node ∷ record no_node { id = 1; distance = 5 } ∷ [];
  links = record { net = two_nodes; places = record { nodes = 2; values = 0 ∷ 1 ∷ 2 ∷ 0 ∷ [] }; links = link 0 [] ∷ link 1 [] ∷ link 1 [] ∷ []; spares = [] };
}

second-node : ((world_of shown).node 1).distance ≡ 5
second-node = refl

-- an id without a node reads as a fresh node
past-the_last : states_of two_nodes shown.nodes 2 ≡ default_node (ranges_of two_nodes)
past-the_last = refl

no-place : node_at shown.nodes 2 ≡ no_node
no-place = refl

-- a refused event leaves the world, and the answer is its refusal
refused : Answers shown (Tick 2) shown (Err NoNode)
refused = record { world = refl; ok = tt; did = tt; err = refl }

not-done : Answers shown (Tick 2) shown (Ok (FullTick 2)) → ⊥
not-done a = let fine = a.ok in absurd cc

-- and with no other refusal
not-another : Answers shown (Tick 2) shown (Err NoLink) → ⊥
not-another a = let fault = a.err in absurd cc

-- these nodes do not know their sites
not-nodes_of : AreNodesOf two_nodes shown.nodes → ⊥
not-nodes_of n = let nodes : 0 ≡ 2 = ap (λ (s : Site). s.ranges.nodes) (n.sites 1 (omega arith)) in omega (arith, nodes)

too-few : AreNodesOf two_nodes (no_node ∷ []) → ⊥
too-few n = let all : 1 ≡ 2 = n.all_nodes in omega (arith, all)
