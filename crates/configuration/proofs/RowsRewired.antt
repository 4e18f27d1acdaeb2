-- What becomes of nodes if one of them takes over its new neighbours.
use Rattle.std.proofs.Common.{◌≡◌, ◌≢◌, ℕ, zero, suc, List, [], ◌∷◌, refl, arith}
use Rattle.std.proofs.lemmas.Grind.{common_steps}
use Rattle.topology.specs.Ranges.{ranges_of}
use Rattle.run_model.specs.node_core.View.{NodeView}
use Rattle.topology.specs.Network.{Network}
use Rattle.configuration.specs.ConfigurationView.{no_node, node_at}
use Rattle.configuration.specs.Rewired.{IsRewired}

abbrev pub two_nodes : Network
two_nodes = record { nodes = 2; root = 0; capacity = 1; lease = 0; edges = (0, 1) ∷ [] }

-- node 1 of two, with these neighbours, before any frame came
abbrev joined_to : List ℕ → NodeView
joined_to neighbours = record no_node { id = 1; distance = 2; registers = record no_node.registers { ranges = ranges_of two_nodes; neighbours = neighbours } }

abbrev alone : List NodeView
alone = no_node ∷ joined_to [] ∷ []

abbrev joined : List NodeView
joined = no_node ∷ joined_to (0 ∷ []) ∷ []

-- node 1 had no neighbour, and now has node 0
same-others : (w : ℕ) → w ≢ 1 → node_at joined w ≡ node_at alone w
same-others zero other = refl
same-others (suc zero) other = absurd (other refl)
same-others (suc (suc w)) other = refl

takes-up : IsRewired two_nodes alone 1 joined
takes-up = record { all_nodes = refl; others = same-others; site = refl; state = refl }

-- then it knows its new neighbours
takes_not-nobody : ¬ IsRewired two_nodes alone 1 alone
takes_not-nobody is = grind (arith, is.site)

-- and no other node changes
takes_not-both : ¬ IsRewired two_nodes alone 1 (record no_node { distance = 1 } ∷ joined_to (0 ∷ []) ∷ [])
takes_not-both is = let same : record no_node { distance = 1 } ≡ no_node = is.others 0 (omega arith) in grind (arith, same)

-- nor does its distance change
takes_not-distance : ¬ IsRewired two_nodes alone 1 (no_node ∷ record (joined_to (0 ∷ [])) { distance = 0 } ∷ [])
takes_not-distance is = grind (arith, is.state)
