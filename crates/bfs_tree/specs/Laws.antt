-- One round of the tree: what a step makes of copies that are right so far.
use Rattle.std.specs.Prelude.{◌≡◌, ℕ, ◌+◌, ◌<◌, ◌≤◌, ◌==◌, Bool, IsTrue, Option, List}
use Rattle.std.specs.List.{All}
use Rattle.topology.specs.Network.{Network, are_joined, neighbours_of, IsAcceptedNetwork}
use Rattle.topology.specs.Ranges.{parent_fits}
use Rattle.topology.specs.Tree.{distance_of, parent_of}
use Rattle.bfs_tree.specs.Stage.{is_of_stage}
use Rattle.bfs_tree.specs.Step.{new_distance, new_parent}

-- v's copy of each neighbour's distance is of stage k
abbrev pub AreOfStage : Network → ℕ → (ℕ → ℕ) → ℕ → Type 0
AreOfStage net k copied v =
    (w : ℕ) → IsTrue (are_joined net.edges v w)
    → IsTrue (is_of_stage k (distance_of net w) (copied w))

-- v's copy of each neighbour's distance is that neighbour's true distance
abbrev pub AreExact : Network → (ℕ → ℕ) → ℕ → Type 0
AreExact net copied v = (w : ℕ) → IsTrue (are_joined net.edges v w) → copied w ≡ distance_of net w

-- v's distance and its parent after a step
abbrev pub stepped_distance : Network → (ℕ → ℕ) → ℕ → ℕ
stepped_distance net copied v = new_distance (v == net.root) net.nodes copied (neighbours_of net v)

abbrev pub stepped_parent : Network → (ℕ → ℕ) → ℕ → Option ℕ
stepped_parent net copied v = new_parent (v == net.root) copied (neighbours_of net v)

-- copies of stage k give a distance of stage k + 1
abbrev pub StageRises : Type 0
StageRises =
    (net : Network) (k v : ℕ) (copied : ℕ → ℕ) → IsAcceptedNetwork net → v < net.nodes
    → AreOfStage net k copied v
    → IsTrue (is_of_stage (k + 1) (distance_of net v) (stepped_distance net copied v))

-- what is of stage k + 1 is of stage k
abbrev pub StageIncludes : Type 0
StageIncludes =
    (k true_distance written : ℕ) → IsTrue (is_of_stage (k + 1) true_distance written)
    → IsTrue (is_of_stage k true_distance written)

-- every number is of stage 0
abbrev pub FirstStage : Type 0
FirstStage = (true_distance written : ℕ) → IsTrue (is_of_stage 0 true_distance written)

-- what is of stage n, the number of nodes, is exact
abbrev pub LastStage : Type 0
LastStage =
    (net : Network) (v written : ℕ) → IsAcceptedNetwork net → v < net.nodes
    → IsTrue (is_of_stage net.nodes (distance_of net v) written)
    → written ≡ distance_of net v

-- exact copies give the true distance
abbrev pub ExactDistance : Type 0
ExactDistance =
    (net : Network) (v : ℕ) (copied : ℕ → ℕ) → IsAcceptedNetwork net → v < net.nodes
    → AreExact net copied v
    → stepped_distance net copied v ≡ distance_of net v

-- exact copies give the true parent
abbrev pub ExactParent : Type 0
ExactParent =
    (net : Network) (v : ℕ) (copied : ℕ → ℕ) → IsAcceptedNetwork net → v < net.nodes
    → AreExact net copied v
    → stepped_parent net copied v ≡ parent_of net v

-- whatever is copied, a step gives a distance of at most n
abbrev pub StepDistanceFits : Type 0
StepDistanceFits =
    (is_root : Bool) (n : ℕ) (copied : ℕ → ℕ) (neighbours : List ℕ)
    → new_distance is_root n copied neighbours ≤ n

-- and, if the neighbours are nodes, a parent that is a node, or none
abbrev pub StepParentFits : Type 0
StepParentFits =
    (is_root : Bool) (n : ℕ) (copied : ℕ → ℕ) (neighbours : List ℕ) → All (λ w. w < n) neighbours
    → IsTrue (parent_fits n (new_parent is_root copied neighbours))
