-- Small networks for which the definitions give what one sees in a drawing, and some that they
-- refuse.
use Rattle.std.proofs.Common.{◌≡◌, ℕ, ◌∷◌, [], List, refl, arith, true, false, pos, ℤ, zero, suc, inl, inr}
use Rattle.std.specs.Prelude.{Option, Some, None, negsuc, All, ◌⊎◌}
use Rattle.std.proofs.lemmas.Bool.Decides.{nat_tests}
use Rattle.toml.specs.Data.{no_items, item, integer, boolean}
use Rattle.topology.specs.declared.frame.Payload.{Payload}
use Rattle.topology.specs.declared.frame.Frame.{Frame}
use Rattle.topology.specs.declared.fault.NetFault.TheVariants.{TooSmall, TooBig, BadRoot, BadCapacity, BadLease, BadEdge, LoopEdge, DoubleEdge, Apart, NoEdge}
use Rattle.topology.specs.At.{at}
use Rattle.topology.specs.Network.{Network, neighbours_of, IsWalk, IsConnected, IsEdgeBelow, IsAcceptedNetwork, counter_of, ring_of, bound_of, joined_net, parted_net}
use Rattle.topology.specs.Ranges.{ranges_of, payload_fits, frame_fits}
use Rattle.topology.specs.Tree.{reaches, distance_of, parent_of}
use Rattle.topology.specs.Change.{join_fault, part_fault, is_same_frame}
use Rattle.topology.specs.Refusal.{Values, Ends, value_fault}
use Rattle.topology.specs.Reading.{two_integers}

-- two nodes: 0 - 1
abbrev pub two : Network
two = record { nodes = 2; root = 0; capacity = 1; lease = 0; edges = (0, 1) ∷ [] }

-- a line: 0 - 1 - 2
abbrev pub line : Network
line = record { nodes = 3; root = 0; capacity = 1; lease = 0; edges = (0, 1) ∷ (1, 2) ∷ [] }

-- a square: 0 - 1, 0 - 2, 1 - 3, 2 - 3
abbrev square : Network
square = record { nodes = 4; root = 0; capacity = 1; lease = 0; edges = (0, 1) ∷ (0, 2) ∷ (1, 3) ∷ (2, 3) ∷ [] }

-- three nodes, of which 2 is alone
abbrev pub apart : Network
apart = record { nodes = 3; root = 0; capacity = 1; lease = 0; edges = (0, 1) ∷ [] }

-- the numbers of the networks
two-numbers : (counter_of two ≡ 5) × (ring_of two ≡ 7) × (bound_of two ≡ 69)
two-numbers = (refl, refl, refl)

line-numbers : (counter_of line ≡ 5) × (ring_of line ≡ 13) × (bound_of line ≡ 217)
line-numbers = (refl, refl, refl)

square-numbers : (counter_of square ≡ 5) × (ring_of square ≡ 19) × (bound_of square ≡ 461)
square-numbers = (refl, refl, refl)

-- neighbours, either way round and ascending
square-neighbours : (neighbours_of square 0 ≡ 1 ∷ 2 ∷ []) × (neighbours_of square 3 ≡ 1 ∷ 2 ∷ [])
square-neighbours = (refl, refl)

-- an edge joins the square between 1 and 2, and comes last; it may not join who is joined, or
-- itself, or no node
square-joined : (join_fault square 1 2 ≡ None) × ((joined_net square 1 2).edges ≡ (0, 1) ∷ (0, 2) ∷ (1, 3) ∷ (2, 3) ∷ (1, 2) ∷ [])
square-joined = (refl, refl)

square-not-joined : (join_fault square 1 0 ≡ Some DoubleEdge) × (join_fault square 3 3 ≡ Some LoopEdge) × (join_fault square 0 4 ≡ Some BadEdge)
square-not-joined = (refl, refl, refl)

-- the edge between 1 and 3 may go, either way round, and then the one between 2 and 3 may not: 3
-- would be alone
square-parted : (part_fault square 3 1 ≡ None) × ((parted_net square 3 1).edges ≡ (0, 1) ∷ (0, 2) ∷ (2, 3) ∷ [])
square-parted = (refl, refl)

square-not-parted : (part_fault (parted_net square 1 3) 2 3 ≡ Some Apart) × (part_fault square 1 2 ≡ Some NoEdge) × (part_fault square 4 1 ≡ Some BadEdge)
square-not-parted = (refl, refl, refl)

-- the line has the frame of no square
other-frames : (is_same_frame square (parted_net square 1 3) ≡ true) × (is_same_frame square line ≡ false)
other-frames = (refl, refl)

-- a walk to 3 goes by 1, and may turn back on the way; none goes there at once
walk-by-1 : IsWalk square.edges 0 (1 ∷ 3 ∷ []) 3
walk-by-1 = (refl, (refl, refl))

walk-back : IsWalk square.edges 0 (1 ∷ 0 ∷ 2 ∷ 3 ∷ []) 3
walk-back = (refl, (refl, (refl, (refl, refl))))

no-walk-at-once : IsWalk square.edges 0 (3 ∷ []) 3 → ⊥
no-walk-at-once walk = grind arith

no-walk-that-ends-elsewhere : IsWalk square.edges 0 (1 ∷ []) 3 → ⊥
no-walk-that-ends-elsewhere walk = grind arith

-- distances and parents: 3 has two neighbours that are one nearer
square-distances : (distance_of square 0 ≡ 0) × (distance_of square 1 ≡ 1) × (distance_of square 2 ≡ 1) × (distance_of square 3 ≡ 2)
square-distances = (refl, refl, refl, refl)

square-parents : (parent_of square 0 ≡ None) × (parent_of square 1 ≡ Some 0) × (parent_of square 2 ≡ Some 0) × (parent_of square 3 ≡ Some 1)
square-parents = (refl, refl, refl, refl)

-- an odd number of steps leads to no node at an even distance of this square
square-steps : (reaches square 2 3 ≡ true) × (reaches square 3 3 ≡ false) × (reaches square 4 3 ≡ true)
square-steps = (refl, refl, refl)

-- a node with no walk is as far as there are nodes
apart-distance : distance_of apart 2 ≡ 3
apart-distance = refl

no-walk-alone : (u : ℕ) (ws : List ℕ) → (u ≡ 0) ⊎ (u ≡ 1) → IsWalk apart.edges u ws 2 → ⊥
no-walk-alone u [] from walk = elim from [
  | inl e ↦ absurd (omega arith)
  | inr e ↦ absurd (omega arith)
]
no-walk-alone u (w ∷ ws) from walk = no-walk-alone w ws (grind (arith, nat_tests)) walk.1

-- so this network is not connected
pub apart-refused : IsConnected apart → ⊥
apart-refused connected = let (ws, walk) = connected 2 (omega arith) in no-walk-alone 0 ws (inl refl) walk

-- the smallest network is accepted
pub two-connected : IsConnected two
two-connected zero h = ([], refl)
two-connected (suc zero) h = (1 ∷ [], (refl, refl))
two-connected (suc (suc v)) h = absurd (omega arith)

two-edges : All (IsEdgeBelow 2) two.edges
two-edges = λ k d h. let first : k ≡ 0 = omega arith in rw first (record { first = omega arith; second = omega arith; no_loop = λ e. omega arith })

pub two-accepted : IsAcceptedNetwork two
two-accepted = record {
  limits = record {
    two = omega arith;
    most = omega arith;
    few_edges = omega arith;
    root_in = omega arith;
    some_capacity = omega arith;
    most_capacity = omega arith;
    most_lease = omega arith;
    edges_in = two-edges;
    no_double = refl;
  };
  connected = two-connected;
}

-- the values of the smallest network have no fault, and each change of one of them has its own
abbrev pub values : ℤ → ℤ → ℤ → ℤ → List Ends → Values
values nodes root capacity lease edges = record { nodes = nodes; root = root; capacity = capacity; lease = lease; edges = edges }

abbrev pub edge : List Ends
edge = (pos 0, pos 1) ∷ []

good-values : value_fault (values (pos 2) (pos 0) (pos 1) (pos 0) edge) ≡ None
good-values = refl

too-small : value_fault (values (pos 1) (pos 0) (pos 4097) (pos 0) edge) ≡ Some TooSmall
too-small = refl

too-big : value_fault (values (pos 65) (pos 0) (pos 1) (pos 0) edge) ≡ Some TooBig
too-big = refl

bad-root : (value_fault (values (pos 2) (pos 2) (pos 1) (pos 0) edge) ≡ Some BadRoot) × (value_fault (values (pos 2) (negsuc 0) (pos 1) (pos 0) edge) ≡ Some BadRoot)
bad-root = (refl, refl)

bad-capacity : (value_fault (values (pos 2) (pos 0) (pos 0) (pos 0) edge) ≡ Some BadCapacity) × (value_fault (values (pos 2) (pos 0) (pos 4097) (pos 0) edge) ≡ Some BadCapacity)
bad-capacity = (refl, refl)

bad-lease : (value_fault (values (pos 2) (pos 0) (pos 1) (negsuc 0) edge) ≡ Some BadLease) × (value_fault (values (pos 2) (pos 0) (pos 1) (pos 65536) edge) ≡ Some BadLease)
bad-lease = (refl, refl)

bad-edge : value_fault (values (pos 2) (pos 0) (pos 1) (pos 0) ((pos 0, pos 2) ∷ [])) ≡ Some BadEdge
bad-edge = refl

loop-edge : value_fault (values (pos 2) (pos 0) (pos 1) (pos 0) ((pos 0, pos 0) ∷ (pos 0, pos 1) ∷ [])) ≡ Some LoopEdge
loop-edge = refl

double-edge : value_fault (values (pos 2) (pos 0) (pos 1) (pos 0) ((pos 0, pos 1) ∷ (pos 1, pos 0) ∷ [])) ≡ Some DoubleEdge
double-edge = refl

-- an edge is exactly two integers
edge-of-two : two_integers (item (integer (pos 0)) (item (integer (pos 1)) no_items)) ≡ Some (pos 0, pos 1)
edge-of-two = refl

no-edge-of-three : two_integers (item (integer (pos 0)) (item (integer (pos 1)) (item (integer (pos 0)) no_items))) ≡ None
no-edge-of-three = refl

no-edge-of-words : two_integers (item (integer (pos 0)) (item (boolean true) no_items)) ≡ None
no-edge-of-words = refl

-- frames on two nodes: numbers up to 4, distances up to 2, parents 0 and 1, ring values up to 6
abbrev payload : ℕ → Option ℕ → ℕ → Payload
payload distance parent ring = record { distance = distance; parent = parent; ring = ring }

abbrev frame : ℕ → ℕ → Payload → Frame
frame seq ack sent = record { seq = seq; ack = ack; payload = sent }

greatest-fits : frame_fits (ranges_of two) (frame 4 4 (payload 2 (Some 1) 6)) ≡ true
greatest-fits = refl

one-more-does-not : (frame_fits (ranges_of two) (frame 5 0 (payload 0 None 0)) ≡ false) × (frame_fits (ranges_of two) (frame 0 5 (payload 0 None 0)) ≡ false)
    × (payload_fits (ranges_of two) (payload 3 None 0) ≡ false) × (payload_fits (ranges_of two) (payload 0 (Some 2) 0) ≡ false) × (payload_fits (ranges_of two) (payload 0 None 7) ≡ false)
one-more-does-not = (refl, refl, refl, refl, refl)

-- one place is changed, and the others stay
changed-at-3 : (f : ℕ → ℕ) → (at f 3 9 3 ≡ 9) × (at f 3 9 4 ≡ f 4)
changed-at-3 f = (refl, refl)
