-- The network of a kind.
use Rattle.std.specs.Prelude.{ℕ, pos, List, map}
use Rattle.topology.specs.Network.{Edge}
use Rattle.topology.specs.Refusal.{Ends, Values, as_ends}
use Rattle.network_kinds.specs.Kinds.{regular_edges}
use Rattle.network_kinds.specs.Random.{random_edges}
use Rattle.network_kinds.specs.declared.kind.Kind.{Kind}
use Rattle.network_kinds.specs.declared.kind.Kind.TheVariants.{Random}

-- the edges of a kind on n nodes
abbrev pub edges_of : Kind → ℕ → List Edge
edges_of (Random edges seed) n = random_edges n edges seed
edges_of kind n = regular_edges kind n

-- the numbers and edges, as a file names them
abbrev pub values_with : (nodes root capacity lease : ℕ) → List Ends → Values
values_with nodes root capacity lease ends = record {
  nodes = pos nodes;
  root = pos root;
  capacity = pos capacity;
  lease = pos lease;
  edges = ends;
}

-- the numbers and the edges of a kind, as a file names them
abbrev pub values_for : Kind → (nodes root capacity lease : ℕ) → Values
values_for kind nodes root capacity lease = values_with nodes root capacity lease (map as_ends (edges_of kind nodes))
