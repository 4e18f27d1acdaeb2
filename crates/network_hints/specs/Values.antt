-- The first thing that is wrong with the values of a network file.
use Rattle.std.specs.Prelude.{ℤ, pos, Bool, ◌||◌, ◌&&◌, if◌then◌else◌, int_lt, int_le, nat_lt, List, [], ◌∷◌, length, Option, Some, None, option_map}
use Rattle.std.specs.List.{find, list_any}
use Rattle.std.specs.Ordering.{int_eq}
use Rattle.network_hints.specs.declared.key.Key.{Key}
use Rattle.network_hints.specs.declared.key.Key.TheVariants.{Nodes, Capacity, Lease}
use Rattle.network_hints.specs.declared.flaw.ValueFlaw.{ValueFlaw}
use Rattle.network_hints.specs.declared.flaw.ValueFlaw.TheVariants.{OutOfRange, TooMany, NoRoot, NoNode, Loop, Twice}

-- the values of the five keys
pub record FileValues : Type 0 where
  pub nodes : ℤ
  pub root : ℤ
  pub capacity : ℤ
  pub lease : ℤ
  pub edges : List (ℤ × ℤ)

-- a value that must be in a range, and is not
abbrev pub range_flaw : Key → ℤ → ℤ → ℤ → Option ValueFlaw
range_flaw key value least most =
    if int_lt value least || int_lt most value then Some (OutOfRange key value least most) else None

-- a root that is none of n nodes
abbrev pub root_flaw : ℤ → ℤ → Option ValueFlaw
root_flaw root n = if int_lt root (pos 0) || int_le n root then Some (NoRoot root n) else None

-- the first flaw, or else the second
abbrev pub flaw_or : Option ValueFlaw → Option ValueFlaw → Option ValueFlaw
flaw_or None other = other
flaw_or (Some flaw) other = Some flaw

-- the first number that is out of its range; the number of edges comes between nodes and root
abbrev pub number_flaw : FileValues → Option ValueFlaw
number_flaw v =
    flaw_or (range_flaw Nodes v.nodes (pos 2) (pos 64))
    (if nat_lt 256 (length v.edges) then Some (TooMany (length v.edges)) else
    (flaw_or (root_flaw v.root v.nodes)
    (flaw_or (range_flaw Capacity v.capacity (pos 1) (pos 4096))
    (range_flaw Lease v.lease (pos 0) (pos 65535)))))

-- an end of an edge is none of n nodes
abbrev pub has_bad_end : ℤ → ℤ × ℤ → Bool
has_bad_end n e =
    int_lt e.0 (pos 0) || (int_le n e.0 || (int_lt e.1 (pos 0) || int_le n e.1))

-- an edge joins a node with itself
abbrev pub is_loop : ℤ × ℤ → Bool
is_loop e = int_eq e.0 e.1

-- the two edges have the same ends, either way round
abbrev pub is_twice : ℤ × ℤ → ℤ × ℤ → Bool
is_twice e f = (int_eq f.0 e.0 && int_eq f.1 e.1) || (int_eq f.0 e.1 && int_eq f.1 e.0)

-- the first edge that occurs again later
abbrev pub first_twice : List (ℤ × ℤ) → Option (ℤ × ℤ)
first_twice [] = None
first_twice (e ∷ es) = if list_any (is_twice e) es then Some e else first_twice es

-- the first edge of which an end is no node; else the first loop; else the first that occurs twice
abbrev pub edge_flaw : ℤ → List (ℤ × ℤ) → Option ValueFlaw
edge_flaw n edges =
    flaw_or (option_map (λ e. NoNode e.0 e.1 n) (find (has_bad_end n) edges))
    (flaw_or (option_map (λ e. Loop e.0) (find is_loop edges))
    (option_map (λ e. Twice e.0 e.1) (first_twice edges)))

-- the first flaw of all
abbrev pub value_flaw : FileValues → Option ValueFlaw
value_flaw v = flaw_or (number_flaw v) (edge_flaw v.nodes v.edges)
