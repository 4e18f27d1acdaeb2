-- What `bound --json` prints for a network, as data. An object's members are in the order of their
-- names.
use Rattle.std.specs.Prelude.{ℕ, Bool, if◌then◌else◌, List, length, map, Option, Some, None, codes}
use Rattle.std.specs.List.{range_with_len}
use Rattle.serde_json.specs.Data.{Data, Members, null, number, unsigned, array, object, no_members, put}
use Rattle.serde_json.specs.View.{items_of}
use Rattle.topology.specs.Network.{Network, counter_of, ring_of, bound_of}
use Rattle.topology.specs.Tree.{distance_of, parent_of}
use Rattle.topology.specs.Eccentricity.{sharp_of}
use Rattle.recovery_times.specs.declared.premises.Premises.{Premises}
use Rattle.recovery_times.specs.Times.{window_of, recovery_of, lending_of, millis_up}
use Rattle.network_commands.specs.declared.bound.NodeColumn.{NodeColumn}
use Rattle.network_commands.specs.declared.bound.NodeColumn.TheVariants.{Distances, Parents}

abbrev pub count : ℕ → Data
count n = number (unsigned n)

-- an id, or null
abbrev pub or_null : Option ℕ → Data
or_null None = null
or_null (Some id) = count id

-- what a column says of a node
abbrev pub column_value : NodeColumn → Network → ℕ → Data
column_value Distances net v = count (distance_of net v)
column_value Parents net v = or_null (parent_of net v)

-- what a column says of the first `nodes` nodes, by ascending id
abbrev pub column_data : NodeColumn → Network → ℕ → List Data
column_data column net nodes = map (column_value column net) (range_with_len 0 nodes)

-- the numbers of the first five lines, added to other members
abbrev pub shape_members : Network → Members → Members
shape_members net others =
    put (codes "ring") (count (ring_of net))
    (put (codes "counter") (count (counter_of net))
    (put (codes "capacity") (count net.capacity)
    (put (codes "edges") (count (length net.edges))
    (put (codes "nodes") (count net.nodes) others))))

-- the numbers of all eight lines, added to other members
abbrev pub bound_members : Network → Members → Members
bound_members net others =
    put (codes "sweeps") (count (bound_of net))
    (put (codes "parents") (array (items_of (column_data Parents net net.nodes)))
    (put (codes "distances") (array (items_of (column_data Distances net net.nodes))) (shape_members net others)))

-- the sharp bound, if it is asked for
abbrev pub sharp_members : Network → Bool → Members → Members
sharp_members net sharp others = if sharp then put (codes "sharp") (count (sharp_of net)) others else others

-- the times, if premises are given
abbrev pub time_members : Network → Option Premises → Members → Members
time_members net None others = others
time_members net (Some premises) others =
    put (codes "lends_within_ms") (count (millis_up (lending_of net 0 premises)))
    (put (codes "recovers_within_ms") (count (millis_up (recovery_of net premises)))
    (put (codes "window_us") (count (window_of premises)) others))

abbrev pub bound_data : Network → Bool → Option Premises → Data
bound_data net sharp premises =
    object (time_members net premises (sharp_members net sharp (bound_members net no_members)))
