-- The values of a table, over the grammar of the toml crate, or the first thing that is wrong with
-- it.
use Rattle.std.specs.Prelude.{ℕ, ◌+◌, ℤ, Bool, not, is_some, if◌then◌else◌, List, [], ◌∷◌, Option, Some, None, option_and_then, option_map, Result, Ok, Err}
use Rattle.toml.specs.Data.{Data, Items, Members, no_items, item, as_integer, as_array, get_member}
use Rattle.network_hints.specs.Keys.{key_name}
use Rattle.network_hints.specs.Values.{FileValues, value_flaw}
use Rattle.network_hints.specs.declared.key.Key.{Key}
use Rattle.network_hints.specs.declared.key.Key.TheVariants.{Nodes, Root, Capacity, Lease, Edges}
use Rattle.network_hints.specs.declared.flaw.ValueFlaw.{ValueFlaw}
use Rattle.network_hints.specs.declared.flaw.ValueFlaw.TheVariants.{NoKey, NoInteger, NoArray, NoEdge}

-- a value changed by f, or the same error
abbrev pub mapped : {X Y E : Type 0} → (X → Y) → Result X E → Result Y E
mapped f (Ok x) = Ok (f x)
mapped f (Err e) = Err e

-- a key is there
abbrev pub has_key : Key → Members → Bool
has_key key ms = is_some (get_member (key_name key) ms)

-- the first of the five keys that is missing
abbrev pub missing : Members → Option Key
missing ms =
    if not (has_key Nodes ms) then Some Nodes
    else if not (has_key Root ms) then Some Root
    else if not (has_key Capacity ms) then Some Capacity
    else if not (has_key Lease ms) then Some Lease
    else if not (has_key Edges ms) then Some Edges
    else None

-- a value, or else a flaw
abbrev pub or_flaw : {X : Type 0} → ValueFlaw → Option X → Result X ValueFlaw
or_flaw flaw None = Err flaw
or_flaw flaw (Some x) = Ok x

-- the integer at a key
abbrev pub integer_of : Key → Members → Result ℤ ValueFlaw
integer_of key ms = or_flaw (NoInteger key) (option_and_then as_integer (get_member (key_name key) ms))

-- an edge is an array of exactly two integers
abbrev pub two_integers : Items → Option (ℤ × ℤ)
two_integers (item a (item b no_items)) =
    option_and_then (λ x. option_map (λ y. (x, y)) (as_integer b)) (as_integer a)
two_integers _ = None

-- the edge that a value is, if it is one
abbrev pub ends_of : Data → Option (ℤ × ℤ)
ends_of d = option_and_then two_integers (as_array d)

-- one more edge in front
abbrev pub and_more : Option (ℤ × ℤ) → ℕ → Result (List (ℤ × ℤ)) ℕ → Result (List (ℤ × ℤ)) ℕ
and_more None n rest = Err n
and_more (Some e) n rest = mapped (λ es. e ∷ es) rest

-- all edges, or the place of the first item that is no edge, counted on from n
abbrev pub ends_in : ℕ → Items → Result (List (ℤ × ℤ)) ℕ
ends_in n no_items = Ok []
ends_in n (item d ds) = and_more (ends_of d) n (ends_in (n + 1) ds)

-- what follows if there is a value
abbrev pub and_then : {X Y : Type 0} → (X → Result Y ValueFlaw) → Result X ValueFlaw → Result Y ValueFlaw
and_then f (Ok x) = f x
and_then f (Err flaw) = Err flaw

-- the edges, or the flaw that there is no edge at that place
abbrev pub or_place : Result (List (ℤ × ℤ)) ℕ → Result (List (ℤ × ℤ)) ValueFlaw
or_place (Ok edges) = Ok edges
or_place (Err place) = Err (NoEdge place)

-- the edges
abbrev pub edges_of : Members → Result (List (ℤ × ℤ)) ValueFlaw
edges_of ms =
    and_then (λ items. or_place (ends_in 0 items))
    (or_flaw NoArray (option_and_then as_array (get_member (key_name Edges) ms)))

-- the values of the five keys, or the first of the wrong shape
abbrev pub values_of : Members → Result FileValues ValueFlaw
values_of ms =
    and_then (λ nodes. and_then (λ root. and_then (λ capacity. and_then (λ lease. and_then (λ edges.
    Ok (record { nodes = nodes; root = root; capacity = capacity; lease = lease; edges = edges }))
    (edges_of ms)) (integer_of Lease ms)) (integer_of Capacity ms)) (integer_of Root ms)) (integer_of Nodes ms)

-- the first flaw of the values, or the one because of which there are no values
abbrev pub flaw_in : Result FileValues ValueFlaw → Option ValueFlaw
flaw_in (Ok values) = value_flaw values
flaw_in (Err flaw) = Some flaw

-- a missing key, or else another flaw
abbrev pub key_or : Option Key → Option ValueFlaw → Option ValueFlaw
key_or (Some key) other = Some (NoKey key)
key_or None other = other

-- the first flaw of a table
abbrev pub table_flaw : Members → Option ValueFlaw
table_flaw ms = key_or (missing ms) (flaw_in (values_of ms))
