-- The kinds of networks by the names that `network` takes, and the numbers of edges of random ones.
use Rattle.std.specs.Prelude.{ℕ, ◌-◌, ◌*◌, ◌/◌, min, List, Option, Some, None, if◌then◌else◌, codes}
use Rattle.std.specs.Str.{bytes_eq}
use Rattle.network_kinds.specs.declared.kind.Kind.{Kind}
use Rattle.network_kinds.specs.declared.kind.Kind.TheVariants.{Line, Ring, Star, Complete, Tree, Grid, Random}

-- the kind of a name; a grid and a random graph get their sizes later
abbrev pub kind_named : List ℕ → Option Kind
kind_named name =
    if bytes_eq name (codes "line") then Some Line
    else if bytes_eq name (codes "ring") then Some Ring
    else if bytes_eq name (codes "star") then Some Star
    else if bytes_eq name (codes "complete") then Some Complete
    else if bytes_eq name (codes "tree") then Some Tree
    else if bytes_eq name (codes "grid") then Some (Grid 0)
    else if bytes_eq name (codes "random") then Some (Random 0 0)
    else None

-- the most edges of n nodes: all pairs, but at most 256
abbrev pub most_edges : ℕ → ℕ
most_edges n = min (n * (n - 1) / 2) 256

-- the default number of edges of a random graph: twice as many as a tree has, or the most that it
-- can have if those are fewer
abbrev pub usual_edges : ℕ → ℕ
usual_edges n = min (2 * (n - 1)) (most_edges n)
