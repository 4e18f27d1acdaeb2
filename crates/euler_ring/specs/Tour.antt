-- The Euler tour of the true tree: a closed walk that goes along each edge of the tree once in each
-- direction. It is a recursion on the whole tree, which no node sees; a node knows only the order
-- of its own tree neighbours (Cycle).
use Rattle.std.specs.Prelude.{ℕ, zero, suc, List, [], ◌∷◌, ◌++◌, filter}
use Rattle.std.specs.List.{range_with_len}
use Rattle.topology.specs.Network.{Network}
use Rattle.topology.specs.Tree.{parent_of}
use Rattle.euler_ring.specs.Cycle.{is_named, above, below}

-- The tour comes from the first node to the second. On the token ring this is the second node's
-- machine that comes in from the first.
abbrev pub Stop : Type 0
Stop = ℕ × ℕ

-- the true children of v, ascending: the nodes whose true parent is v
abbrev pub children_of : Network → ℕ → List ℕ
children_of net v = filter (λ c. is_named (parent_of net c) v) (range_with_len 0 net.nodes)

-- an ascending list in cyclic order after p, which is not on it: those above p, and then those
-- below
abbrev pub in_order_after : ℕ → List ℕ → List ℕ
in_order_after p cs = above p cs ++ below p cs

-- from v to each of the children, on through what is below the child, and back to v
abbrev pub through : (below : ℕ → ℕ → List Stop) → ℕ → List ℕ → List Stop
through below v [] = []
through below v (c ∷ cs) = (v, c) ∷ (below c v ++ (c, v) ∷ through below v cs)

-- what is below v, which is entered from p: through its children, in cyclic order after p. The
-- first number bounds the depth of the tree
abbrev pub tour_below : ℕ → Network → ℕ → ℕ → List Stop
tour_below zero net v p = []
tour_below (suc depth) net v p =
    through (tour_below depth net) v (in_order_after p (children_of net v))

-- from the root's first child t to the root, through its other children, and at last to t and
-- through what is below t
abbrev pub tour_of_children : Network → List ℕ → List Stop
tour_of_children net [] = []
tour_of_children net (t ∷ others) =
    (t, net.root)
    ∷ (through (tour_below net.nodes net) net.root others ++ (net.root, t)
    ∷ tour_below net.nodes net t net.root)

-- the tour begins where it comes to the root from the root's smallest child
abbrev pub tour : Network → List Stop
tour net = tour_of_children net (children_of net net.root)
