-- Where the nodes stand, and lines between them.
use Rattle.std.specs.Prelude.{◌≡◌, ℕ, ◌+◌, ◌-◌, ◌*◌, ◌/◌, ◌≤◌, ◌<◌, ◌⊎◌, Bool, ◌||◌, not, nat_lt, IsTrue, if◌then◌else◌, List, ◌++◌, codes, decimal, slice_index_or}
use Rattle.topology.specs.Network.{Network}
use Rattle.topology.specs.Tree.{distance_of}
use Rattle.svg_drawing.specs.Lengths.{px}
use Rattle.svg_drawing.specs.declared.canvas.Point.{Point}
use Rattle.run_film.specs.declared.stage.Stage.{Stage}

-- the left end of the root's row, and the place of an id that is no node's
abbrev pub root_place : Point
root_place = record { x = record { 0 = 0 }; y = record { 0 = 136 } }

-- the place of a node
abbrev pub place_in : Stage → ℕ → Point
place_in stage v = slice_index_or stage.places v root_place

-- Each node stands as many rows below the root's row as its true distance is, and the rows are equally far apart.
-- No node stands as far down as ten million.
pub record IsStage (net : Network) (stage : Stage) : Type 0 where
  pub rise : ℕ
  pub some : 80 ≤ rise
  pub heights : (v : ℕ) → v < net.nodes → (place_in stage v).y.0 ≡ 136 + rise * distance_of net v
  pub few : (v : ℕ) → v < net.nodes → (place_in stage v).y.0 < 10000000

-- the steps of a line begin at a place
abbrev pub IsWayFrom : Point → List ℕ → Type 0
IsWayFrom from text = (rest : List ℕ) × (text ≡ codes "M" ++ (decimal from.x.0 ++ (codes " " ++ (decimal from.y.0 ++ rest))))

-- they begin at a place, and end at another
abbrev pub IsWay : Point → Point → List ℕ → Type 0
IsWay from to text =
    (between : List ℕ)
    × (text ≡ codes "M" ++ (decimal from.x.0 ++ (codes " " ++ (decimal from.y.0 ++ (between ++ (decimal to.x.0 ++ (codes " " ++ decimal to.y.0)))))))

-- they begin between two places
abbrev pub IsWayFromMiddle : Point → Point → List ℕ → Type 0
IsWayFromMiddle a b text = (from : Point) × (from.x.0 ≡ px (a.x.0 + b.x.0) / 2) × IsWayFrom from text

-- a quarter of the way from one length to another, rounded down twice
abbrev pub quarter : ℕ → ℕ → ℕ
quarter a b = px (px (a * 3) + b) / 2 / 2

-- the corner beside a node of a bent line: 24 across from the node, on the side of the other one
abbrev pub corner : ℕ → ℕ → ℕ
corner a b = if nat_lt a b then px (a + 24) else a - 24

-- how far from the left a dot turns that travels half of the line from a node to another: a quarter of the way
-- along a straight line, or at the corner of a bent one
abbrev pub IsBetween : ℕ → ℕ → ℕ → Type 0
IsBetween a b x = (x ≡ quarter a b) ⊎ (x ≡ corner a b)

-- five eighths of the way from one length to another, rounded down at each half
abbrev pub past_middle : ℕ → ℕ → ℕ
past_middle a b = px (px (a * 3) + px (b * 5)) / 2 / 2 / 2

-- there is room for words between two neighbours in a row; there is none for a number
abbrev pub is_wide : Stage → Bool
is_wide stage = not (nat_lt stage.stride.0 112)

abbrev pub is_narrow : Stage → Bool
is_narrow stage = nat_lt stage.stride.0 64

-- ---- words beside nodes

-- half of the width of the widest words of a ticket, `lends to 65535`, or `to 65535` if there is no room for that,
-- with 7 for a letter
abbrev pub half_width : Stage → ℕ
half_width stage = if is_wide stage then 49 else 28

-- Words of this half-width, whose line begins 10 above this place and ends 3 below it, keep clear of a node with
-- its signs, which reaches 21 to each side.
abbrev pub is_clear_of : Point → Point → ℕ → Bool
is_clear_of node at half =
    nat_lt (node.y.0 + 31) at.y.0 || nat_lt (at.y.0 + 24) node.y.0
    || nat_lt (node.x.0 + (half + 21)) at.x.0 || nat_lt (at.x.0 + (half + 21)) node.x.0

-- they keep clear of all nodes
abbrev pub IsClearOfNodes : Network → Stage → Point → ℕ → Type 0
IsClearOfNodes net stage at half = (v : ℕ) → v < net.nodes → IsTrue (is_clear_of (place_in stage v) at half)

-- words stand in one of two lines below a row
abbrev pub IsBelow : ℕ → ℕ → Type 0
IsBelow row y = (y ≡ px (row + 36)) ⊎ (y ≡ px (row + 48))
