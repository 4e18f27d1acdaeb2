-- What becomes of a node's registers if its neighbours change.
use Rattle.std.specs.Prelude.{ℕ, Bool, ◌&&◌, ◌==◌, if◌then◌else◌, List}
use Rattle.std.specs.List.{list_any}
use Rattle.data_link.specs.topology.declared.frame.Ranges.{Ranges}
use Rattle.data_link.specs.Port.{PortState, default_port}

-- w is one of the neighbours
abbrev pub is_among : List ℕ → ℕ → Bool
is_among neighbours w = list_any (λ u. u == w) neighbours

-- w is a neighbour before and after
abbrev pub stays : (old new : List ℕ) → ℕ → Bool
stays old new w = is_among old w && is_among new w

-- the port of a neighbour that stays is kept whole; a new one, and one that is gone, is as at the
-- start
abbrev pub rewired_ports : Ranges → (old new : List ℕ) → (ℕ → PortState) → ℕ → PortState
rewired_ports ranges old new port w = if stays old new w then port w else default_port ranges

-- and so is the value of the machine that comes in from there
abbrev pub rewired_values : (old new : List ℕ) → (ℕ → ℕ) → ℕ → ℕ
rewired_values old new value w = if stays old new w then value w else 0
