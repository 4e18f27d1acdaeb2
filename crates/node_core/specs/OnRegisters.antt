-- The machines as they stand in a node's registers: the same notions as for a state of the node,
-- for functions that see the registers alone.
use Rattle.std.specs.Prelude.{ℕ, Bool, ◌&&◌, IsTrue, List, Option, Contains, if◌then◌else◌}
use Rattle.registers.specs.k_state.Machine.{root_moved, is_privileged}
use Rattle.registers.specs.Registers.{RegistersView, IsRegisters, port_of, value_of}
use Rattle.euler_ring.specs.Cycle.{is_named, is_on}

-- the tree neighbours are neighbours of these registers
pub record IsTreeWithin (r : RegistersView) (tree : List ℕ) : Type 0 where
  pub registers : IsRegisters r
  pub neighbours : (w : ℕ) → IsTrue (is_on tree w) → Contains r.neighbours w

-- the machine from t may move, if `chosen` is the special one
abbrev pub machine_may_move : RegistersView → Option ℕ → ℕ → Bool
machine_may_move r chosen t =
    is_privileged (is_named chosen t) (value_of r t) (port_of r t).copy.ring

-- its value after a move
abbrev pub machine_moved : RegistersView → Option ℕ → ℕ → ℕ
machine_moved r chosen t =
    if is_named chosen t then root_moved (value_of r t) r.ranges.ring else (port_of r t).copy.ring

-- the values after all machines that may move have moved
abbrev pub values_moved : RegistersView → List ℕ → Option ℕ → ℕ → ℕ
values_moved r tree chosen t =
    if is_on tree t && machine_may_move r chosen t then machine_moved r chosen t else value_of r t
