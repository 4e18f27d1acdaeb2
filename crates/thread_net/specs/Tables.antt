-- The tables to which the parts of runners go.
use Rattle.std.specs.Prelude.{◌≡◌, ℕ, ◌≤◌, List, [], map, vec_capacity}
use Rattle.std.specs.declared.vec.Vec.{Vec}
use Rattle.node_runner.specs.declared.runner.RunnerPort.{RunnerPort}
use Rattle.thread_net.specs.declared.seats.RunnerSeats.{RunnerSeats}

-- the ports in some tables
abbrev pub rows_in : {A : Type 0} → List (Vec (RunnerPort A) A) → List (List (RunnerPort A))
rows_in tables = map (λ table. table.items) tables

-- the tables are empty, with room for the parts of this many runners
pub record AreEmptySeats {A : Type 0} (count : ℕ) (seats : RunnerSeats A) : Type 0 where
  pub nodes : seats.nodes.items ≡ []
  pub journals : seats.journals.items ≡ []
  pub rows : seats.rows.items ≡ []
  pub node_room : count ≤ vec_capacity seats.nodes
  pub journal_room : count ≤ vec_capacity seats.journals
  pub row_room : count ≤ vec_capacity seats.rows
