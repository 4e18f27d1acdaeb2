-- Nodes as runners, and back: what each part of a runner is.
use Rattle.std.specs.Prelude.{◌≡◌, ℕ, ◌+◌, ◌*◌, ◌<◌, ◌≤◌, List, [], ◌∷◌, All, map, length, slice_index_or, vec_capacity}
use Rattle.judge.specs.node_core.View.{NodeView, site_in}
use Rattle.judge.specs.run_model.World.{World}
use Rattle.node_runner.specs.weaving.declared.journal.JournalEntry.{JournalEntry}
use Rattle.node_runner.specs.declared.runner.Runner.{Runner}
use Rattle.node_runner.specs.Runner.{IsNoted, IsReady, round_room}
use Rattle.thread_net.specs.Cables.{AreCabled, rows_of, Seat}

-- the node of each runner
abbrev pub nodes_of : {A : Type 0} → List (Runner A) → List NodeView
nodes_of runners = map (λ r. r.node) runners

-- the journal entries of each runner
abbrev pub entries_of_all : {A : Type 0} → List (Runner A) → List (List JournalEntry)
entries_of_all runners = map (λ r. r.journal.entries.items) runners

-- the seat is of its node, which has done nothing yet
pub record IsNew {A : Type 0} (s : Seat A) : Type 0 where
  pub id : s.0 ≡ (site_in s.1).id
  pub clock : s.2 ≡ 0
  pub journal : s.3.entries.items ≡ []

-- the most entries of a journal: one a turn, and three more for each neighbour
abbrev pub entry_room : ℕ → ℕ → ℕ
entry_room turns neighbours = turns * (1 + 3 * neighbours)

-- how many neighbours a node has
abbrev pub degree_of : NodeView → ℕ
degree_of node = length (site_in node).neighbours

-- no node has more than 64 neighbours
abbrev pub AreShort : List NodeView → Type 0
AreShort nodes = All (λ node. degree_of node ≤ 64) nodes

-- the most entries of the journals of some nodes
abbrev pub total_room : ℕ → List NodeView → ℕ
total_room turns [] = 0
total_room turns (node ∷ nodes) = entry_room turns (degree_of node) + total_room turns nodes

-- there is room in the journal for that number of turns
abbrev pub HasRoom : {A : Type 0} → ℕ → Seat A → Type 0
HasRoom turns s = entry_room turns (degree_of s.1) ≤ vec_capacity s.3.entries

-- v is as in the world, has done nothing yet, and has room for its turns
pub record IsAtStart {A : Type 0} (w : World) (turns v : ℕ) (r : Runner A) : Type 0 where
  pub said : IsNoted w v [] r
  pub ready : IsReady r
  pub clock : r.clock ≡ 0
  pub room : turns * round_room r ≤ vec_capacity r.journal.entries

-- there is a runner for each node, at the start, and their rings belong together
pub record AreAtStart {A : Type 0} (w : World) (turns : ℕ) (runners : List (Runner A)) : Type 0 where
  pub count : length runners ≡ w.net.nodes
  pub each : (v : ℕ) (d : Runner A) → v < w.net.nodes → IsAtStart w turns v (slice_index_or runners v d)
  pub cabled : AreCabled w.net (rows_of runners)
