-- The runner that a thread hands back, by the one that it got.
use Rattle.std.specs.Prelude.{◌≡◌, ℕ, ◌+◌, ◌*◌, ◌<◌, ◌≤◌, Bool, true, false, List, length, vec_capacity}
use Rattle.node_runner.specs.weaving.Account.{Note}
use Rattle.node_runner.specs.declared.runner.Runner.{Runner}
use Rattle.node_runner.specs.Runner.{IsReady, Does, port_ids, round_room}
use Rattle.node_runner.specs.Rounds.{AreRounds}
use Rattle.node_runner.specs.Due.{BeginsWhole}

-- the runner is ready, with room for that number of turns
abbrev pub MayRun : {A : Type 0} → ℕ → Runner A → Type 0
MayRun turns r = IsReady r × (length r.journal.entries.items + turns * round_room r ≤ vec_capacity r.journal.entries)

-- it did that number of rounds, and nothing else; the first one is whole if a run begins with it
abbrev pub HasRun : {A : Type 0} → ℕ → Runner A → Runner A → Type 0
HasRun turns was now =
    (notes : List Note) × Does notes was now × AreRounds (port_ids was) turns notes
    × (length notes ≤ turns * round_room was) × (0 < turns → BeginsWhole was notes)

-- it did all its turns, or is as it was
abbrev pub Keeps : {A : Type 0} → ℕ → Runner A → Runner A → Bool → Type 0
Keeps turns was now true = HasRun turns was now
Keeps turns was now false = now ≡ was
