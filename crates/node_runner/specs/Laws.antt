-- The law of a node's rounds.
use Rattle.std.specs.Prelude.{◌≡◌, ℕ, List}
use Rattle.weaving.specs.Account.{Note}
use Rattle.node_runner.specs.Rounds.{AreRounds}
use Rattle.node_runner.specs.FirstTurn.{count_of, is_tick_of}
use Rattle.node_runner.specs.Due.{events_of}

-- in n rounds of v there are n ticks of v
abbrev pub EachRoundTicks : Type 0
EachRoundTicks =
    (v : ℕ) (neighbours : List ℕ) (n : ℕ) (notes : List Note) → AreRounds neighbours n notes
    → count_of (is_tick_of v) (events_of v notes) ≡ n
