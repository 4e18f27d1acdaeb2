-- How many nodes are privileged, and how many lend.
use Rattle.std.specs.Prelude.{ℕ, count_by}
use Rattle.std.specs.List.{range_with_len}
use Rattle.run_model.specs.World.{World}
use Rattle.run_model.specs.Privilege.{is_privileged, is_lending}

-- the number of privileged nodes
abbrev pub privileged_count : World → ℕ
privileged_count w = count_by (is_privileged w) (range_with_len 0 w.net.nodes)

-- the number of nodes that lend
abbrev pub lending_count : World → ℕ
lending_count w = count_by (is_lending w) (range_with_len 0 w.net.nodes)
