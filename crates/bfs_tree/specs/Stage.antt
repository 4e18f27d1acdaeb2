-- How far the written distances are right while the tree forms.
use Rattle.std.specs.Prelude.{ℕ, Bool, if◌then◌else◌, nat_lt, nat_le, ◌==◌}

-- a distance written for a node is of stage k: exact if the node's true distance is below k, else
-- at least k
abbrev pub is_of_stage : (k true_distance written : ℕ) → Bool
is_of_stage k true_distance written =
    if nat_lt true_distance k then written == true_distance else nat_le k written
