-- The names of a record's files.
use Rattle.std.specs.Prelude.{ℕ, List, ◌++◌, codes, decimal}
use Rattle.flight_recorder.specs.declared.recorder.Side.{Side}
use Rattle.flight_recorder.specs.declared.recorder.Side.TheVariants.{First, Second}

-- the first file has the number 0, the second one 1
abbrev pub side_number : Side → ℕ
side_number First = 0
side_number Second = 1

-- a file of the record of node `id`, with its folder
abbrev pub record_name : List ℕ → ℕ → Side → List ℕ
record_name dir id side = dir ++ (codes "/record-" ++ (decimal id ++ (codes "." ++ decimal (side_number side))))
