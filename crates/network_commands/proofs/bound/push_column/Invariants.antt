use Rattle.std.proofs.Common.{◌≡◌, ◌++◌, string_bytes, map}
use Rattle.std.specs.List.{range_with_len}
use Rattle.network_commands.specs.Bound.{column_word, spaced}
use Rattle.network_commands.proofs.bound.push_column.Given as goal

-- the words of the nodes so far
abbrev pub invariant-loop-v : goal.invariant-loop-v
invariant-loop-v l = string_bytes l.text ≡ string_bytes l.initial.text ++ spaced (map (column_word l.column l.net) (range_with_len 0 l.v))
