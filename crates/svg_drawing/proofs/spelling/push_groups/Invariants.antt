use Rattle.std.proofs.Common.{◌≡◌, ◌++◌, take}
use Rattle.std.specs.List.{flat_map}
use Rattle.svg_drawing.specs.Spelling.{group_text}
use Rattle.svg_drawing.proofs.spelling.push_groups.Given as goal

-- the first groups are added
abbrev pub invariant-loop-group : goal.invariant-loop-group
invariant-loop-group l = l.text.items ≡ l.fn.text.items ++ flat_map group_text (take l.group-index l.groups)
