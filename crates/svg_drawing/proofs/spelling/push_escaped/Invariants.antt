use Rattle.std.proofs.Common.{◌≡◌, ◌++◌, take}
use Rattle.std.specs.List.{flat_map}
use Rattle.svg_drawing.specs.Spelling.{escaped_byte}
use Rattle.svg_drawing.proofs.spelling.push_escaped.Given as goal

-- the first bytes are added
abbrev pub invariant-loop-byte : goal.invariant-loop-byte
invariant-loop-byte l = l.text.items ≡ l.fn.text.items ++ flat_map escaped_byte (take l.byte-index l.meant)
