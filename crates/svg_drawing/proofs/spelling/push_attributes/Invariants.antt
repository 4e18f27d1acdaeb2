use Rattle.std.proofs.Common.{◌≡◌, ◌++◌, take}
use Rattle.std.specs.List.{flat_map}
use Rattle.svg_drawing.specs.Spelling.{attribute_text}
use Rattle.svg_drawing.proofs.spelling.push_attributes.Given as goal

-- the first attributes are added
abbrev pub invariant-loop-attribute : goal.invariant-loop-attribute
invariant-loop-attribute l = l.text.items ≡ l.fn.text.items ++ flat_map attribute_text (take l.attribute-index l.attributes)
