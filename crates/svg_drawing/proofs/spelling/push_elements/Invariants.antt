use Rattle.std.proofs.Common.{◌≡◌, ◌++◌, take}
use Rattle.std.specs.List.{flat_map}
use Rattle.svg_drawing.specs.Spelling.{element_text}
use Rattle.svg_drawing.proofs.spelling.push_elements.Given as goal

-- the first elements are added
abbrev pub invariant-loop-element : goal.invariant-loop-element
invariant-loop-element l = l.text.items ≡ l.fn.text.items ++ flat_map element_text (take l.element-index l.elements)
