use Rattle.std.proofs.Common.{◌≡◌, ◌++◌, map, take}
use Rattle.svg_drawing.specs.Drawn.{fixed_of, given_of}
use Rattle.svg_drawing.proofs.element.push_all.Given as goal

-- the first attributes are added
abbrev pub invariant-loop-attribute : goal.invariant-loop-attribute
invariant-loop-attribute l = map given_of l.attributes.items ≡ map given_of l.fn.attributes.items ++ map fixed_of (take l.attribute-index l.fixed)
