use Rattle.std.proofs.Common.{◌≡◌, ◌++◌, drop}
use Rattle.node_texts.specs.LookText.{link_parts}
use Rattle.node_texts.proofs.look.link_parts.Given as goal

-- what is there, and the links that are left, are all
abbrev pub invariant-loop-id : goal.invariant-loop-id
invariant-loop-id l = link_parts l.notes.links l.now l.neighbours
    ≡ l.parts.items ++ link_parts l.notes.links l.now (drop l.id-index l.neighbours)
