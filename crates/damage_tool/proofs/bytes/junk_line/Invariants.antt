use Rattle.std.proofs.Common.{◌≡◌, ◌++◌, take, ◌-◌}
use Rattle.damage_tool.specs.Draws.{draw_junk, draw_bytes}
use Rattle.damage_tool.proofs.bytes.junk_line.Given as goal

-- what is still to be drawn goes after what was
abbrev pub invariant-loop-at : goal.invariant-loop-at
invariant-loop-at l =
    let rest = draw_bytes (l.length - l.at) l.generator in
    draw_junk l.fn.generator ≡ (take l.at l.line ++ rest.0, rest.1)
