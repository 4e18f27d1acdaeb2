use Rattle.std.proofs.Common.{◌≡◌, ◌++◌, string_bytes, drop}
use Rattle.network_file.specs.Line.{new_edges_text}
use Rattle.network_file.proofs.line.push_new.Given as goal

-- what is written, and the edges that are left, are all that must be written
abbrev pub invariant-loop-edge : goal.invariant-loop-edge
invariant-loop-edge l = string_bytes l.initial.text
    ++ new_edges_text l.net.edges l.edges ≡ string_bytes l.text ++ new_edges_text l.net.edges (drop l.edge-index l.edges)
