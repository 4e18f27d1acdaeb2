use Rattle.std.proofs.Common.{◌≡◌, ◌++◌, ◌+◌, ◌*◌, take, length}
use Rattle.std.specs.List.{flat_map}
use Rattle.arrayvec.specs.ArrayVec.{array_vec_len}
use Rattle.node_core.specs.View.{site_in, state_of}
use Rattle.state_writing.specs.Spelling.{header_numbers, port_numbers}
use Rattle.state_writing.specs.declared.layout.FileLayout.TheVariants.{Tkt2}
use Rattle.state_writing.proofs.writing.numbers_of.Given as goal

-- the numbers of the header and of the ports so far
abbrev pub invariant-loop-w : goal.invariant-loop-w
invariant-loop-w g l =
    let s = state_of l.fn.node in
    (l.numbers.items ≡ header_numbers Tkt2 l.fn.net (site_in l.fn.node).id (length l.neighbours) s ++ flat_map (port_numbers s) (take l.w-index l.neighbours))
    × (array_vec_len l.numbers ≡ 6 + 10 * l.w-index)
