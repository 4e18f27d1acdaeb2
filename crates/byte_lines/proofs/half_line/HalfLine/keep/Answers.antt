use Rattle.std.proofs.Common.{rules, ◌≤◌, ◌+◌, length, sym, arith}
use Rattle.std.proofs.lemmas.Slice.{take-put_mid}
use Rattle.byte_lines.proofs.Keeping.{kept_long}
use Rattle.byte_lines.proofs.half_line.HalfLine.keep.Goals as goal

pub returns-then-count-bytes : goal.returns-then-count-bytes
returns-then-count-bytes g c =
    let a = c.self.inside.length in
    let old = c.self.inside.bytes in
    let now = c.copy_from_slice.new.self in
    let few : a ≤ g.row.N = c.self.invariant.0 in
    let within : a ≤ length old = omega (arith, few, c.self.told) in
    kept_long g.row.N a old c.args.bytes.now within few c.args.self.now _ now c.self.inside.is_long (sym c.self.view_is)
    (take-put_mid a _ old now (a + c.min-count.result) (omega arith) within) (search rules) (search rules)
