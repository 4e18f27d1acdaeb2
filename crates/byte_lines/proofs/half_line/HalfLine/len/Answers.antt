use Rattle.std.proofs.Common.{◌≡◌, ◌≤◌, ◌∙◌, length, take, arith}
use Rattle.std.proofs.lemmas.List.{length-take-le}
use Rattle.byte_lines.proofs.Keeping.{of_some}
use Rattle.byte_lines.proofs.half_line.HalfLine.len.Goals as goal

pub returns-clause-some : goal.returns-clause-some
returns-clause-some g c =
    let h = c.self.inside in
    let few : h.length ≤ g.row.N = c.self.invariant.0 in
    let len : length (take h.length h.bytes) ≡ h.length = length-take-le h.length h.bytes (omega (arith, few, c.self.told)) in
    rw (← c.self.view_is) (of_some g.row.N (take h.length h.bytes) h.is_long (omega (arith, len, few)) (λ long. len ∙ c.self.invariant.1 long))
