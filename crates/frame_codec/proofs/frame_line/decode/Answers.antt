use Rattle.std.proofs.Common.{rules, arith, ap, ◌∙◌}
use Rattle.topology.specs.Ranges.{ranges_of}
use Rattle.frame_codec.specs.Laws.{AreNarrow}
use Rattle.frame_codec.specs.Reading.{frame_of}
use Rattle.frame_codec.proofs.Readings.{found, reads}
use Rattle.frame_codec.proofs.frame_line.decode.Goals as goal

pub returns-clause-found : goal.returns-clause-found
returns-clause-found c =
    let line = c.args.line.now in
    found (ranges_of c.args.net.now) line c.read_line.result (c.read_line.ensures ∙ ap (λ r. frame_of r line) c.ranges-2.ensures)

pub returns-clause-only : goal.returns-clause-only
returns-clause-only c =
    let narrow : AreNarrow c.ranges-2.result = record { nodes = omega (arith, c.ranges-2.type_inv); counter = search rules; ring = search rules } in
    λ f e fits. c.read_line.ensures ∙ reads c.ranges-2.result narrow c.args.line.now f e (rw c.ranges-2.ensures fits)
