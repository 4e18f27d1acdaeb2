use Rattle.std.proofs.Common.{◌≡◌, ◌∙◌, ap, ◌+◌, ◌-◌, ◌≤◌, ◌<◌, length, take, arith}
use Rattle.std.proofs.lemmas.Grind.{common_steps}
use Rattle.std.proofs.Math.Seq.{take-length}
use Rattle.world.specs.Simulating.{longest_text}
use Rattle.world.proofs.SimulatedPieces.{beginning_of_lines}
use Rattle.world.proofs.simulation.under_way.Simulation.read_all.Given as given
use Rattle.world.proofs.simulation.under_way.Simulation.read_all.Goals.{After-min}
use Rattle.world.proofs.simulation.under_way.Simulation.read_all.Goals as goal

-- what may be taken of a piece
taken-few : (g : given.Over) (c : After-min g) → c.min.result ≤ c.in-Ok.count
taken-few g c = grind (arith, common_steps)

pub returns-in_default-clause-text : goal.returns-in_default-clause-text
returns-in_default-clause-text g c =
    λ start bytes before said h.
    let so_far = c.loop-count.invariant.5 start bytes before said h in
    let failed = c.in_default.ensures.reads in
    record {
      count = longest_text - c.loop-count.left;
      read = (so_far.0, failed.0 ∙ so_far.1);
      short = grind (arith, common_steps);
      written = so_far.2.has_run.written;
    }

pub returns-then-count-eq0-clause-text : goal.returns-then-count-eq0-clause-text
returns-then-count-eq0-clause-text g c =
    λ start bytes before said h.
    let so_far = c.loop-count.invariant.5 start bytes before said h in
    let n = longest_text - c.loop-count.left in
    let room : 0 < length c.read.new.buffer = grind (arith, common_steps) in
    let gives = rw c.if-count-eq0.true at c.in-Ok.ensures.reads.1 in
    let ended = c.reading_in_pieces.ensures.end bytes n _ _ c.read.new.buffer (so_far.0, so_far.1) gives room in
    let short : length bytes ≤ longest_text = omega (arith, ended.1) in
    let all : take n bytes ≡ bytes = ap (λ k. take k bytes) ended.1 ∙ take-length bytes in
    (ended.0, short, rw all at so_far.2)

pub returns-in_default-take-clause-text : goal.returns-in_default-take-clause-text
returns-in_default-take-clause-text g c =
    λ start bytes before said h.
    let so_far = c.loop-count.invariant.5 start bytes before said h in
    let n = longest_text - c.loop-count.left in
    let count = c.in-Ok.count in
    let few = taken-few g (goal.at.returns-in_default-take-clause-text g c).After-min in
    let fewer : n + c.min.result ≤ n + count = omega (arith, few) in
    let bytes_are = c.reading_in_pieces.ensures.next bytes n count c.min.result _ _ c.read.new.buffer (so_far.0, so_far.1) c.in-Ok.ensures.reads.1 few in
    record {
      count = n + count;
      read = c.reading_in_pieces.ensures.more bytes n count _ _ c.read.new.buffer (so_far.0, so_far.1) c.in-Ok.ensures.reads.1;
      written = beginning_of_lines c.any_cutting.ensures start bytes (n + c.min.result) (n + count) before _ fewer
          (rw bytes_are at (c.in_default-take.ensures.text start (take n bytes) before so_far.2));
    }

pub returns-then-count-left-clause-text : goal.returns-then-count-left-clause-text
returns-then-count-left-clause-text g c =
    λ start bytes before said h.
    let so_far = c.loop-count.invariant.5 start bytes before said h in
    let n = longest_text - c.loop-count.left in
    let count = c.in-Ok.count in
    let few = taken-few g (goal.at.returns-then-count-left-clause-text g c).After-min in
    let all : n + c.min.result ≡ longest_text = grind (arith, common_steps) in
    let bytes_are = c.reading_in_pieces.ensures.next bytes n count c.min.result _ _ c.read.new.buffer (so_far.0, so_far.1) c.in-Ok.ensures.reads.1 few ∙ ap (λ k. take k bytes) all in
    record {
      count = n + count;
      read = c.reading_in_pieces.ensures.more bytes n count _ _ c.read.new.buffer (so_far.0, so_far.1) c.in-Ok.ensures.reads.1;
      long = grind (arith, common_steps);
      written = rw bytes_are at (c.in-Ok-take.ensures.text start (take n bytes) before so_far.2).has_run.written;
    }

pub loop-count-preserved : goal.loop-count-preserved
loop-count-preserved g c =
    let n = longest_text - c.loop-count.left in
    let count = c.in-Ok.count in
    let few = taken-few g (goal.at.loop-count-preserved g c).After-min in
    let all : n + c.min.result ≡ longest_text - (c.loop-count.left - count) = grind (arith, common_steps) in
    let next : n + count ≡ longest_text - (c.loop-count.left - count) = grind (arith, common_steps) in (
      grind (arith, common_steps),
      grind (arith, common_steps),
      grind (arith, common_steps),
      grind (arith, common_steps),
      grind (arith, common_steps),
      λ start bytes before said h.
          let so_far = c.loop-count.invariant.5 start bytes before said h in
          let gives = c.in-Ok.ensures.reads.1 in
          let read = rw next at (c.reading_in_pieces.ensures.more bytes n count _ _ c.read.new.buffer (so_far.0, so_far.1) gives) in
          let bytes_are = c.reading_in_pieces.ensures.next bytes n count c.min.result _ _ c.read.new.buffer (so_far.0, so_far.1) gives few ∙ ap (λ k. take k bytes) all in
          (read.0, read.1, rw bytes_are at (c.in-Ok-take.ensures.text start (take n bytes) before so_far.2)),
    )
