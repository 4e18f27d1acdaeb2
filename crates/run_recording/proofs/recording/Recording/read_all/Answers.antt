use Rattle.std.proofs.Common.{◌≡◌, ◌∙◌, ap, ◌+◌, ◌-◌, ◌≤◌, ◌<◌, length, take, arith}
use Rattle.std.proofs.lemmas.Grind.{common_steps}
use Rattle.std.proofs.Math.Seq.{take-length}
use Rattle.world.specs.Simulating.{longest_text}
use Rattle.run_recording.proofs.recording.Recording.read_all.Goals as goal

pub returns-then-count-eq0-clause-text : goal.returns-then-count-eq0-clause-text
returns-then-count-eq0-clause-text g c =
    λ start bytes said h.
    let so_far = c.loop-count.invariant.7 start bytes said h in
    let n = longest_text - c.loop-count.left in
    let room : 0 < length c.read.new.buffer = grind (arith, common_steps) in
    let gives = rw c.if-count-eq0.true at c.in-Ok.ensures.reads.1 in
    let ended = c.reading_in_pieces.ensures.end bytes n _ _ c.read.new.buffer (so_far.0, so_far.1) gives room in
    let all : take n bytes ≡ bytes = ap (λ k. take k bytes) ended.1 ∙ take-length bytes in
    rw all at so_far.2

pub loop-count-preserved : goal.loop-count-preserved
loop-count-preserved g c =
    let n = longest_text - c.loop-count.left in
    let count = c.in-Ok.count in
    let few : c.min.result ≤ count = grind (arith, common_steps) in
    let all : n + c.min.result ≡ longest_text - (c.loop-count.left - count) = grind (arith, common_steps) in
    let next : n + count ≡ longest_text - (c.loop-count.left - count) = grind (arith, common_steps) in (
      grind (arith, common_steps),
      grind (arith, common_steps),
      grind (arith, common_steps),
      grind (arith, common_steps),
      grind (arith, common_steps),
      grind (arith, common_steps),
      grind (arith, common_steps),
      λ start bytes said h.
          let so_far = c.loop-count.invariant.7 start bytes said h in
          let gives = c.in-Ok.ensures.reads.1 in
          let read = rw next at (c.reading_in_pieces.ensures.more bytes n count _ _ c.read.new.buffer (so_far.0, so_far.1) gives) in
          let bytes_are = c.reading_in_pieces.ensures.next bytes n count c.min.result _ _ c.read.new.buffer (so_far.0, so_far.1) gives few ∙ ap (λ k. take k bytes) all in
          (read.0, read.1, rw bytes_are at (c.take.ensures.text start (take n bytes) so_far.2)),
    )
