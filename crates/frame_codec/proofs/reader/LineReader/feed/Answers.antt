use Rattle.std.proofs.Common.{◌++◌, ◌∙◌, ap}
use Rattle.topology.specs.Ranges.{ranges_of}
use Rattle.frame_codec.proofs.Cutting.{reads_on}
use Rattle.frame_codec.proofs.reader.LineReader.feed.Goals as goal

pub returns-clause-frames : goal.returns-clause-frames
returns-clause-frames g c =
    let (frames, put, reads) = c.read_frames.ensures in
    rw (← c.self.view_is, ← c.ranges-2.ensures) (frames, put ∙ ap (λ xs. xs ++ frames) c.reserve.ensures.items, reads)

pub returns-clause-any_cutting : goal.returns-clause-any_cutting
returns-clause-any_cutting g c =
    let (frames, put, reads) = returns-clause-frames g c in
    (frames, put, reads_on c.any_cutting.ensures (ranges_of c.args.net.now) c.args.self.now c.read_frames.new.half c.args.piece.now frames reads)
