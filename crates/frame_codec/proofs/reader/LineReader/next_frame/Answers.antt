use Rattle.topology.specs.Ranges.{ranges_of}
use Rattle.frame_codec.proofs.Cutting.{reads_on}
use Rattle.frame_codec.proofs.reader.LineReader.next_frame.Goals as goal

pub returns-clause-frames : goal.returns-clause-frames
returns-clause-frames c = rw (← c.self.view_is, ← c.ranges-2.ensures) c.find_frame.ensures.frames

pub returns-clause-any_cutting : goal.returns-clause-any_cutting
returns-clause-any_cutting c =
    reads_on c.any_cutting.ensures (ranges_of c.args.net.now) c.args.self.now c.find_frame.new.half _ _ (returns-clause-frames c)
