use Rattle.std.proofs.Common.{[], ◌∷◌}
use Rattle.topology.specs.Ranges.{ranges_of}
use Rattle.frame_codec.proofs.Cutting.{reads_on}
use Rattle.frame_codec.proofs.SaidFrames.{said_frames}
use Rattle.frame_codec.proofs.reader.LineReader.push.Goals as goal

pub returns-clause-frames : goal.returns-clause-frames
returns-clause-frames c =
    rw (c.flatten.ensures, ← c.ranges-2.ensures, ← c.self.view_is)
    (said_frames c.ranges-2.result c.self.inside.half c.push.new.self (c.args.byte ∷ []) c.push.result c.push.ensures.reads)

pub returns-clause-any_cutting : goal.returns-clause-any_cutting
returns-clause-any_cutting c =
    reads_on c.any_cutting.ensures (ranges_of c.args.net.now) c.args.self.now c.push.new.self (c.args.byte ∷ []) _ (returns-clause-frames c)
