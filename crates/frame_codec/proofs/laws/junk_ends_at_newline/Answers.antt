use Rattle.frame_codec.proofs.Cutting.{junk_ends}
use Rattle.frame_codec.proofs.laws.junk_ends_at_newline.Goals as goal

pub returns : goal.returns
returns c = junk_ends c.any_cutting.ensures
