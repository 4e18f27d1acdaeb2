use Rattle.std.proofs.Common.{[]}
use Rattle.frame_codec.proofs.Cutting.{pieces_join}
use Rattle.frame_codec.proofs.laws.any_cutting.Goals as goal

pub returns : goal.returns
returns c = λ r pieces. pieces_join c.any_cutting.ensures r [] pieces
