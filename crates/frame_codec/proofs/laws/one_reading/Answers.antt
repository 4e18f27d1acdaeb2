use Rattle.frame_codec.proofs.Readings.{reads, spells}
use Rattle.frame_codec.proofs.laws.one_reading.Goals as goal

pub returns : goal.returns
returns c = λ r narrow line f. (spells r line f, λ s. reads r narrow line f s.0 s.1)
