use Rattle.record_gathering.proofs.Quiet.{parts-quiet, taken-quiet, sent-quiet}
use Rattle.record_gathering.proofs.laws.harms_mean_differences.Goals as goal

pub returns : goal.returns
returns c = record { parts = parts-quiet; taken = taken-quiet; sent = sent-quiet }
