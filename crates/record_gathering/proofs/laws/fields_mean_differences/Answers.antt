use Rattle.record_gathering.proofs.Differ.{fields-said, fields-quiet, fields-whole}
use Rattle.record_gathering.proofs.laws.fields_mean_differences.Goals as goal

pub returns : goal.returns
returns c = record { said = fields-said; quiet = fields-quiet; whole = fields-whole }
