use Rattle.std.proofs.Common.{rules}
use Rattle.std.specs.Prelude.{nat_le}
use Rattle.std.proofs.lemmas.Fn.{filter_same}
use Rattle.status_readings.proofs.minute.Minute.drop_older.Goals as goal

pub returns : goal.returns
returns c = filter_same _ (λ old. nat_le c.args.oldest old.at) _ (λ x b q r. search rules) _ _ c.retain.ensures.filtered
