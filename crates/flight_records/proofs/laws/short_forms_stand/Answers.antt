use Rattle.flight_records.proofs.ShortForms.{short_forms-stand}
use Rattle.flight_records.proofs.laws.short_forms_stand.Goals as goal

pub returns : goal.returns
returns c = short_forms-stand
