use Rattle.std.proofs.Common.{◌∙◌}
use Rattle.network_hints.proofs.KeyNames.{one_of_names}
use Rattle.network_hints.proofs.key.is_key_name.Goals as goal

pub returns : goal.returns
returns c = c.contains.ensures.value ∙ one_of_names c.args.name.now
