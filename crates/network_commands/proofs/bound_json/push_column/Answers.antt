use Rattle.std.proofs.Common.{rules}
use Rattle.network_commands.proofs.Listed.{listed-more}
use Rattle.network_commands.proofs.bound_json.push_column.Goals as goal

pub loop-v-preserved : goal.loop-v-preserved
loop-v-preserved c = listed-more _ c.loop-v.v _ _ c.column_value.result c.loop-v.invariant (search rules) (search rules)
