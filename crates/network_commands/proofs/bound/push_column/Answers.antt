use Rattle.std.proofs.Common.{rules}
use Rattle.network_commands.proofs.Spaced.{spaced-more}
use Rattle.network_commands.proofs.bound.push_column.Goals as goal

pub loop-v-preserved : goal.loop-v-preserved
loop-v-preserved c = spaced-more _ c.loop-v.v _ _ _ c.loop-v.invariant (search rules)
