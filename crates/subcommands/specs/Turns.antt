-- What follows a scramble, in the order of its events.
use Rattle.experiments.specs.declared.plan.Order.{Order}
use Rattle.experiments.specs.declared.plan.Order.TheVariants.{Rounds as InRounds, Random as AtRandom}
use Rattle.subcommands.specs.declared.schedule.Turns.{Turns}
use Rattle.subcommands.specs.declared.schedule.Turns.TheVariants.{Rounds, Random}
use Rattle.subcommands.specs.Damaged.{seeded}

-- rounds, or random steps drawn from the generator of their seed
abbrev pub order_of : Turns → Order
order_of (Rounds count) = InRounds count
order_of (Random steps seed chances) = AtRandom steps chances (seeded seed)
