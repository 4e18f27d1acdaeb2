use Rattle.std.proofs.Common.{◌≡◌, ◌++◌, map, take}
use Rattle.configuration.specs.ConfigurationView.{world_of}
use Rattle.configuration.specs.run_model.declared.event.Harm.TheVariants as harm
use Rattle.record_gathering.specs.declared.facts.Fact.TheVariants.{Written}
use Rattle.record_gathering.proofs.facts.add_link.Given as goal

abbrev pub invariant-loop-index : goal.invariant-loop-index
invariant-loop-index g l =
    l.facts.items
    ≡ l.fn.facts.items ++ map (λ item. Written (harm.Item l.from l.to item)) (take l.index ((world_of l.world).link l.from l.to))
