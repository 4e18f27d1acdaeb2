use Rattle.std.proofs.Common.{refl, nat_lt}
use Rattle.topology.specs.At.{at}
use Rattle.run_model.specs.declared.event.Harm.TheVariants.{Value}
use Rattle.configuration.proofs.NodePlaces.{now-nodes, port-at}
use Rattle.configuration.proofs.Harms.{port-answers, less-test}
use Rattle.configuration.proofs.configuration.Configuration.write_value.Goals as goal

pub set_value-requires : goal.set_value-requires
set_value-requires g c = (port-at c.self.view_is c.self.invariant c.in_ok-find_link.ensures.ok c.in_ok-find_link.ensures.near c.from.ensures c.index_mut.ensures.value).near

pub invariant_of-self : goal.invariant_of-self
invariant_of-self g c = now-nodes _ _ _ _ _ (port-at c.self.view_is c.self.invariant c.in_ok-find_link.ensures.ok c.in_ok-find_link.ensures.near c.from.ensures c.index_mut.ensures.value).here c.set_value.new.self c.set_value.ensures.site

pub returns : goal.returns
returns g c = port-answers _ c.set_value.result c.damaged.result (Value c.args.node c.args.neighbour c.args.value) (λ r. nat_lt c.args.value r.ring) (λ s. record s { value = at s.value c.args.neighbour c.args.value })
    c.self.view_is (port-at c.self.view_is c.self.invariant c.in_ok-find_link.ensures.ok c.in_ok-find_link.ensures.near c.from.ensures c.index_mut.ensures.value)
    refl refl refl refl (less-test c.args.value _ c.set_value.ensures.variant) c.set_value.ensures.ok c.set_value.ensures.out_of_range c.damaged.ensures.ok c.damaged.ensures.did c.damaged.ensures.err
