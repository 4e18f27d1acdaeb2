use Rattle.std.proofs.Common.{refl}
use Rattle.topology.specs.Ranges.{payload_fits}
use Rattle.run_model.specs.node_core.Writes.{with_port}
use Rattle.run_model.specs.declared.event.Harm.TheVariants.{Copy}
use Rattle.configuration.proofs.NodePlaces.{now-nodes, port-at}
use Rattle.configuration.proofs.Harms.{port-answers}
use Rattle.configuration.proofs.configuration.Configuration.write_copy.Goals as goal

pub set_copy-requires : goal.set_copy-requires
set_copy-requires g c = (port-at c.self.view_is c.self.invariant c.in_ok-find_link.ensures.ok c.in_ok-find_link.ensures.near c.from.ensures c.index_mut.ensures.value).near

pub invariant_of-self : goal.invariant_of-self
invariant_of-self g c = now-nodes _ _ _ _ _ (port-at c.self.view_is c.self.invariant c.in_ok-find_link.ensures.ok c.in_ok-find_link.ensures.near c.from.ensures c.index_mut.ensures.value).here c.set_copy.new.self c.set_copy.ensures.site

pub returns : goal.returns
returns g c = port-answers _ c.set_copy.result c.damaged.result (Copy c.args.node c.args.neighbour c.args.payload) (λ r. payload_fits r c.args.payload) (λ s. with_port s c.args.neighbour (record (s.port c.args.neighbour) { copy = c.args.payload }))
    c.self.view_is (port-at c.self.view_is c.self.invariant c.in_ok-find_link.ensures.ok c.in_ok-find_link.ensures.near c.from.ensures c.index_mut.ensures.value)
    refl refl refl refl c.set_copy.ensures.variant c.set_copy.ensures.ok c.set_copy.ensures.out_of_range c.damaged.ensures.ok c.damaged.ensures.did c.damaged.ensures.err
