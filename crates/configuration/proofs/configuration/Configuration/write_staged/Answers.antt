use Rattle.std.proofs.Common.{refl}
use Rattle.topology.specs.Ranges.{payload_fits}
use Rattle.run_model.specs.node_core.Writes.{with_port}
use Rattle.run_model.specs.declared.event.Harm.TheVariants.{Staged}
use Rattle.configuration.proofs.NodePlaces.{now-nodes, port-at}
use Rattle.configuration.proofs.Harms.{port-answers}
use Rattle.configuration.proofs.configuration.Configuration.write_staged.Goals as goal

pub set_staged-requires : goal.set_staged-requires
set_staged-requires g c = (port-at c.self.view_is c.self.invariant c.in_ok-find_link.ensures.ok c.in_ok-find_link.ensures.near c.from.ensures c.index_mut.ensures.value).near

pub invariant_of-self : goal.invariant_of-self
invariant_of-self g c = now-nodes _ _ _ _ _ (port-at c.self.view_is c.self.invariant c.in_ok-find_link.ensures.ok c.in_ok-find_link.ensures.near c.from.ensures c.index_mut.ensures.value).here c.set_staged.new.self c.set_staged.ensures.site

pub returns : goal.returns
returns g c = port-answers _ c.set_staged.result c.damaged.result (Staged c.args.node c.args.neighbour c.args.payload) (λ r. payload_fits r c.args.payload) (λ s. with_port s c.args.neighbour (record (s.port c.args.neighbour) { staged = c.args.payload }))
    c.self.view_is (port-at c.self.view_is c.self.invariant c.in_ok-find_link.ensures.ok c.in_ok-find_link.ensures.near c.from.ensures c.index_mut.ensures.value)
    refl refl refl refl c.set_staged.ensures.variant c.set_staged.ensures.ok c.set_staged.ensures.out_of_range c.damaged.ensures.ok c.damaged.ensures.did c.damaged.ensures.err
