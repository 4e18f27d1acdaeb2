use Rattle.std.proofs.Common.{refl}
use Rattle.run_model.specs.data_link.Port.{counters_fit}
use Rattle.run_model.specs.node_core.Writes.{with_port}
use Rattle.run_model.specs.declared.event.Harm.TheVariants.{Counters}
use Rattle.configuration.proofs.NodePlaces.{now-nodes, port-at}
use Rattle.configuration.proofs.Harms.{port-answers}
use Rattle.configuration.proofs.configuration.Configuration.write_counters.Goals as goal

pub set_counters-requires : goal.set_counters-requires
set_counters-requires g c = (port-at c.self.view_is c.self.invariant c.in_ok-find_link.ensures.ok c.in_ok-find_link.ensures.near c.from.ensures c.index_mut.ensures.value).near

pub invariant_of-self : goal.invariant_of-self
invariant_of-self g c = now-nodes _ _ _ _ _ (port-at c.self.view_is c.self.invariant c.in_ok-find_link.ensures.ok c.in_ok-find_link.ensures.near c.from.ensures c.index_mut.ensures.value).here c.set_counters.new.self c.set_counters.ensures.site

pub returns : goal.returns
returns g c = port-answers _ c.set_counters.result c.damaged.result (Counters c.args.node c.args.neighbour c.args.seq c.args.last) (λ r. counters_fit r c.args.seq c.args.last) (λ s. with_port s c.args.neighbour (record (s.port c.args.neighbour) { seq = c.args.seq; last = c.args.last }))
    c.self.view_is (port-at c.self.view_is c.self.invariant c.in_ok-find_link.ensures.ok c.in_ok-find_link.ensures.near c.from.ensures c.index_mut.ensures.value)
    refl refl refl refl c.set_counters.ensures.variant c.set_counters.ensures.ok c.set_counters.ensures.out_of_range c.damaged.ensures.ok c.damaged.ensures.did c.damaged.ensures.err
