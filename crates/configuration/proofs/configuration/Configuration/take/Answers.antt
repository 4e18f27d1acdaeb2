use Rattle.std.proofs.Common.{sym, subst, Contains}
use Rattle.configuration.specs.ConfigurationView.{ConfigurationView}
use Rattle.configuration.proofs.NodePlaces.{IsNodeAt, found-there, now-nodes, site-is}
use Rattle.configuration.proofs.WorldSteps.{take-none, take-some}
use Rattle.configuration.proofs.configuration.Configuration.take.Given as given
use Rattle.configuration.proofs.configuration.Configuration.take.Goals as goal

pub take-requires-in-Some : goal.take-requires-in-Some
take-requires-in-Some g c =
    let ok = c.in_ok-find_link.ensures.ok in
    let here = found-there c.self.view_is c.self.invariant (c.from.ensures, ok.1, ok.2) c.index_mut.ensures.value in
    let near = rw (← c.self.view_is) at c.in_ok-find_link.ensures.near in
    subst (λ s. Contains s.neighbours c.args.from) (sym (site-is _ _ _ _ _ here)) near.1

-- the configuration before, and the place of the node that takes the item
module _ (g : given.Over) (c : goal.After-self-1 g) where
  abbrev old : ConfigurationView
  old = record { nodes = c.self.inside.nodes.items; links = c.self.inside.links }

  here : IsNodeAt old.links.net old.nodes c.args.to c.from.result c.index_mut.result.now
  here =
      let ok = c.in_ok-find_link.ensures.ok in
      found-there c.self.view_is c.self.invariant (c.from.ensures, ok.1, ok.2) c.index_mut.ensures.value

pub invariant_of-self : goal.invariant_of-self
invariant_of-self g c = rw c.take.ensures.net (now-nodes _ _ _ _ _ (here g c) c.take-in-Some.new.self c.take-in-Some.ensures.site)

pub returns-in-Some : goal.returns-in-Some
returns-in-Some g c =
    let ok = rw (← c.self.view_is) at c.in_ok-find_link.ensures.ok in
    rw (← c.self.view_is) (take-some (old g c) c.args.from c.args.to ok.3 c.from.result c.index_mut.result.now c.take-in-Some.new.self c.take.new.self c.in-Some.item (here g c)
    (record { net = c.take.ensures.net; spares = c.take.ensures.spares }) c.in-Some.ensures.taken c.take.ensures.rest c.take-in-Some.ensures.state)

pub returns-in-None : goal.returns-in-None
returns-in-None g c =
    let ok = rw (← c.self.view_is) at c.in_ok-find_link.ensures.ok in
    rw (← c.self.view_is) (take-none _ c.args.from c.args.to ok.3 c.take.new.self (record { net = c.take.ensures.net; spares = c.take.ensures.spares }) c.in-None.ensures.taken c.take.ensures.rest)
