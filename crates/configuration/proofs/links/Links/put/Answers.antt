use Rattle.std.proofs.lemmas.List.{length-set}
use Rattle.std.proofs.Common.{IsTrue}
use Rattle.topology.specs.Network.{are_joined}
use Rattle.topology.specs.Ranges.{ranges_of}
use Rattle.run_model.specs.World.{item_fits}
use Rattle.configuration.proofs.LinkMoves.{IsAt, found-at, put-links, put-under}
use Rattle.configuration.proofs.links.Links.put.Given as given
use Rattle.configuration.proofs.links.Links.put.Goals as goal

-- where the link is
module _ (g : given.Over) (c : goal.After-self-1 g) where
  here : IsAt (record { net = c.self.inside.net; places = c.self.inside.places; links = c.self.inside.links.items; spares = c.self.inside.spares.items }) c.args.from c.args.to c.place-place.result c.index_mut.result.now
  here = found-at c.self.view_is c.self.invariant.0 c.requires.from_in c.requires.to_in c.place-place.ensures.place c.index_mut.ensures.value

pub invariant_of-self : goal.invariant_of-self
invariant_of-self g c =
    let fits : IsTrue (item_fits (ranges_of c.self.inside.net) c.args.item) = rw (← c.self.view_is) at c.requires.fits in
    (put-links (here g c) c.put-lost.result c.args.item c.put-lost.new.self fits c.put-lost.ensures.variant c.put-lost.ensures.ok c.put-lost.ensures.full, rw (length-set c.self.inside.links.items c.place-place.result c.put-lost.new.self) c.self.invariant.1)

pub returns-clause-put : goal.returns-clause-put
returns-clause-put g c =
    let joined : IsTrue (are_joined c.self.inside.net.edges c.args.from c.args.to) = rw (← c.self.view_is) at c.requires.joined in
    rw (← c.self.view_is) (put-under (here g c) c.put-lost.result c.args.item c.put-lost.new.self joined c.put-lost.ensures.variant c.put-lost.ensures.ok c.put-lost.ensures.full)
