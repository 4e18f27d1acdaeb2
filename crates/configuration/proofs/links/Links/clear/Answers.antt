use Rattle.std.proofs.lemmas.List.{length-set}
use Rattle.configuration.proofs.LinkMoves.{IsAt, found-at, clear-links, clear-under}
use Rattle.configuration.proofs.links.Links.clear.Given as given
use Rattle.configuration.proofs.links.Links.clear.Goals as goal

-- where the link is
module _ (g : given.Over) (c : goal.After-self-1 g) where
  here : IsAt (record { net = c.self.inside.net; places = c.self.inside.places; links = c.self.inside.links.items; spares = c.self.inside.spares.items }) c.args.from c.args.to c.place-place.result c.index_mut.result.now
  here = found-at c.self.view_is c.self.invariant.0 c.requires.from_in c.requires.to_in c.place-place.ensures.place c.index_mut.ensures.value

pub invariant_of-self : goal.invariant_of-self
invariant_of-self g c =
    (clear-links (here g c) c.clear.new.self c.clear.ensures, rw (length-set c.self.inside.links.items c.place-place.result c.clear.new.self) c.self.invariant.1)

pub returns-clause-empty : goal.returns-clause-empty
returns-clause-empty g c = rw (← c.self.view_is) (clear-under (here g c) c.clear.new.self c.clear.ensures)
