use Rattle.std.proofs.lemmas.List.{length-set}
use Rattle.configuration.proofs.LinkMoves.{IsAt, found-at, lose-links, lose-under, lose-none}
use Rattle.configuration.proofs.links.Links.lose.Given as given
use Rattle.configuration.proofs.links.Links.lose.Goals as goal

-- where the link is
module _ (g : given.Over) (c : goal.After-self-1 g) where
  here : IsAt (record { net = c.self.inside.net; places = c.self.inside.places; links = c.self.inside.links.items; spares = c.self.inside.spares.items }) c.args.from c.args.to c.place-place.result c.index_mut.result.now
  here = found-at c.self.view_is c.self.invariant.0 c.requires.from_in c.requires.to_in c.place-place.ensures.place c.index_mut.ensures.value

pub invariant_of-self : goal.invariant_of-self
invariant_of-self g c =
    (lose-links (here g c) c.lose.new.self c.lose.result c.args.index c.lose.ensures.ok c.lose.ensures.no_item, rw (length-set c.self.inside.links.items c.place-place.result c.lose.new.self) c.self.invariant.1)

pub returns-clause-ok : goal.returns-clause-ok
returns-clause-ok g c = rw (← c.self.view_is) (lose-under (here g c) c.lose.new.self c.lose.result c.args.index c.lose.ensures.ok)

pub returns-clause-no_item : goal.returns-clause-no_item
returns-clause-no_item g c = rw (← c.self.view_is) (lose-none (here g c) c.lose.new.self c.lose.result c.lose.ensures.no_item)
