use Rattle.std.proofs.lemmas.List.{length-set}
use Rattle.configuration.proofs.LinkMoves.{IsAt, IsTakenFrom, found-at, take-from, take-links, take-under, take-result, take-fits}
use Rattle.configuration.proofs.links.Links.take.Given as given
use Rattle.configuration.proofs.links.Links.take.Goals as goal

-- where the link is, and what became of it
module _ (g : given.Over) (c : goal.After-self-1 g) where
  here : IsAt (record { net = c.self.inside.net; places = c.self.inside.places; links = c.self.inside.links.items; spares = c.self.inside.spares.items }) c.args.from c.args.to c.place-place.result c.index_mut.result.now
  here = found-at c.self.view_is c.self.invariant.0 c.requires.from_in c.requires.to_in c.place-place.ensures.place c.index_mut.ensures.value

  is : IsTakenFrom here c.take.new.self c.take.result
  is = take-from here c.take.new.self c.take.result c.take.ensures.some c.take.ensures.none

pub invariant_of-self : goal.invariant_of-self
invariant_of-self g c =
    (take-links (here g c) c.take.new.self c.take.result (is g c), rw (length-set c.self.inside.links.items c.place-place.result c.take.new.self) c.self.invariant.1)

pub returns-clause-taken : goal.returns-clause-taken
returns-clause-taken g c = rw (← c.self.view_is) (take-result (here g c) c.take.new.self c.take.result (is g c))

pub returns-clause-rest : goal.returns-clause-rest
returns-clause-rest g c = rw (← c.self.view_is) (take-under (here g c) c.take.new.self c.take.result (is g c))

pub returns-clause-fits : goal.returns-clause-fits
returns-clause-fits g c = rw (← c.self.view_is) (take-fits (here g c) c.take.new.self c.take.result (is g c))
