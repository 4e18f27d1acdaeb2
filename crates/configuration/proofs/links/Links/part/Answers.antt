use Rattle.std.proofs.Common.{◌≡◌, ◌≢◌, ◌∙◌, IsTrue, [], subst, sym, true, slice_set}
use Rattle.std.proofs.lemmas.Bool.{false≢true}
use Rattle.std.proofs.lemmas.List.{length-set}
use Rattle.topology.specs.Network.{Network, IsAcceptedNetwork, are_joined, parted_net}
use Rattle.run_model.specs.World.{at_pair}
use Rattle.configuration.specs.LinksView.{LinksView, IsLinks, under_way}
use Rattle.configuration.proofs.Changing.{AreEmptied, emptied, parted-links, parted-under}
use Rattle.configuration.proofs.LinkMoves.{IsAt}
use Rattle.configuration.proofs.links.Links.part.Given as given
use Rattle.configuration.proofs.links.Links.part.Goals as goal

-- the links before, the same with both links of the edge empty, and what holds for the edge
module _ (g : given.Over) (c : goal.After-give_back-2 g) where
  abbrev old : LinksView
  old = record { net = c.self.inside.net; places = c.self.inside.places; links = c.self.inside.links.items; spares = c.self.inside.spares.items }

  abbrev both : LinksView
  both = record old { links = slice_set (slice_set old.links c.from-out.result c.clear.new.self) c.from-back.result c.clear-2.new.self }

  here : IsAt old c.args.u c.args.v c.from-out.result c.index_mut.result.now
  here = record {
    links = c.self.invariant.0;
    from_in = rw (← c.self.view_is) at c.requires.from_in;
    to_in = rw (← c.self.view_is) at c.requires.to_in;
    place = c.from-out.ensures ∙ c.get.ensures;
    value = c.index_mut.ensures.value;
  }

  empty : AreEmptied old c.args.u c.args.v both
  empty = emptied _ _ _ _ _ _ _ _ _ here c.clear.ensures (c.from-back.ensures ∙ c.get-2.ensures) c.index_mut-2.ensures.value c.clear-2.ensures

  joined : IsTrue (are_joined old.net.edges c.args.u c.args.v)
  joined = rw (← c.self.view_is) at c.requires.joined

  back : IsTrue (are_joined old.net.edges c.args.v c.args.u)
  back = rw (c.joined.ensures.back old.net.edges c.args.v c.args.u) joined

  no-loop : c.args.u ≢ c.args.v
  no-loop same = false≢true (sym (c.joined.ensures.not_to_itself old.net c.args.v c.self.invariant.0.network) ∙ subst (λ k. are_joined old.net.edges k c.args.v ≡ true) same joined)

  accepted : IsAcceptedNetwork (parted_net old.net c.args.u c.args.v)
  accepted = c.changes.ensures.parted old.net c.args.u c.args.v c.self.invariant.0.network c.in_ok-part.ensures.allowed

  -- the links afterwards, in a network
  abbrev without-edge : Network → LinksView
  without-edge n = record { net = n; places = c.give_back-2.new.places; links = both.links; spares = c.give_back-2.new.spares.items }

  still-links : IsLinks (without-edge (parted_net old.net c.args.u c.args.v))
  still-links =
      parted-links both c.args.u c.args.v c.give_back.new.places c.give_back-2.new.places c.give_back.new.spares.items c.give_back-2.new.spares.items
      empty.links here.from_in here.to_in joined back no-loop empty.out empty.back c.changes.ensures.who_is_parted c.changes.ensures.one_less accepted
      c.give_back.ensures.nodes c.give_back-2.ensures.nodes c.give_back.ensures.values c.give_back.ensures.spares c.give_back-2.ensures.values c.give_back-2.ensures.spares

  still-under : under_way (without-edge (parted_net old.net c.args.u c.args.v)) ≡ under_way both
  still-under =
      parted-under both c.args.u c.args.v c.give_back.new.places c.give_back-2.new.places c.give_back.new.spares.items c.give_back-2.new.spares.items
      empty.links here.from_in here.to_in joined back no-loop empty.out empty.back c.changes.ensures.who_is_parted c.changes.ensures.one_less accepted
      c.give_back.ensures.nodes c.give_back-2.ensures.nodes c.give_back.ensures.values c.give_back.ensures.spares c.give_back-2.ensures.values c.give_back-2.ensures.spares

pub invariant_of-self-2 : goal.invariant_of-self-2
invariant_of-self-2 g c = (
  subst (λ n. IsLinks (without-edge g c n)) (sym c.in_ok-part.ensures.parted) (still-links g c),
  rw (c.give_back-2.ensures.capacity, c.give_back.ensures.capacity, length-set (slice_set c.self.inside.links.items c.from-out.result c.clear.new.self) c.from-back.result c.clear-2.new.self, length-set c.self.inside.links.items c.from-out.result c.clear.new.self) c.self.invariant.1,
)

pub returns-clause-empty : goal.returns-clause-empty
returns-clause-empty g c =
    rw (← c.self.view_is)
    (subst (λ n. under_way (without-edge g c n) ≡ at_pair (at_pair (under_way (old g c)) c.args.u c.args.v []) c.args.v c.args.u [])
    (sym c.in_ok-part.ensures.parted) (still-under g c ∙ (empty g c).under))
