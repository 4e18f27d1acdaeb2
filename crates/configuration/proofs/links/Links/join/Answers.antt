use Rattle.std.proofs.Common.{◌≡◌, ◌<◌, None, [], subst, sym}
use Rattle.topology.specs.Change.{join_fault}
use Rattle.topology.specs.Network.{Network, IsAcceptedNetwork, joined_net}
use Rattle.run_model.specs.World.{at_pair}
use Rattle.configuration.specs.LinksView.{LinksView, IsLinks, spare_pairs, under_way}
use Rattle.configuration.proofs.Changing.{joined-links, joined-under, must-ok}
use Rattle.configuration.proofs.links.Links.join.Given as given
use Rattle.configuration.proofs.links.Links.join.Goals as goal

-- the links before, and what holds for the edge
module _ (g : given.Over) (c : goal.After-lay-2 g) where
  abbrev old : LinksView
  old = record { net = c.self.inside.net; places = c.self.inside.places; links = c.self.inside.links.items; spares = c.self.inside.spares.items }

  allowed : join_fault old.net c.args.u c.args.v ≡ None
  allowed = rw (← c.self.view_is) at c.requires.allowed

  some : 0 < spare_pairs old
  some = rw (← c.self.view_is) at c.requires.spare

  accepted : IsAcceptedNetwork (joined_net old.net c.args.u c.args.v)
  accepted = c.changes.ensures.joined old.net c.args.u c.args.v c.self.invariant.0.network allowed

  net-is : joined_net old.net c.args.u c.args.v ≡ c.join-joined.new.self
  net-is = sym (must-ok c.join-joined.result (join_fault old.net c.args.u c.args.v) allowed c.join-joined.ensures.refused c.join-joined.ensures.joined)

  -- the links afterwards, in a network
  abbrev with-edge : Network → LinksView
  with-edge n = record { net = n; places = c.lay-2.new.places; links = old.links; spares = c.lay-2.new.spares.items }

pub invariant_of-self : goal.invariant_of-self
invariant_of-self g c = (
  subst (λ n. IsLinks (with-edge g c n)) (net-is g c)
      (joined-links (old g c) c.args.u c.args.v c.lay.new.places c.lay-2.new.places c.lay.new.spares.items c.lay-2.new.spares.items c.self.invariant.0 (allowed g c) (some g c) (accepted g c)
      c.lay.ensures.nodes c.lay-2.ensures.nodes c.lay.ensures.values c.lay.ensures.spares c.lay-2.ensures.values c.lay-2.ensures.spares),
  rw (c.lay-2.ensures.capacity, c.lay.ensures.capacity) c.self.invariant.1,
)

pub returns-clause-empty : goal.returns-clause-empty
returns-clause-empty g c =
    rw (← c.self.view_is)
    (subst (λ n. under_way (with-edge g c n) ≡ at_pair (at_pair (under_way (old g c)) c.args.u c.args.v []) c.args.v c.args.u []) (net-is g c)
    (joined-under (old g c) c.args.u c.args.v c.lay.new.places c.lay-2.new.places c.lay.new.spares.items c.lay-2.new.spares.items c.self.invariant.0 (allowed g c) (some g c) (accepted g c)
    c.lay.ensures.nodes c.lay-2.ensures.nodes c.lay.ensures.values c.lay.ensures.spares c.lay-2.ensures.values c.lay-2.ensures.spares))
