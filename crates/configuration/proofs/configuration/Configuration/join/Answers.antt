use Rattle.std.proofs.Common.{◌≡◌, ◌∙◌, ◌<◌, ◌++◌, ◌-◌, ◌∷◌, [], sym, subst, refl, arith, true, List, None}
use Rattle.topology.specs.Network.{Edge, neighbours_of, joined_net}
use Rattle.run_model.specs.node_core.Site.{site_of}
use Rattle.run_model.specs.node_core.View.{site_in}
use Rattle.run_model.specs.Rewire.{can_join}
use Rattle.run_model.specs.Step.{refusal}
use Rattle.run_model.specs.declared.event.Event.TheVariants.{Damage}
use Rattle.run_model.specs.declared.event.Harm.TheVariants as harm
use Rattle.run_model.specs.declared.happened.Happened.TheVariants.{Damaged}
use Rattle.configuration.specs.LinksView.{spare_pairs}
use Rattle.configuration.specs.ConfigurationView.{ConfigurationView, AreNodesOf, node_at, world_of}
use Rattle.configuration.specs.Rewired.{IsRewired}
use Rattle.configuration.proofs.EdgeHarms.{edge-world, join-fault-none, join-none, joins-two}
use Rattle.configuration.proofs.Rewiring.{AreRewired, are-rewired, other-edges, second-site}
use Rattle.configuration.proofs.WorldSteps.{accepted, step-is}
use Rattle.configuration.proofs.configuration.Configuration.join.Given as given
use Rattle.configuration.proofs.configuration.Configuration.join.Goals as goal

pub join-requires-clause-allowed : goal.join-requires-clause-allowed
join-requires-clause-allowed g c =
    let net = c.self.inside.links.net in
    let ok = rw (← c.self.view_is) at c.in_ok-find_nodes.ensures.ok in
    let can : can_join net c.args.u c.args.v ≡ true = (let seen = sym c.may_join.ensures ∙ c.if-not-may_join.false in rw (← c.self.view_is) at seen) in
    join-fault-none net c.args.u c.args.v ok.0 ok.1 can

pub rewire-requires-clause-site : goal.rewire-requires-clause-site
rewire-requires-clause-site g c =
    let net = c.self.inside.links.net in
    let ok = rw (← c.self.view_is) at c.in_ok-find_nodes.ensures.ok in
    let read : c.net.result.now ≡ joined_net net c.args.u c.args.v = c.net.ensures.net ∙ c.join.ensures.net in
    subst (λ n. record (site_in (node_at c.self.inside.nodes.items c.args.u)) { neighbours = neighbours_of n c.args.u } ≡ site_of n c.args.u) (sym read)
    (other-edges net (net.edges ++ (c.args.u, c.args.v) ∷ []) c.self.inside.nodes.items c.args.u c.self.invariant ok.0)

pub rewire-requires-2-clause-site : goal.rewire-requires-2-clause-site
rewire-requires-2-clause-site g c =
    let net = c.self.inside.links.net in
    let nodes = c.self.inside.nodes.items in
    let ok = rw (← c.self.view_is) at c.in_ok-find_nodes.ensures.ok in
    let can : can_join net c.args.u c.args.v ≡ true = (let seen = sym c.may_join.ensures ∙ c.if-not-may_join.false in rw (← c.self.view_is) at seen) in
    let first : IsRewired (joined_net net c.args.u c.args.v) nodes c.args.u c.rewire.new.nodes.items =
    subst (λ n. IsRewired n nodes c.args.u c.rewire.new.nodes.items) (c.net.ensures.net ∙ c.join.ensures.net) c.rewire.ensures in
    let read : c.net-2.result.now ≡ joined_net net c.args.u c.args.v = c.net-2.ensures.net ∙ c.join.ensures.net in
    subst (λ n. record (site_in (node_at c.rewire.new.nodes.items c.args.v)) { neighbours = neighbours_of n c.args.v } ≡ site_of n c.args.v) (sym read)
    (second-site net (net.edges ++ (c.args.u, c.args.v) ∷ []) c.args.u c.args.v ok.0 ok.1 (joins-two net c.args.u c.args.v can)
    (c.changes.ensures.others_at_join net c.args.u c.args.v) nodes c.rewire.new.nodes.items c.rewire.new.nodes.items c.self.invariant first)

-- the configuration before, the edges afterwards, and both ends with their new neighbours
module _ (g : given.Over) (c : goal.After-rewire-2 g) where
  abbrev old : ConfigurationView
  old = record { nodes = c.self.inside.nodes.items; links = c.self.inside.links }

  abbrev edges : List Edge
  edges = old.links.net.edges ++ (c.args.u, c.args.v) ∷ []

  can : can_join old.links.net c.args.u c.args.v ≡ true
  can = let seen = sym c.may_join.ensures ∙ c.if-not-may_join.false in rw (← c.self.view_is) at seen

  first : IsRewired (joined_net old.links.net c.args.u c.args.v) old.nodes c.args.u c.rewire.new.nodes.items
  first = subst (λ n. IsRewired n old.nodes c.args.u c.rewire.new.nodes.items) (c.net.ensures.net ∙ c.join.ensures.net) c.rewire.ensures

  second : IsRewired (joined_net old.links.net c.args.u c.args.v) c.rewire.new.nodes.items c.args.v c.rewire-2.new.nodes.items
  second = subst (λ n. IsRewired n c.rewire.new.nodes.items c.args.v c.rewire-2.new.nodes.items) (c.net-2.ensures.net ∙ c.join.ensures.net) c.rewire-2.ensures

  ends : AreRewired old.links.net edges c.args.u c.args.v old.nodes c.rewire-2.new.nodes.items
  ends =
      let ok = rw (← c.self.view_is) at c.in_ok-find_nodes.ensures.ok in
      are-rewired old.links.net edges c.args.u c.args.v ok.0 ok.1 (joins-two old.links.net c.args.u c.args.v can)
      (c.changes.ensures.others_at_join old.links.net c.args.u c.args.v) old.nodes c.rewire.new.nodes.items c.rewire-2.new.nodes.items c.self.invariant first second

pub invariant_of-self : goal.invariant_of-self
invariant_of-self g c = subst (λ n. AreNodesOf n c.rewire-2.new.nodes.items) (sym c.join.ensures.net) (ends g c).nodes

pub returns : goal.returns
returns g c =
    let w : ConfigurationView = old g c in
    let ok = rw (← c.self.view_is) at c.in_ok-find_nodes.ensures.ok in
    let some : 0 < (world_of w).spares = (let t = c.if-spares-eq0.false in let k : c.spares.result ≡ (world_of w).spares = c.spares.ensures in omega (arith, t, k)) in
    let none : refusal (world_of w) (Damage (harm.Join c.args.u c.args.v)) ≡ None = join-none (world_of w) c.args.u c.args.v ok.2 (can g c) some in
    let leads = edge-world w c.args.u c.args.v (spare_pairs w.links - 1) (edges g c) c.join.new.self c.rewire-2.new.nodes.items c.join.ensures.net c.join.ensures.spares c.join.ensures.empty (ends g c).states in
    rw (← c.self.view_is) (accepted w (record { nodes = c.rewire-2.new.nodes.items; links = c.join.new.self }) (Damage (harm.Join c.args.u c.args.v)) Damaged none
    (leads ∙ sym (step-is (world_of w) (Damage (harm.Join c.args.u c.args.v)) none)) refl)
