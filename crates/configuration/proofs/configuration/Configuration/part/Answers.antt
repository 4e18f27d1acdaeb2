use Rattle.std.proofs.Common.{◌≡◌, ◌∙◌, ◌+◌, sym, subst, refl, List, None, Err}
use Rattle.topology.specs.Network.{Edge, IsAcceptedNetwork, neighbours_of, edges_without, parted_net}
use Rattle.run_model.specs.node_core.Site.{site_of}
use Rattle.run_model.specs.node_core.View.{site_in}
use Rattle.run_model.specs.Step.{refusal}
use Rattle.run_model.specs.declared.event.Event.TheVariants.{Damage}
use Rattle.run_model.specs.declared.event.EventFault.TheVariants.{Apart}
use Rattle.run_model.specs.declared.event.Harm.TheVariants as harm
use Rattle.run_model.specs.declared.happened.Happened.TheVariants.{Damaged}
use Rattle.configuration.specs.Answers.{Answers}
use Rattle.configuration.specs.LinksView.{spare_pairs}
use Rattle.configuration.specs.ConfigurationView.{ConfigurationView, AreNodesOf, node_at, world_of}
use Rattle.configuration.specs.Rewired.{IsRewired}
use Rattle.configuration.proofs.EdgeHarms.{IsParted, edge-world, part-apart, part-did, part-none, part-undone, parts-two, unchanged-answers}
use Rattle.configuration.proofs.Rewiring.{AreRewired, are-rewired, other-edges, second-site}
use Rattle.configuration.proofs.WorldSteps.{accepted, step-is}
use Rattle.configuration.proofs.configuration.Configuration.part.Given as given
use Rattle.configuration.proofs.configuration.Configuration.part.Goals as goal

pub invariant_of-self : goal.invariant_of-self
invariant_of-self g c =
    let w : ConfigurationView = record { nodes = c.self.inside.nodes.items; links = c.self.inside.links } in
    let undone = part-undone w c.args.u c.args.v c.part.result c.part.new.self c.is_err.result c.is_err.ensures.value c.if-is_err.true c.part.ensures.allowed c.part.ensures.unchanged in
    subst (λ l. AreNodesOf l.net w.nodes) (sym undone.same) c.self.invariant

pub returns-then-is_err : goal.returns-then-is_err
returns-then-is_err g c =
    let w : ConfigurationView = record { nodes = c.self.inside.nodes.items; links = c.self.inside.links } in
    let ok = rw (← c.self.view_is) at c.in_ok-find_link.ensures.ok in
    let undone = part-undone w c.args.u c.args.v c.part.result c.part.new.self c.is_err.result c.is_err.ensures.value c.if-is_err.true c.part.ensures.allowed c.part.ensures.unchanged in
    rw (← c.self.view_is) (subst (λ l. Answers w (Damage (harm.Part c.args.u c.args.v)) (record { nodes = w.nodes; links = l }) (Err Apart)) (sym undone.same)
    (unchanged-answers w (harm.Part c.args.u c.args.v) Apart (part-apart (world_of w) c.args.u c.args.v ok.3 undone.cannot)))

pub rewire-requires-clause-site : goal.rewire-requires-clause-site
rewire-requires-clause-site g c =
    let w : ConfigurationView = record { nodes = c.self.inside.nodes.items; links = c.self.inside.links } in
    let ok = rw (← c.self.view_is) at c.in_ok-find_link.ensures.ok in
    let did = part-did w c.args.u c.args.v c.part.result c.part.new.self c.is_err.result c.is_err.ensures.value c.if-is_err.false c.part.ensures.allowed c.part.ensures.net c.part.ensures.spares c.part.ensures.empty in
    let read : c.net-2.result.now ≡ parted_net w.links.net c.args.u c.args.v = c.net-2.ensures.net ∙ did.net in
    subst (λ n. record (site_in (node_at w.nodes c.args.u)) { neighbours = neighbours_of n c.args.u } ≡ site_of n c.args.u) (sym read)
    (other-edges w.links.net (edges_without w.links.net.edges c.args.u c.args.v) w.nodes c.args.u c.self.invariant ok.0)

pub rewire-requires-2-clause-site : goal.rewire-requires-2-clause-site
rewire-requires-2-clause-site g c =
    let w : ConfigurationView = record { nodes = c.self.inside.nodes.items; links = c.self.inside.links } in
    let ok = rw (← c.self.view_is) at c.in_ok-find_link.ensures.ok in
    let no-loop = parts-two w.links.net c.args.u c.args.v c.joined.ensures.not_to_itself (subst IsAcceptedNetwork c.net.ensures.net c.nodes-known_nodes.ensures.network) ok.2 in
    let did = part-did w c.args.u c.args.v c.part.result c.part.new.self c.is_err.result c.is_err.ensures.value c.if-is_err.false c.part.ensures.allowed c.part.ensures.net c.part.ensures.spares c.part.ensures.empty in
    let first : IsRewired (parted_net w.links.net c.args.u c.args.v) w.nodes c.args.u c.rewire.new.nodes.items =
    subst (λ n. IsRewired n w.nodes c.args.u c.rewire.new.nodes.items) (c.net-2.ensures.net ∙ did.net) c.rewire.ensures in
    let read : c.net-3.result.now ≡ parted_net w.links.net c.args.u c.args.v = c.net-3.ensures.net ∙ did.net in
    subst (λ n. record (site_in (node_at c.rewire.new.nodes.items c.args.v)) { neighbours = neighbours_of n c.args.v } ≡ site_of n c.args.v) (sym read)
    (second-site w.links.net (edges_without w.links.net.edges c.args.u c.args.v) c.args.u c.args.v ok.0 ok.1 no-loop
    (c.changes.ensures.others_at_part w.links.net c.args.u c.args.v) w.nodes c.rewire.new.nodes.items c.rewire.new.nodes.items c.self.invariant first)

-- the configuration before, the edges afterwards, the links, and both ends with their new
-- neighbours
module _ (g : given.Over) (c : goal.After-rewire-2 g) where
  abbrev old : ConfigurationView
  old = record { nodes = c.self.inside.nodes.items; links = c.self.inside.links }

  abbrev edges : List Edge
  edges = edges_without old.links.net.edges c.args.u c.args.v

  did : IsParted old c.args.u c.args.v c.part.new.self
  did = part-did old c.args.u c.args.v c.part.result c.part.new.self c.is_err.result c.is_err.ensures.value c.if-is_err.false c.part.ensures.allowed c.part.ensures.net c.part.ensures.spares c.part.ensures.empty

  first : IsRewired (parted_net old.links.net c.args.u c.args.v) old.nodes c.args.u c.rewire.new.nodes.items
  first = subst (λ n. IsRewired n old.nodes c.args.u c.rewire.new.nodes.items) (c.net-2.ensures.net ∙ did.net) c.rewire.ensures

  second : IsRewired (parted_net old.links.net c.args.u c.args.v) c.rewire.new.nodes.items c.args.v c.rewire-2.new.nodes.items
  second = subst (λ n. IsRewired n c.rewire.new.nodes.items c.args.v c.rewire-2.new.nodes.items) (c.net-3.ensures.net ∙ did.net) c.rewire-2.ensures

  ends : AreRewired old.links.net edges c.args.u c.args.v old.nodes c.rewire-2.new.nodes.items
  ends =
      let ok = rw (← c.self.view_is) at c.in_ok-find_link.ensures.ok in
      let no-loop = parts-two old.links.net c.args.u c.args.v c.joined.ensures.not_to_itself (subst IsAcceptedNetwork c.net.ensures.net c.nodes-known_nodes.ensures.network) ok.2 in
      are-rewired old.links.net edges c.args.u c.args.v ok.0 ok.1 no-loop
      (c.changes.ensures.others_at_part old.links.net c.args.u c.args.v) old.nodes c.rewire.new.nodes.items c.rewire-2.new.nodes.items c.self.invariant first second

pub invariant_of-self-2 : goal.invariant_of-self-2
invariant_of-self-2 g c = subst (λ n. AreNodesOf n c.rewire-2.new.nodes.items) (sym (did g c).net) (ends g c).nodes

pub returns : goal.returns
returns g c =
    let w : ConfigurationView = old g c in
    let ok = rw (← c.self.view_is) at c.in_ok-find_link.ensures.ok in
    let none : refusal (world_of w) (Damage (harm.Part c.args.u c.args.v)) ≡ None = part-none (world_of w) c.args.u c.args.v ok.3 (did g c).can in
    let leads = edge-world w c.args.u c.args.v (spare_pairs w.links + 1) (edges g c) c.part.new.self c.rewire-2.new.nodes.items (did g c).net (did g c).spares (did g c).empty (ends g c).states in
    rw (← c.self.view_is) (accepted w (record { nodes = c.rewire-2.new.nodes.items; links = c.part.new.self }) (Damage (harm.Part c.args.u c.args.v)) Damaged none
    (leads ∙ sym (step-is (world_of w) (Damage (harm.Part c.args.u c.args.v)) none)) refl)
