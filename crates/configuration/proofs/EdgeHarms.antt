-- Harms that add or remove an edge.
use Rattle.std.proofs.Common.{◌≡◌, ◌≢◌, ◌∙◌, ◌+◌, inl, inr, is_err, OnOk, sym, ap, subst, Bool, true, false, ℕ, ◌<◌, [], arith, refl, IsTrue, List, None, Some, Result, Ok, Err, OnErr, ◌↔◌, IsOk}
use Rattle.std.proofs.lemmas.Bool.{cases_Bool, false≢true}
use Rattle.std.proofs.lemmas.Grind.{common_steps}
use Rattle.topology.specs.At.{at}
use Rattle.topology.specs.Network.{Edge, Network, IsAcceptedNetwork, are_joined, parted_net}
use Rattle.topology.specs.Laws.{NotToItself}
use Rattle.topology.specs.Tree.{is_connected}
use Rattle.topology.specs.Change.{join_fault}
use Rattle.run_model.specs.node_core.View.{NodeView}
use Rattle.run_model.specs.World.{World, at_pair}
use Rattle.run_model.specs.Rewire.{can_join, can_part, node_in, world_in}
use Rattle.run_model.specs.Step.{harm_fault, link_fault, nodes_fault, refusal}
use Rattle.run_model.specs.declared.event.Event.TheVariants.{Damage}
use Rattle.run_model.specs.declared.event.EventFault.{EventFault}
use Rattle.run_model.specs.declared.event.EventFault.TheVariants.{OutOfRange, NoSpare, Apart}
use Rattle.run_model.specs.declared.event.Harm.{Harm}
use Rattle.run_model.specs.declared.event.Harm.TheVariants as harm
use Rattle.configuration.specs.LinksView.{LinksView, spare_pairs, under_way}
use Rattle.configuration.specs.ConfigurationView.{ConfigurationView, states_of, world_of}
use Rattle.configuration.specs.Answers.{Answers}
use Rattle.configuration.proofs.WorldSteps.{first-none, refused, step-refused}

-- ---- which refusal it is

pub join-fault-none : (net : Network) (u v : ℕ) → u < net.nodes → v < net.nodes → can_join net u v ≡ true → join_fault net u v ≡ None
join-fault-none net u v un vn can = grind (arith, common_steps, un, vn, can)

-- an edge joins two nodes, not one
pub joins-two : (net : Network) (u v : ℕ) → can_join net u v ≡ true → u ≢ v
joins-two net u v can = grind (arith, common_steps, can)

-- an edge that may go joins two nodes, not one
pub parts-two : (net : Network) (u v : ℕ) → NotToItself → IsAcceptedNetwork net → are_joined net.edges u v ≡ true → u ≢ v
parts-two net u v not-to-itself ok joined same = false≢true (sym (not-to-itself net v ok) ∙ subst (λ k. are_joined net.edges k v ≡ true) same joined)

module _ (w : World) (u v : ℕ) (found : nodes_fault w u v ≡ None) where
  pub join-out-of-range : can_join w.net u v ≡ false → refusal w (Damage (harm.Join u v)) ≡ Some OutOfRange
  join-out-of-range cannot = first-none (nodes_fault w u v) (harm_fault w (harm.Join u v)) found ∙ rw cannot refl

  pub join-no-spare : can_join w.net u v ≡ true → w.spares ≡ 0 → refusal w (Damage (harm.Join u v)) ≡ Some NoSpare
  join-no-spare can none = first-none (nodes_fault w u v) (harm_fault w (harm.Join u v)) found ∙ rw (can, none) refl

  pub join-none : can_join w.net u v ≡ true → 0 < w.spares → refusal w (Damage (harm.Join u v)) ≡ None
  join-none can some = first-none (nodes_fault w u v) (harm_fault w (harm.Join u v)) found ∙ rw can (grind (arith, common_steps, some))

module _ (w : World) (u v : ℕ) (found : link_fault w u v ≡ None) where
  pub part-apart : can_part w.net u v ≡ false → refusal w (Damage (harm.Part u v)) ≡ Some Apart
  part-apart cannot = first-none (link_fault w u v) (harm_fault w (harm.Part u v)) found ∙ rw cannot refl

  pub part-none : can_part w.net u v ≡ true → refusal w (Damage (harm.Part u v)) ≡ None
  part-none can = first-none (link_fault w u v) (harm_fault w (harm.Part u v)) found ∙ rw can refl

-- ---- the world then

module _ (w : ConfigurationView) (u v k : ℕ) (edges : List Edge) (links : LinksView) (nodes : List NodeView)
    (net : links.net ≡ record w.links.net { edges = edges }) (spares : spare_pairs links ≡ k)
    (under : under_way links ≡ at_pair (at_pair (under_way w.links) u v []) v u [])
    (states : states_of (record w.links.net { edges = edges }) nodes
    ≡ at (at (states_of w.links.net w.nodes) u (node_in (world_of w) (record w.links.net { edges = edges }) u)) v (node_in (world_of w) (record w.links.net { edges = edges }) v)) where
  abbrev pub now : ConfigurationView
  now = record { nodes = nodes; links = links }

  pub edge-world : world_of now ≡ world_in (world_of w) (record w.links.net { edges = edges }) u v k
  edge-world =
      ap (λ n. record { net = n; spares = spare_pairs links; node = states_of n nodes; link = under_way links }) net
      ∙ ap (λ s. record { net = record w.links.net { edges = edges }; spares = s; node = states_of (record w.links.net { edges = edges }) nodes; link = under_way links }) spares
      ∙ ap (λ f. record { net = record w.links.net { edges = edges }; spares = k; node = f; link = under_way links }) states
      ∙ ap (λ f. record {
        net = record w.links.net { edges = edges };
        spares = k;
        node = at (at (states_of w.links.net w.nodes) u (node_in (world_of w) (record w.links.net { edges = edges }) u)) v (node_in (world_of w) (record w.links.net { edges = edges }) v);
        link = f;
      }) under

-- a refused harm has changed nothing
pub unchanged-answers : (w : ConfigurationView) (h : Harm) (fault : EventFault) → refusal (world_of w) (Damage h) ≡ Some fault → Answers w (Damage h) w (Err fault)
unchanged-answers w h fault some = refused w w (Damage h) fault some (sym (step-refused (world_of w) (Damage h) fault some))

-- ---- what the links answered

-- the edge may go, and has gone
pub record IsParted (w : ConfigurationView) (u v : ℕ) (links : LinksView) : Type 0 where
  pub can : can_part w.links.net u v ≡ true
  pub net : links.net ≡ parted_net w.links.net u v
  pub spares : spare_pairs links ≡ spare_pairs w.links + 1
  pub empty : under_way links ≡ at_pair (at_pair (under_way w.links) u v []) v u []

pub part-did : {T E : Type 0} (w : ConfigurationView) (u v : ℕ) (r : Result T E) (links : LinksView) (test : Bool) → test ≡ is_err r → test ≡ false
    → (IsOk r ↔ IsTrue (is_connected (parted_net w.links.net u v))) → OnOk r (links.net ≡ parted_net w.links.net u v) → OnOk r (spare_pairs links ≡ spare_pairs w.links + 1)
    → OnOk r (under_way links ≡ at_pair (at_pair (under_way w.links) u v []) v u []) → IsParted w u v links
part-did w u v (Ok x) links test is holds allowed net spares empty = record { can = allowed.0 refl; net = net; spares = spares; empty = empty }
part-did w u v (Err x) links test is holds allowed net spares empty = absurd (false≢true (sym holds ∙ is))

-- it may not go, and nothing has changed
pub record IsKeptWhole (w : ConfigurationView) (u v : ℕ) (links : LinksView) : Type 0 where
  pub cannot : can_part w.links.net u v ≡ false
  pub same : links ≡ w.links

pub part-undone : {T E : Type 0} (w : ConfigurationView) (u v : ℕ) (r : Result T E) (links : LinksView) (test : Bool) → test ≡ is_err r → test ≡ true
    → (IsOk r ↔ IsTrue (is_connected (parted_net w.links.net u v))) → OnErr r (links ≡ w.links) → IsKeptWhole w u v links
part-undone w u v (Ok x) links test is holds allowed same = absurd (false≢true (sym is ∙ holds))
part-undone w u v (Err x) links test is holds allowed same = record {
  cannot = elim (cases_Bool (can_part w.links.net u v)) [
    | inl connected ↦ (let t = allowed.1 connected in absurd cc)
    | inr torn ↦ torn
  ];
  same = same;
}
