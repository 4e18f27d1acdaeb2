-- Whether a network serves, by the sights of its nodes.
use Rattle.std.proofs.Common.{◌≡◌, ◌∙◌, ap, sym, subst, ℕ, ◌<◌, ◌≤◌, ◌≢◌, Bool, true, false, Option, Some, IfSome, IsTrue, inl, inr, arith, refl, [], ◌∷◌}
use Rattle.std.proofs.Math.Path.{fun_ext}
use Rattle.std.proofs.lemmas.Grind.{common_steps}
use Rattle.std.proofs.lemmas.Bool.Decides.{nat_tests}
use Rattle.std.specs.Prelude.{◌⊎◌, ◌↔◌, is_some, IsSome, IsNone}
use Rattle.std.proofs.lemmas.Bool.{cases_Bool, cases_lt}
use Rattle.topology.specs.Network.{Network, IsDistance, IsTrueParent}
use Rattle.run_model.specs.node_core.Machines.{is_node_privileged}
use Rattle.run_model.specs.node_core.Site.{Site, site_of}
use Rattle.run_model.specs.node_core.State.{LocalState}
use Rattle.run_model.specs.World.{World}
use Rattle.run_model.specs.Step.{step}
use Rattle.run_model.specs.Run.{is_damage, IsUndamaged}
use Rattle.run_model.specs.Laws.{NetworkStays, OwnNodeAlone}
use Rattle.run_model.specs.Headline.{IsServing}
use Rattle.run_model.specs.Touched.{is_node_touched}
use Rattle.run_model.specs.declared.event.Event.{Event}
use Rattle.run_model.specs.declared.event.Event.TheVariants.{Send, Take, Lose, Tick, Ask, Leave, Damage}
use Rattle.run_model.specs.declared.event.Harm.{Harm}
use Rattle.configuration.specs.Sight.{sight_of, IsTouchedSight, SightsDecide}
use Rattle.configuration.specs.declared.sight.Sight.{Sight}

-- ---- the network and the sights decide

-- the headline's conclusion, for a network and the sight of each node
record IsServingBy (net : Network) (sight : ℕ → Sight) : Type 0 where
  distances : (v : ℕ) → v < net.nodes → IsDistance net v (sight v).distance
  no_parent : IsNone (sight net.root).parent
  some_parent : (v : ℕ) → v < net.nodes → v ≢ net.root → IsSome (sight v).parent
  parents : (v : ℕ) → v < net.nodes → IfSome (sight v).parent (IsTrueParent net v)
  one_privileged : (u v : ℕ) → u < net.nodes → v < net.nodes → IsTrue (sight u).privileged → IsTrue (sight v).privileged → u ≡ v
  one_lending : (u v : ℕ) → u < net.nodes → v < net.nodes → IsTrue (sight u).lending → IsTrue (sight v).lending → u ≡ v

by-sights : (w : World) → IsServing w → IsServingBy w.net (sight_of w)
by-sights w s = record {
  distances = s.distances;
  no_parent = s.no_parent;
  some_parent = s.some_parent;
  parents = s.parents;
  one_privileged = s.one_privileged;
  one_lending = s.one_lending;
}

from-sights : (w : World) → IsServingBy w.net (sight_of w) → IsServing w
from-sights w s = record {
  distances = s.distances;
  no_parent = s.no_parent;
  some_parent = s.some_parent;
  parents = s.parents;
  one_privileged = s.one_privileged;
  one_lending = s.one_lending;
}

serves-too : (a b : World) → a.net ≡ b.net → ((v : ℕ) → sight_of a v ≡ sight_of b v) → IsServing a → IsServing b
serves-too a b net sights serving =
    from-sights b (subst (λ (n : Network). IsServingBy n (sight_of b)) net
    (subst (λ (f : ℕ → Sight). IsServingBy a.net f) (fun_ext sights) (by-sights a serving)))

-- ---- an event and the sights

sight_in : Site → LocalState → Sight
sight_in site s = record {
  distance = s.distance;
  parent = s.parent;
  privileged = is_node_privileged site s;
  lending = is_some s.desk.lent;
}

sight-is : (w : World) (v : ℕ) → sight_of w v ≡ sight_in (site_of w.net v) (w.node v)
unfolding sight_in
sight-is w v = refl

sight-by : (a b : World) (v : ℕ) → a.net ≡ b.net → a.node v ≡ b.node v → sight_of a v ≡ sight_of b v
sight-by a b v net node =
    sight-is a v ∙ ap (λ (n : Network). sight_in (site_of n v) (a.node v)) net ∙ ap (sight_in (site_of b.net v)) node ∙ sym (sight-is b v)

-- an event at an id without a node is refused
no-node : (w : World) (e : Event) (v : ℕ) → is_damage w e ≡ false → is_node_touched e v ≡ true → w.net.nodes ≤ v → step w e ≡ w
no-node w e v harmless own out = grind (arith, common_steps, nat_tests)

one-undamaged : (w : World) (e : Event) → is_damage w e ≡ false → IsUndamaged w (e ∷ [])
one-undamaged w e harmless = grind (arith, common_steps)

some-same : (a b : Sight) → Some a ≡ Some b → a ≡ b
some-same a b same = cc

module _ (alone : OwnNodeAlone) (network : NetworkStays) where
  net-stays : (w : World) (e : Event) → is_damage w e ≡ false → (step w e).net ≡ w.net
  net-stays w e harmless = network w (e ∷ []) (one-undamaged w e harmless)

  sight-stays : (w : World) (e : Event) (v : ℕ) → is_damage w e ≡ false
      → (v < w.net.nodes → IsTrue (is_node_touched e v) → sight_of (step w e) v ≡ sight_of w v) → sight_of (step w e) v ≡ sight_of w v
  sight-stays w e v harmless same =
      elim (cases_Bool (is_node_touched e v)) [
        | inl own ↦ elim (cases_lt v w.net.nodes) [
          | inl inside ↦ same inside own
          | inr out ↦ ap (λ (x : World). sight_of x v) (no-node w e v harmless own out)
        ]
        | inr other ↦ sight-by (step w e) w v (net-stays w e harmless) (alone w e v other)
      ]

  pub sights-decide : (w : World) (e : Event) → is_damage w e ≡ false
      → ((v : ℕ) → v < w.net.nodes → IsTrue (is_node_touched e v) → sight_of (step w e) v ≡ sight_of w v) → IsServing (step w e) ↔ IsServing w
  sights-decide w e harmless same =
      let net = net-stays w e harmless in
      let each : (v : ℕ) → sight_of (step w e) v ≡ sight_of w v = λ v. sight-stays w e v harmless (same v) in
      (serves-too (step w e) w net each, serves-too w (step w e) (sym net) (λ v. sym (each v)))

-- ---- the sight of the touched node

-- for an event that is no harm
touched-is : (w : World) (e : Event) (sight : Option Sight) → ((h : Harm) → e ≢ Damage h) → IsTouchedSight w e sight → (v : ℕ) → v < w.net.nodes
    → IsTrue (is_node_touched e v) → sight ≡ Some (sight_of w v)
touched-is w (Send a b) sight plain t = t
touched-is w (Take a b) sight plain t = t
touched-is w (Lose a b i) sight plain t = t
touched-is w (Tick a) sight plain t = t
touched-is w (Ask a k) sight plain t = t
touched-is w (Leave a k) sight plain t = t
touched-is w (Damage h) sight plain t = absurd (plain h refl)

no-harm : (w : World) (e : Event) → ((h : Harm) → e ≢ Damage h) → is_damage w e ≡ false
no-harm w (Send a b) plain = refl
no-harm w (Take a b) plain = refl
no-harm w (Lose a b i) plain = refl
no-harm w (Tick a) plain = refl
no-harm w (Ask a k) plain = refl
no-harm w (Leave a k) plain = refl
no-harm w (Damage h) plain = absurd (plain h refl)

module _ (network : NetworkStays) (decide : SightsDecide) where
  -- if the touched node looks as before, the network serves if it served before
  pub same-sight : (w : World) (e : Event) (sight : Option Sight) → ((h : Harm) → e ≢ Damage h) → IsTouchedSight w e sight
      → IsTouchedSight (step w e) e sight → IsServing (step w e) ↔ IsServing w
  same-sight w e sight plain before after =
      let harmless = no-harm w e plain in
      let net : (step w e).net ≡ w.net = network w (e ∷ []) (one-undamaged w e harmless) in
      decide w e harmless (λ v inside own.
      some-same (sight_of (step w e) v) (sight_of w v)
      (sym (touched-is (step w e) e sight plain after v (subst (λ (n : Network). v < n.nodes) (sym net) inside) own) ∙ touched-is w e sight plain before v inside own))
