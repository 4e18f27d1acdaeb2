-- On the good token ring of a settled world, over events without damage, a privileged machine stays
-- privileged until it moves: what it sees does not change.
use Rattle.std.proofs.Common.{◌≡◌, ℕ, ◌<◌, inl, inr, true, false, sym, ◌∙◌, ap, subst}
use Rattle.topology.specs.Network.{Network, are_joined}
use Rattle.topology.specs.declared.frame.Payload.{Payload}
use Rattle.k_state.specs.Machine as machine
use Rattle.run_model.specs.World.{World}
use Rattle.run_model.specs.Step.{step}
use Rattle.run_model.specs.Run.{is_damage}
use Rattle.run_model.specs.Privilege.{is_privileged}
use Rattle.run_model.specs.declared.event.Event.{Event}
use Rattle.convergence.specs.Ring.{Leg, IsTokenRingGood}
use Rattle.convergence.specs.Legs.{IsTour, IsTreeLeg, is_special_leg, machine_value, seen_value, coming_value}
use Rattle.convergence.specs.RingBelow.{Below}
use Rattle.convergence.proofs.TrueTree.{tree-joined}
use Rattle.convergence.proofs.RingPlaces.{leg_may_move}
use Rattle.convergence.proofs.Privileges.{privileged-leg, leg-privileged, only-one}
use Rattle.convergence.proofs.Settled.{IsSettledOn, settled-event}
use Rattle.convergence.proofs.LegEvents.{tree-leg-on}

module _ (b : Below) (net : Network) (tour : IsTour net) where
  -- what a privileged machine sees does not change: what comes to it equals what it sees
  seen-stays : (w : World) (e : Event) (l : Leg) → IsSettledOn net w → is_damage w e ≡ false → IsTreeLeg net l → coming_value w l ≡ seen_value w l
      → seen_value (step w e) l ≡ seen_value w l
  seen-stays w e l s d t c =
      let j : are_joined w.net.edges l.from l.here ≡ true = b.back w.net.edges l.from l.here ∙ tree-joined w.net l.here l.from (tree-leg-on net w l s.1 t).from in
      elim (b.copied w e l.from l.here s.0.range d j (s.0.links l.from l.here j)) [
        | inl k ↦ ap (λ (p : Payload). p.ring) k
        | inr k ↦ ap (λ (p : Payload). p.ring) k ∙ c
      ]

  -- a privileged node whose machines keep their values stays privileged
  pub privilege-stays : (w : World) (e : Event) (v : ℕ) → IsSettledOn net w → is_damage w e ≡ false → IsTokenRingGood w → v < net.nodes
      → ((step w e).node v).value ≡ (w.node v).value → is_privileged w v ≡ true → is_privileged (step w e) v ≡ true
  privilege-stays w e v s d g h same p =
      let new = step w e in
      let z = settled-event b net w e s d in
      let own = subst IsTour (sym s.1) tour in
      let x = privileged-leg b.back b.nodes b.near b.view w v own s.0.range.network s.0.tree (subst (λ n. v < n.nodes) (sym s.1) h) p in
      let l = x.0 in
      let t : IsTreeLeg w.net l = own.tree l x.1 in
      let one = (only-one b.back b.nodes b.near b.view b.one_item w own s.0.range g).1 l x.1 x.3 in
      let seen = seen-stays w e l s d (subst (λ n. IsTreeLeg n l) s.1 t) one in
      let value : machine_value new l ≡ machine_value w l = ap (λ y. (new.node y).value l.from) x.2 ∙ ap (λ f. f l.from) same ∙ ap (λ y. (w.node y).value l.from) (sym x.2) in
      let may : leg_may_move new l ≡ true =
      ap (λ n. machine.is_privileged (is_special_leg n l) (machine_value new l) (seen_value new l)) (z.1 ∙ sym s.1)
      ∙ ap (λ y. machine.is_privileged (is_special_leg w.net l) y (seen_value new l)) value
      ∙ ap (λ y. machine.is_privileged (is_special_leg w.net l) (machine_value w l) y) seen
      ∙ x.3 in
      ap (is_privileged new) (sym x.2) ∙ leg-privileged b.back b.nodes b.near b.view new l z.0.range.network z.0.tree (subst (λ n. IsTreeLeg n l) (s.1 ∙ sym z.1) t) may
