-- What an event changes in the three values of one leg of the tour, in a settled world.
use Rattle.std.proofs.Common.{◌≡◌, ℕ, ◌<◌, ◌⊎◌, inl, inr, Bool, true, false, ◌==◌, ◌&&◌, List, sym, ◌∙◌, ap, subst}
use Rattle.std.specs.Prelude.{is_none, if◌then◌else◌}
use Rattle.std.specs.List.{list_any}
use Rattle.std.proofs.lemmas.Bool.{cases_Bool, and_parts, false≢true, eqb-true}
use Rattle.topology.specs.Network.{Network, ring_of, are_joined}
use Rattle.topology.specs.declared.frame.Payload.{Payload}
use Rattle.k_state.specs.Machine as machine
use Rattle.k_state.specs.Machine.{root_moved}
use Rattle.tree_convergence.specs.euler_ring.Cycle.{special, is_named, source_for}
use Rattle.run_model.specs.node_core.Site.{Site, site_of}
use Rattle.run_model.specs.node_core.State.{LocalState}
use Rattle.run_model.specs.node_core.Machines.{tree_of, before}
use Rattle.run_model.specs.node_core.Step.{ticked}
use Rattle.run_model.specs.World.{World, site}
use Rattle.run_model.specs.Step.{step}
use Rattle.run_model.specs.Run.{is_damage}
use Rattle.run_model.specs.Sweep.{is_full_tick}
use Rattle.convergence.specs.Ring.{Leg}
use Rattle.run_model.specs.Project.{present}
use Rattle.convergence.specs.Legs.{IsTreeLeg, is_special_leg, machine_value, staged_value, copied_value, seen_value}
use Rattle.tree_convergence.specs.euler_ring.Laws.{true_neighbours}
use Rattle.run_model.specs.declared.event.Event.{Event}
use Rattle.run_model.specs.declared.event.Event.TheVariants.{Send, Take, Lose, Tick, Ask, Leave, Damage}
use Rattle.convergence.proofs.TrueTree.{tree-is, tree-joined}
use Rattle.convergence.proofs.RingPlaces.{leg_may_move}
use Rattle.convergence.specs.RingBelow.{Below}
use Rattle.convergence.proofs.Settled.{IsSettledOn, settled-event}
use Rattle.run_model.specs.Ticks.{IsTicking}

-- the value of a machine after a tick, by the tree neighbours that the node has then
abbrev value_ticked : Site → LocalState → ℕ → List ℕ → Bool → ℕ
value_ticked site s t ts free =
    if free && (list_any (λ u. u == t) ts && machine.is_privileged (is_named (special site.is_root ts) t) (s.value t) (before s t))
    then (if is_named (special site.is_root ts) t then root_moved (s.value t) site.ranges.ring else before s t)
    else s.value t

tick-value : (site : Site) (s : LocalState) (t : ℕ) (ts : List ℕ) → tree_of site (ticked site s) ≡ ts
    → (ticked site s).value t ≡ value_ticked site s t ts (is_none (ticked site s).desk.lent)
tick-value site s t ts e = ap (λ us. value_ticked site s t us (is_none (ticked site s).desk.lent)) e

-- the value of the leg's machine after its move
abbrev pub moved_leg : World → Leg → ℕ
moved_leg w l = if is_special_leg w.net l then root_moved (machine_value w l) (ring_of w.net) else seen_value w l

-- after a tick of the leg's node, its machine has moved if it may and the node lends to nobody,
-- and it sees what it saw before
abbrev pub IsLegTicked : World → World → Leg → Type 0
IsLegTicked w new l =
    (machine_value new l ≡ (if is_none (new.node l.here).desk.lent && leg_may_move w l then moved_leg w l else machine_value w l))
    × (seen_value new l ≡ seen_value w l)

pub tree-leg-on : (net : Network) (w : World) (l : Leg) → w.net ≡ net → IsTreeLeg net l → IsTreeLeg w.net l
tree-leg-on net w l e t = subst (λ n. IsTreeLeg n l) (sym e) t

module _ (b : Below) where
  pub leg-ticks : (net : Network) (w new : World) (l : Leg) → IsSettledOn net w → IsSettledOn net new → IsTreeLeg net l → IsTicking w new l.here → IsLegTicked w new l
  leg-ticks net w new l s z t ticks =
      let tl = tree-leg-on net w l s.1 t in
      let v = l.here in
      let old = site w v in
      let same : new.net ≡ w.net = z.1 ∙ sym s.1 in
      let own : tree_of (site new v) (new.node v) ≡ true_neighbours new.net v = tree-is b.back b.view new v z.0.range.network z.0.tree (subst (λ n. v < n.nodes) (sym same) tl.here_in) in
      let own' : tree_of (site w v) (new.node v) ≡ true_neighbours w.net v = subst (λ n. tree_of (site_of n v) (new.node v) ≡ true_neighbours n v) same own in
      let tree : tree_of old (ticked old (w.node v)) ≡ true_neighbours w.net v = subst (λ x. tree_of (site w v) x ≡ true_neighbours w.net v) ticks own' in
      let free = is_none (ticked old (w.node v)).desk.lent in (
        ap (λ (x : LocalState). x.value l.from) ticks
            ∙ tick-value old (w.node v) l.from (true_neighbours w.net v) tree
            ∙ ap (λ m. if free && (m && leg_may_move w l) then moved_leg w l else machine_value w l) tl.from
            ∙ ap (λ (x : LocalState). if is_none x.desk.lent && leg_may_move w l then moved_leg w l else machine_value w l) (sym ticks),
        ap (λ (x : LocalState). (x.port l.from).copy.ring) ticks,
      )

  -- a machine stays, or moves as it may, and then sees what it saw before
  pub machine-event : (net : Network) (w : World) (e : Event) (l : Leg) → IsSettledOn net w → is_damage w e ≡ false → IsTreeLeg net l
      → (machine_value (step w e) l ≡ machine_value w l)
      ⊎ ((leg_may_move w l ≡ true) × (machine_value (step w e) l ≡ moved_leg w l) × (seen_value (step w e) l ≡ seen_value w l))
  machine-event net w e l s d t = elim (b.moves w e l.here d) [
    | inl q ↦ inl (ap (λ f. f l.from) q.values)
    | inr k ↦ (let r = leg-ticks net w (step w e) l s (settled-event b net w e s d) t k in
        elim (cases_Bool (is_none ((step w e).node l.here).desk.lent && leg_may_move w l)) [
          | inl y ↦ inr (
            (and_parts (is_none ((step w e).node l.here).desk.lent) (leg_may_move w l) y).1,
            r.0 ∙ ap (λ c. if c then moved_leg w l else machine_value w l) y,
            r.1,
          )
          | inr n ↦ inl (r.0 ∙ ap (λ c. if c then moved_leg w l else machine_value w l) n)
        ])
  ]

  -- in a full tick of the leg's node its machine moves if it may
  pub full-tick : (net : Network) (w : World) (e : Event) (l : Leg) → IsSettledOn net w → is_damage w e ≡ false → IsTreeLeg net l → is_full_tick w e l.here ≡ true
      → (machine_value (step w e) l ≡ (if leg_may_move w l then moved_leg w l else machine_value w l))
  full-tick net w (Tick u) l s d t h =
      let p = and_parts (u == l.here) (is_none ((step w (Tick u)).node l.here).desk.lent) h in
      let at : u ≡ l.here = eqb-true u l.here p.0 in
      let ticks : IsTicking w (step w (Tick u)) l.here = subst (λ x. IsTicking w (step w (Tick x)) l.here) (sym at) (b.accepted w l.here (tree-leg-on net w l s.1 t).here_in) in
      let r = leg-ticks net w (step w (Tick u)) l s (settled-event b net w (Tick u) s d) t ticks in
      r.0 ∙ ap (λ c. if c && leg_may_move w l then moved_leg w l else machine_value w l) p.1
  full-tick net w (Send u v) l s d t h = absurd (false≢true h)
  full-tick net w (Take u v) l s d t h = absurd (false≢true h)
  full-tick net w (Lose u v i) l s d t h = absurd (false≢true h)
  full-tick net w (Ask u v) l s d t h = absurd (false≢true h)
  full-tick net w (Leave u v) l s d t h = absurd (false≢true h)
  full-tick net w (Damage x) l s d t h = absurd (false≢true h)

  -- the leg's node says its machine's value to the node that the leg goes on to
  pub present-is : (net : Network) (w : World) (l : Leg) → IsSettledOn net w → IsTreeLeg net l → (present w l.here l.onward).ring ≡ machine_value w l
  present-is net w l s t =
      let tl = tree-leg-on net w l s.1 t in
      ap (λ ts. if list_any (λ u. u == l.onward) ts then (w.node l.here).value (source_for ts l.onward) else 0) (tree-is b.back b.view w l.here s.0.range.network s.0.tree tl.here_in)
      ∙ ap (λ c. if c then (w.node l.here).value (source_for (true_neighbours w.net l.here) l.onward) else 0) tl.onward
      ∙ ap (w.node l.here).value tl.source

  pub leg-joined : (net : Network) (w : World) (l : Leg) → IsSettledOn net w → IsTreeLeg net l → are_joined w.net.edges l.here l.onward ≡ true
  leg-joined net w l s t = tree-joined w.net l.here l.onward (tree-leg-on net w l s.1 t).onward

  pub staged-event : (net : Network) (w : World) (e : Event) (l : Leg) → IsSettledOn net w → is_damage w e ≡ false → IsTreeLeg net l
      → (staged_value (step w e) l ≡ staged_value w l) ⊎ (staged_value (step w e) l ≡ machine_value w l)
  staged-event net w e l s d t = elim (b.staged w e l.here l.onward s.0.range d (leg-joined net w l s t)) [
    | inl k ↦ inl (ap (λ (p : Payload). p.ring) k)
    | inr k ↦ inr (ap (λ (p : Payload). p.ring) k ∙ present-is net w l s t)
  ]

  pub copied-event : (net : Network) (w : World) (e : Event) (l : Leg) → IsSettledOn net w → is_damage w e ≡ false → IsTreeLeg net l
      → (copied_value (step w e) l ≡ copied_value w l) ⊎ (copied_value (step w e) l ≡ staged_value w l)
  copied-event net w e l s d t =
      let j = leg-joined net w l s t in
      elim (b.copied w e l.here l.onward s.0.range d j (s.0.links l.here l.onward j)) [
        | inl k ↦ inl (ap (λ (p : Payload). p.ring) k)
        | inr k ↦ inr (ap (λ (p : Payload). p.ring) k)
      ]
