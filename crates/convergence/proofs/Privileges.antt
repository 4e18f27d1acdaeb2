-- Privilege and loans in a world whose tree is reached and whose token ring is good.
use Rattle.std.proofs.Common.{◌≡◌, ℕ, ◌<◌, inl, inr, true, ◌==◌, List, [], ◌∷◌, refl, sym, ◌∙◌, ap, subst, arith}
use Rattle.std.specs.List.{AllByRecursion, list_any}
use Rattle.std.proofs.lemmas.List.Elements.{All-contains}
use Rattle.std.proofs.lemmas.Bool.Decides.{nat_tests}
use Rattle.topology.specs.Network.{Network, are_joined, neighbours_of, ring_of, IsAcceptedNetwork}
use Rattle.topology.specs.Ranges.{ranges_of, payload_fits}
use Rattle.topology.specs.declared.frame.Ranges.{Ranges}
use Rattle.topology.specs.declared.frame.Payload.{Payload}
use Rattle.topology.specs.Laws.{JoinedBack, JoinedAreNodes, NeighboursAreJoined}
use Rattle.tree_convergence.specs.data_link.Port.{PortState, port_fits}
use Rattle.k_state.specs.Machine as machine
use Rattle.k_state.specs.Laws.{OneItemIsPrivileged}
use Rattle.k_state.specs.Ring.{IsGood, IsRing}
use Rattle.tree_convergence.specs.euler_ring.Laws.{OwnViewIsTrue}
use Rattle.tree_convergence.specs.euler_ring.Cycle.{is_named, special}
use Rattle.run_model.specs.node_core.Machines.{tree_of, may_move}
use Rattle.run_model.specs.World.{World, site, IsWorldInRange}
use Rattle.run_model.specs.Tree.{IsTreeReached}
use Rattle.convergence.specs.Ring.{Leg, IsTokenRingGood}
use Rattle.convergence.specs.Legs.{coming_value, IsTour, EachTour, IsTreeLeg, is_on_tree, IsAmong, machine_value, seen_value}
use Rattle.run_model.specs.Privilege.{is_privileged}
use Rattle.convergence.specs.RingLaws.{OnePrivileged, OneLending}
use Rattle.convergence.proofs.TreeLists.{passes-somewhere, somewhere-passes}
use Rattle.convergence.proofs.TrueTree.{tree-joined, tree-is}
use Rattle.convergence.proofs.RingPlaces.{values_of, leg_may_move, one-mover, mover-is_fed}

ring-fits : (r : Ranges) (p : Payload) → payload_fits r p ≡ true → p.ring < r.ring
ring-fits r p h = grind (arith, nat_tests)

port-staged : (r : Ranges) (p : PortState) → port_fits r p ≡ true → p.staged.ring < r.ring
port-staged r p h = ring-fits r p.staged (grind arith)

port-copied : (r : Ranges) (p : PortState) → port_fits r p ≡ true → p.copy.ring < r.ring
port-copied r p h = ring-fits r p.copy (grind arith)

pub several-values : (net : Network) → IsAcceptedNetwork net → 1 < ring_of net
several-values net a = omega (arith, a.limits.two)

module _ (back : JoinedBack) (nodes : JoinedAreNodes) (near : NeighboursAreJoined) (view : OwnViewIsTrue) where
  -- what joined nodes keep of each other is in range
  port-in : (w : World) (v t : ℕ) → IsWorldInRange w → are_joined w.net.edges v t ≡ true → port_fits (ranges_of w.net) ((w.node v).port t) ≡ true
  port-in w v t r j =
      let l = nodes w.net v t r.network j in
      All-contains (λ u. port_fits (ranges_of w.net) ((w.node v).port u) ≡ true) (neighbours_of w.net v) t (r.nodes v l.0).ports ((near w.net v t).1 (l.1, j))

  value-in : (w : World) (v t : ℕ) → IsWorldInRange w → are_joined w.net.edges v t ≡ true → (w.node v).value t < ring_of w.net
  value-in w v t r j =
      let l = nodes w.net v t r.network j in
      All-contains (λ u. (w.node v).value u < ring_of w.net) (neighbours_of w.net v) t (r.nodes v l.0).values ((near w.net v t).1 (l.1, j))

  pub values-in : (w : World) → IsWorldInRange w → (ls : List Leg) → ((l : Leg) → IsAmong l ls → IsTreeLeg w.net l) → AllByRecursion (λ y. y < ring_of w.net) (values_of w ls)
  values-in w r [] f = tt
  values-in w r (l ∷ ls) f =
      let t = f l (inl refl) in
      let on = tree-joined w.net l.here l.onward t.onward in (
        value-in w l.here l.from r (tree-joined w.net l.here l.from t.from),
        (
          port-staged (ranges_of w.net) ((w.node l.here).port l.onward) (port-in w l.here l.onward r on),
          (port-copied (ranges_of w.net) ((w.node l.onward).port l.here) (port-in w l.onward l.here r (back w.net.edges l.onward l.here ∙ on)), values-in w r ls (λ k i. f k (inr i))),
        ),
      )

  pub seen-in : (w : World) (l : Leg) → IsWorldInRange w → IsTreeLeg w.net l → seen_value w l < ring_of w.net
  seen-in w l r t = port-copied (ranges_of w.net) ((w.node l.here).port l.from) (port-in w l.here l.from r (tree-joined w.net l.here l.from t.from))

  -- a machine may move if the leg to which it belongs says so
  pub may-move-is : (w : World) (l : Leg) → IsAcceptedNetwork w.net → IsTreeReached w → l.here < w.net.nodes → may_move (site w l.here) (w.node l.here) l.from ≡ leg_may_move w l
  may-move-is w l a t h = ap (λ ts. machine.is_privileged (is_named (special (l.here == w.net.root) ts) l.from) (machine_value w l) (seen_value w l)) (tree-is back view w l.here a t h)

  -- a privileged node has a leg whose machine may move
  pub privileged-leg : (w : World) (v : ℕ) → (tour : IsTour w.net) → IsAcceptedNetwork w.net → IsTreeReached w → v < w.net.nodes → is_privileged w v ≡ true
      → (l : Leg) × IsAmong l (tour.first ∷ tour.others) × (l.here ≡ v) × (leg_may_move w l ≡ true)
  privileged-leg w v tour a t h p =
      let m = passes-somewhere (may_move (site w v) (w.node v)) (tree_of (site w v) (w.node v)) p in
      let on : is_on_tree w.net v m.0 ≡ true = subst (λ ts. list_any (λ u. u == m.0) ts ≡ true) (tree-is back view w v a t h) m.2 in
      let e = tour.every v m.0 h on in
      let here : e.0.here < w.net.nodes = subst (λ x. x < w.net.nodes) (sym e.3) h in
      let may : may_move (site w e.0.here) (w.node e.0.here) e.0.from ≡ true =
      ap (λ x. may_move (site w x) (w.node x) e.0.from) e.3 ∙ ap (may_move (site w v) (w.node v)) e.2 ∙ m.1 in
      (e.0, e.1, e.3, sym (may-move-is w e.0 a t here) ∙ may)

  -- and conversely
  pub leg-privileged : (w : World) (l : Leg) → IsAcceptedNetwork w.net → IsTreeReached w → IsTreeLeg w.net l → leg_may_move w l ≡ true → is_privileged w l.here ≡ true
  leg-privileged w l a t i m =
      somewhere-passes (may_move (site w l.here) (w.node l.here)) l.from (tree_of (site w l.here) (w.node l.here)) (may-move-is w l a t i.here_in ∙ m)
      (subst (λ ts. list_any (λ u. u == l.from) ts ≡ true) (sym (tree-is back view w l.here a t i.here_in)) i.from)

  -- at most one machine may move, and what comes to it equals what it sees
  abbrev pub IsOneMover : World → List Leg → Type 0
  IsOneMover w ls =
      ((l k : Leg) → IsAmong l ls → IsAmong k ls → leg_may_move w l ≡ true → leg_may_move w k ≡ true → l ≡ k)
      × ((l : Leg) → IsAmong l ls → leg_may_move w l ≡ true → coming_value w l ≡ seen_value w l)

  pub only-one : OneItemIsPrivileged → (w : World) (tour : IsTour w.net) → IsWorldInRange w → IsTokenRingGood w → IsOneMover w (tour.first ∷ tour.others)
  only-one one w tour r g =
      let q = ring_of w.net in
      let two = several-values w.net r.network in
      let below : IsRing q (values_of w (tour.first ∷ tour.others)) = (omega arith, values-in w r (tour.first ∷ tour.others) tour.tree) in
      let good = subst (λ ls. IsGood q (values_of w ls)) tour.are g in (
        one-mover one w q tour.first tour.others tour.closed tour.first_special tour.others_not two below good,
        mover-is_fed one w q tour.first tour.others tour.closed tour.first_special tour.others_not two below good,
      )

  pub one-privileged : OneItemIsPrivileged → EachTour → OnePrivileged
  one-privileged one tours w u v r t g a b p o =
      let tour = tours w.net r.network in
      let x = privileged-leg w u tour r.network t a p in
      let y = privileged-leg w v tour r.network t b o in
      sym x.2 ∙ ap (λ (l : Leg). l.here) ((only-one one w tour r g).0 x.0 y.0 x.1 y.1 x.3 y.3) ∙ y.2

  pub one-lending : OneItemIsPrivileged → EachTour → OneLending
  one-lending one tours w u v r l a b p o = one-privileged one tours w u v r l.tree l.ring a b (l.desks u a p) (l.desks v b o)
