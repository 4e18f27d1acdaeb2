-- The legs of the tour, from the tour's laws about its stops.
use Rattle.std.proofs.Common.{◌≡◌, ℕ, inl, inr, true, false, ◌==◌, List, [], ◌∷◌, Some, length, refl, sym, ◌∙◌, ap, subst, arith}
use Rattle.std.proofs.lemmas.Bool.{cases_Bool, eq-eqb, eqb-true, false≢true, false_from_ne_true}
use Rattle.topology.specs.Network.{Network, IsAcceptedNetwork}
use Rattle.topology.specs.Laws.{JoinedAreNodes}
use Rattle.tree_convergence.specs.euler_ring.Cycle.{is_on, is_named, next_after, source_for, special}
use Rattle.tree_convergence.specs.euler_ring.Tour.{Stop, tour}
use Rattle.tree_convergence.specs.euler_ring.Laws.{SourceOfNext, NextIsOn, IsTreeEdge, TrueNeighboursAre, TrueNeighboursAscend, GoesTo, IsStopOf, NoStopTwice, true_neighbours, TourGoesRound, TourHasEachEdge, TourHasNoneTwice, TourLength}
use Rattle.convergence.specs.Ring.{Leg, legs, legs_to, first_here}
use Rattle.convergence.specs.Legs.{IsTreeLeg, IsFollowed, IsAmong, last_leg, is_special_leg, EachTour}
use Rattle.convergence.proofs.TrueTree.{tree-joined}

-- the leg of a stop that these stops follow
abbrev leg_of : ℕ → Stop → List Stop → Leg
leg_of end p [] = record { from = p.0; here = p.1; onward = end }
leg_of end p (q ∷ qs) = record { from = p.0; here = p.1; onward = q.1 }

legs-begin : (end : ℕ) (p : Stop) (ps : List Stop) → legs_to end (p ∷ ps) ≡ leg_of end p ps ∷ legs_to end ps
legs-begin end p [] = refl
legs-begin end p (q ∷ qs) = refl

from-stop : (end : ℕ) (p : Stop) (ps : List Stop) → (leg_of end p ps).from ≡ p.0
from-stop end p [] = refl
from-stop end p (q ∷ qs) = refl

here-stop : (end : ℕ) (p : Stop) (ps : List Stop) → (leg_of end p ps).here ≡ p.1
here-stop end p [] = refl
here-stop end p (q ∷ qs) = refl

legs-count : (end : ℕ) (ps : List Stop) → length (legs_to end ps) ≡ length ps
legs-count end [] = refl
legs-count end (p ∷ ps) = ap length (legs-begin end p ps) ∙ omega (arith, legs-count end ps)

-- each leg goes on from the one before
legs-follow : (net : Network) (stop : Stop) (p : Stop) (ps : List Stop) → GoesTo net stop (p ∷ ps) → IsFollowed (leg_of stop.1 p ps) (legs_to stop.1 ps)
legs-follow net stop p [] g = tt
legs-follow net stop p (q ∷ qs) g =
    subst (IsFollowed (leg_of stop.1 p (q ∷ qs))) (sym (legs-begin stop.1 q qs))
    ((from-stop stop.1 q qs ∙ sym (ap (λ (s : Stop). s.0) g.0), here-stop stop.1 q qs), legs-follow net stop q qs g.1)

-- and the last one ends where the stop begins
last-ends : (net : Network) (stop : Stop) (p : Stop) (ps : List Stop) → GoesTo net stop (p ∷ ps)
    → (stop.0 ≡ (last_leg (leg_of stop.1 p ps) (legs_to stop.1 ps)).here) × (stop.1 ≡ (last_leg (leg_of stop.1 p ps) (legs_to stop.1 ps)).onward)
last-ends net stop p [] g = (sym (ap (λ (s : Stop). s.0) g), refl)
last-ends net stop p (q ∷ qs) g =
    subst (λ ls. (stop.0 ≡ (last_leg (leg_of stop.1 p (q ∷ qs)) ls).here) × (stop.1 ≡ (last_leg (leg_of stop.1 p (q ∷ qs)) ls).onward)) (sym (legs-begin stop.1 q qs))
    (last-ends net stop q qs g.1)

-- the stop of a leg
abbrev stop_of : Leg → Stop
stop_of l = (l.from, l.here)

-- each leg belongs to a stop, and goes on to the next tree neighbour
pub record IsLegOf (net : Network) (ps : List Stop) (l : Leg) : Type 0 where
  pub stop : IsStopOf ps (stop_of l)
  pub next : l.onward ≡ next_after (true_neighbours net l.here) l.from

first-leg : (net : Network) (stop : Stop) (p : Stop) (ps : List Stop) → GoesTo net stop (p ∷ ps) → IsLegOf net (p ∷ ps) (leg_of stop.1 p ps)
first-leg net stop p [] g = record { stop = inl refl; next = sym (ap (λ (s : Stop). s.1) g) }
first-leg net stop p (q ∷ qs) g = record { stop = inl refl; next = sym (ap (λ (s : Stop). s.1) g.0) }

goes-on : (net : Network) (stop : Stop) (p : Stop) (ps : List Stop) → GoesTo net stop (p ∷ ps) → GoesTo net stop ps
goes-on net stop p [] g = tt
goes-on net stop p (q ∷ qs) g = g.1

each-leg : (net : Network) (stop : Stop) (ps : List Stop) → GoesTo net stop ps → (l : Leg) → IsAmong l (legs_to stop.1 ps) → IsLegOf net ps l
each-leg net stop [] g l i = absurd i
each-leg net stop (p ∷ ps) g l i = elim (subst (IsAmong l) (legs-begin stop.1 p ps) i) [
  | inl e ↦ subst (IsLegOf net (p ∷ ps)) (sym e) (first-leg net stop p ps g)
  | inr k ↦ (let r = each-leg net stop ps (goes-on net stop p ps g) l k in record { stop = inr r.stop; next = r.next })
]

each-stop : (end : ℕ) (ps : List Stop) (s : Stop) → IsStopOf ps s → (l : Leg) × IsAmong l (legs_to end ps) × (l.from ≡ s.0) × (l.here ≡ s.1)
each-stop end [] s i = absurd i
each-stop end (p ∷ ps) s (inl e) = (
  leg_of end p ps,
  subst (IsAmong (leg_of end p ps)) (sym (legs-begin end p ps)) (inl refl),
  from-stop end p ps ∙ sym (ap (λ (x : Stop). x.0) e),
  here-stop end p ps ∙ sym (ap (λ (x : Stop). x.1) e),
)
each-stop end (p ∷ ps) s (inr i) =
    let r = each-stop end ps s i in
    (r.0, subst (IsAmong r.0) (sym (legs-begin end p ps)) (inr r.1), r.2, r.3)

edge-back : (net : Network) (a b : ℕ) → IsTreeEdge net a b → IsTreeEdge net b a
edge-back net a b (inl e) = inr e
edge-back net a b (inr e) = inl e

pub none-special : (ts : List ℕ) (t : ℕ) → is_named (special false ts) t ≡ false
none-special [] t = refl
none-special (u ∷ ts) t = refl

module _ (joined : JoinedAreNodes) (source : SourceOfNext) (next : NextIsOn) (are : TrueNeighboursAre) (ascend : TrueNeighboursAscend)
    (round : TourGoesRound) (edges : TourHasEachEdge) (once : TourHasNoneTwice) (size : TourLength) where
  tree-leg : (net : Network) (l : Leg) → IsAcceptedNetwork net → IsLegOf net (tour net) l → IsTreeLeg net l
  tree-leg net l a i =
      let ts = true_neighbours net l.here in
      let from : is_on ts l.from ≡ true = (are net l.here l.from a).1 (edge-back net l.from l.here ((edges net l.from l.here a).0 i.stop)) in
      record {
        here_in = (joined net l.here l.from a (tree-joined net l.here l.from from)).0;
        from = from;
        onward = subst (λ w. is_on ts w ≡ true) (sym i.next) (next ts l.from from);
        next = i.next;
        source = ap (source_for ts) i.next ∙ source ts l.from (ascend net l.here) from;
      }

  -- only the leg of the tour's first stop is special
  not-special : (net : Network) (child : ℕ) (l : Leg) → special true (true_neighbours net net.root) ≡ Some child → (stop_of l ≡ (child, net.root) → ⊥)
      → is_special_leg net l ≡ true → ⊥
  not-special net child l sp ne h = elim (cases_Bool (l.here == net.root)) [
    | inl y ↦ (let at : l.here ≡ net.root = eqb-true l.here net.root y in
        let named : is_named (special true (true_neighbours net net.root)) l.from ≡ true =
        ap (λ v. is_named (special true (true_neighbours net v)) l.from) (sym at) ∙ ap (λ c. is_named (special c (true_neighbours net l.here)) l.from) (sym y) ∙ h in
        let same : child ≡ l.from = eqb-true child l.from (ap (λ o. is_named o l.from) (sym sp) ∙ named) in
        ne (ap (λ x. (x, l.here)) (sym same) ∙ ap (λ x. (child, x)) at))
    | inr n ↦ false≢true (sym (none-special (true_neighbours net l.here) l.from) ∙ ap (λ c. is_named (special c (true_neighbours net l.here)) l.from) (sym n) ∙ h)
  ]

  pub each-tour : EachTour
  each-tour net a =
      let r = round net a in
      let stop : Stop = (r.child, net.root) in
      let g : GoesTo net stop (stop ∷ r.rest) = subst (GoesTo net stop) r.begins r.round in
      let first = leg_of net.root stop r.rest in
      let others = legs_to net.root r.rest in
      let whole : legs net ≡ first ∷ others = ap (λ ss. legs_to (first_here ss) ss) r.begins ∙ legs-begin net.root stop r.rest in
      let last = last-ends net stop stop r.rest g in
      let twice : NoStopTwice (stop ∷ r.rest) = subst NoStopTwice r.begins (once net a) in
      record {
        first = first;
        others = others;
        are = whole;
        closed = ((from-stop net.root stop r.rest ∙ last.0, here-stop net.root stop r.rest ∙ last.1), legs-follow net stop stop r.rest g);
        tree = λ l i. tree-leg net l a (subst (λ ss. IsLegOf net ss l) (sym r.begins) (each-leg net stop (stop ∷ r.rest) g l (subst (IsAmong l) (sym (legs-begin net.root stop r.rest)) i)));
        first_special =
            ap (λ v. is_named (special (v == net.root) (true_neighbours net v)) first.from) (here-stop net.root stop r.rest)
            ∙ ap (λ c. is_named (special c (true_neighbours net net.root)) first.from) (eq-eqb net.root net.root refl)
            ∙ ap (λ o. is_named o first.from) r.special
            ∙ eq-eqb r.child first.from (sym (from-stop net.root stop r.rest));
        others_not = λ l i. false_from_ne_true (is_special_leg net l)
            (not-special net r.child l r.special (λ e. twice.0 (subst (IsStopOf r.rest) e (each-leg net stop r.rest (goes-on net stop stop r.rest g) l i).stop)));
        every = λ v t h on.
            let edge = edge-back net v t ((are net v t a).0 on) in
            let s = subst (λ ss. IsStopOf ss (t, v)) r.begins ((edges net t v a).1 edge) in
            let x = each-stop net.root (stop ∷ r.rest) (t, v) s in
            (x.0, subst (IsAmong x.0) (legs-begin net.root stop r.rest) x.1, x.2, x.3);
        count = ap length (sym whole) ∙ legs-count (first_here (tour net)) (tour net) ∙ size net a;
      }
