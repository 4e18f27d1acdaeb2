-- The tour of the true tree, stop by stop, and the legs of the token ring along it.
use Rattle.std.proofs.Common.{◌≡◌, ◌∙◌, ◌↔◌, ◌++◌, ap, sym, subst, refl, ℕ, zero, suc, ◌+◌, ◌<◌, inl, inr, IsTrue, List, [], ◌∷◌, Option, Some, Contains, IsSome, length, drop, arith}
use Rattle.std.proofs.lemmas.Grind.{common_steps}
use Rattle.topology.specs.Network.{Network, neighbours_of, IsAcceptedNetwork}
use Rattle.topology.specs.Laws.{NeighboursAreJoined}
use Rattle.euler_ring.specs.Cycle.{is_on, lowest}
use Rattle.euler_ring.specs.Tour.{Stop, tour}
use Rattle.euler_ring.specs.Laws.{true_neighbours, stop_after, GoesTo, IsRound, IsTreeEdge, TrueNeighboursAre}
use Rattle.std.specs.List.{flat_map}
use Rattle.k_state.specs.Ring.{head_of}
use Rattle.configuration.specs.run_model.World.{World}
use Rattle.convergence.specs.Ring.{Leg, leg_values, legs_to, first_here}
use Rattle.layers.specs.declared.ring_reading.RingReading.{RingReading}
use Rattle.layers.specs.RingReading.{MayFollow}
use Rattle.layers.specs.Stops.{GoesRound, first_of, first_stop}

-- a stretch of the tour is gone along from its first stop to its end
pub goes-round : (net : Network) (end stop : Stop) (stops : List Stop) → GoesTo net end (stop ∷ stops) → GoesRound net stop end (stop ∷ stops)
goes-round net end stop [] goes = (refl, goes)
goes-round net end stop (next ∷ stops) goes =
    (refl, subst (λ s. GoesRound net s end (next ∷ stops)) (sym goes.0) (goes-round net end next stops goes.1))

-- one stop more is passed
pub stop-passed : (net : Network) (stop end : Stop) (stops : List Stop) (i : ℕ) → i < length stops → GoesRound net stop end (drop i stops)
    → GoesRound net (stop_after net stop) end (drop (suc i) stops)
stop-passed net stop end [] i within along = grind (arith, common_steps)
stop-passed net stop end (next ∷ stops) zero within along = along.1
stop-passed net stop end (next ∷ stops) (suc i) within along = stop-passed net stop end stops i (omega (arith, within)) along

-- after the last stop none is left
pub none-left : {X : Type 0} (xs : List X) (i : ℕ) → length xs ≡ i → drop i xs ≡ []
none-left [] i all = grind (arith, common_steps)
none-left (x ∷ xs) zero all = grind (arith, common_steps)
none-left (x ∷ xs) (suc i) all = none-left xs i (omega (arith, all))

-- the lowest of a list is on it
pub on-lowest : (ts : List ℕ) (t : ℕ) → lowest ts ≡ Some t → IsTrue (is_on ts t)
on-lowest [] t is = grind (arith, common_steps)
on-lowest (u ∷ ts) t is = grind (arith, common_steps)

-- an edge of the tree joins both ways
turned : (net : Network) (v w : ℕ) → IsTreeEdge net v w → IsTreeEdge net w v
turned net v w (inl p) = inr p
turned net v w (inr p) = inl p

-- a tree neighbour of a node has this node as its own
pub back-on : TrueNeighboursAre → (net : Network) (v w : ℕ) → IsAcceptedNetwork net → IsTrue (is_on (true_neighbours net v) w)
    → IsTrue (is_on (true_neighbours net w) v)
back-on are net v w accepted on = (are net w v accepted).1 (turned net v w ((are net v w accepted).0 on))

-- who is a neighbour is a node
pub is-node : NeighboursAreJoined → (net : Network) (v : ℕ) (ws : List ℕ) (w : ℕ) → ws ≡ neighbours_of net v → Contains ws w → w < net.nodes
is-node joined net v ws w same has = ((joined net v w).0 (subst (λ xs. Contains xs w) same has)).0

-- the special machine is there
pub some-special : (found : Option ℕ) (child : ℕ) → found ≡ Some child → IsSome found
some-special found child is = rw is refl

-- the tour goes round from its first stop
pub begins-round : (net : Network) (round : IsRound net) (first : Stop) → first ≡ (round.child, net.root) → GoesRound net first (first_stop net) (tour net)
begins-round net round first is =
    rw (is, round.begins) (goes-round net (round.child, net.root) (round.child, net.root) round.rest (rw round.begins at round.round))

-- what was found is the child, and comes to the root
pub unwrapped : (found : Option ℕ) (from child at root : ℕ) → found ≡ Some child → found ≡ Some from → at ≡ root → ◌≡◌ {A = Stop} (from, at) (child, root)
unwrapped found from child at root is some same = grind (arith, common_steps)

-- ---- legs

-- the leg of a stop that goes on to a node
abbrev pub leg_of : Stop → ℕ → Leg
leg_of stop onward = record { from = stop.0; here = stop.1; onward = onward }

-- the next leg goes on to the stop after
pub leg-passed : (net : Network) (stop end : Stop) (stops : List Stop) (i : ℕ) → i < length stops → GoesRound net stop end (drop i stops)
    → legs_to end.1 (drop i stops) ≡ leg_of stop (stop_after net stop).1 ∷ legs_to end.1 (drop (suc i) stops)
leg-passed net stop end [] i within along = absurd (omega (arith, within))
leg-passed net stop end (p ∷ []) zero within along =
    sym (ap (λ s. leg_of s (stop_after net stop).1 ∷ []) along.0 ∙ ap (λ s. leg_of p s.1 ∷ []) along.1)
leg-passed net stop end (p ∷ q ∷ rest) zero within along =
    sym (ap (λ s. leg_of s (stop_after net stop).1 ∷ legs_to end.1 (q ∷ rest)) along.0 ∙ ap (λ s. leg_of p s.1 ∷ legs_to end.1 (q ∷ rest)) along.1.0)
leg-passed net stop end (p ∷ stops) (suc i) within along = leg-passed net stop end stops i (omega (arith, within)) along

-- the tour begins where its first stop comes to
pub begins-here : (stops : List Stop) → first_here stops ≡ (first_of stops).1
begins-here [] = refl
begins-here (stop ∷ stops) = refl

-- the ring's head is the machine of the first stop
pub head-there : (w : World) (net : Network) (stop end : Stop) (stops : List Stop) (onward : ℕ) → 0 < length stops → GoesRound net stop end stops
    → head_of (flat_map (leg_values w) (legs_to onward stops)) ≡ (w.node stop.1).value stop.0
head-there w net stop end [] onward some along = absurd (omega (arith, some))
head-there w net stop end (p ∷ []) onward some along = ap (λ s. (w.node s.1).value s.0) (sym along.0)
head-there w net stop end (p ∷ q ∷ rest) onward some along = ap (λ s. (w.node s.1).value s.0) (sym along.0)

-- one leg more is read, and the rest of the ring is that of the stops that are left
pub ring-goes_on : (w : World) (end stop next : Stop) (stops : List Stop) (i onward : ℕ) (old new : RingReading) (Good : Type 0) → onward ≡ end.1 → i < length stops
    → GoesRound w.net stop end (drop i stops) → next ≡ stop_after w.net stop
    → ((rest : List ℕ) → MayFollow new rest ↔ MayFollow old (leg_values w (leg_of stop next.1) ++ rest))
    → MayFollow old (flat_map (leg_values w) (legs_to onward (drop i stops))) ↔ Good
    → MayFollow new (flat_map (leg_values w) (legs_to onward (drop (suc i) stops))) ↔ Good
ring-goes_on w end stop next stops i onward old new Good same within along is read so_far =
    let leg = leg-passed w.net stop end stops i within along in
    let here : legs_to onward (drop i stops) ≡ leg_of stop (stop_after w.net stop).1 ∷ legs_to onward (drop (suc i) stops) =
    subst (λ e. legs_to e (drop i stops) ≡ leg_of stop (stop_after w.net stop).1 ∷ legs_to e (drop (suc i) stops)) (sym same) leg in
    let parts : legs_to onward (drop i stops) ≡ leg_of stop next.1 ∷ legs_to onward (drop (suc i) stops) =
    here ∙ ap (λ s. leg_of stop s.1 ∷ legs_to onward (drop (suc i) stops)) (sym is) in
    let before = subst (λ ls. MayFollow old (flat_map (leg_values w) ls) ↔ Good) parts so_far in
    let n = read (flat_map (leg_values w) (legs_to onward (drop (suc i) stops))) in
    (λ m. before.0 (n.0 m), λ good. n.1 (before.1 good))
