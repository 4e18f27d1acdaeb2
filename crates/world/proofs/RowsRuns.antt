-- Runs of two nodes: a payload that was staged at the start and never again is not fresh after
-- them, and their start is not legitimate.
use Rattle.std.proofs.Common.{◌≡◌, ℕ, ◌<◌, zero, suc, List, [], ◌∷◌, ◌++◌, ◌==◌, true, false, refl, subst, Contains, arith}
use Rattle.std.proofs.lemmas.List.Elements.{All-contains}
use Rattle.std.proofs.lemmas.List.Sums.{AllPass-from_list_all}
use Rattle.topology.specs.declared.frame.Payload.{Payload}
use Rattle.std.proofs.lemmas.Bool.Decides.{nat_tests}
use Rattle.topology.specs.Network.{Network, are_joined}
use Rattle.judge.specs.run_model.World.{World}
use Rattle.judge.specs.run_model.Start.{default_world}
use Rattle.judge.specs.run_model.Run.{run, has_damage}
use Rattle.judge.specs.run_model.Sweep.{has_full_tick, is_renewed, Sweeps}
use Rattle.judge.specs.run_model.declared.event.Event.{Event}
use Rattle.judge.specs.run_model.declared.event.Event.TheVariants.{Send, Take, Tick}
use Rattle.convergence.specs.Said.{said_in}
use Rattle.convergence.specs.Closure.{IsLegitimateThroughout}
use Rattle.convergence.specs.Payloads.{ArePayloadsFresh}

abbrev two_nodes : Network
two_nodes = record { nodes = 2; root = 0; capacity = 1; lease = 0; edges = (0, 1) ∷ [] }

abbrev start : World
start = default_world two_nodes

each-node : (P : ℕ → Type 0) → P 0 → P 1 → (v : ℕ) → v < 2 → P v
each-node P a b zero l = a
each-node P a b (suc zero) l = b
each-node P a b (suc (suc v)) l = absurd (omega arith)

each-link : (P : ℕ → ℕ → Type 0) → P 0 1 → P 1 0 → (u v : ℕ) → are_joined two_nodes.edges u v ≡ true → P u v
each-link P a b zero zero j = absurd cc
each-link P a b zero (suc zero) j = a
each-link P a b zero (suc (suc v)) j = absurd (grind (arith, nat_tests))
each-link P a b (suc zero) zero j = b
each-link P a b (suc zero) (suc v) j = absurd (grind (arith, nat_tests))
each-link P a b (suc (suc u)) v j = absurd (grind (arith, nat_tests))

-- both tick, and a frame goes each way
abbrev least : List Event
least = Tick 0 ∷ Tick 1 ∷ Send 0 1 ∷ Take 0 1 ∷ Send 1 0 ∷ Take 1 0 ∷ []

-- the same n times
abbrev repeated : ℕ → List Event
repeated zero = []
repeated (suc n) = least ++ repeated n

abbrev after : ℕ → World
after n = run start (repeated n)

-- the shortest sweep before a list of sweeps makes one more
one-more : (w : World) (r : ℕ) (es : List Event) → w.net ≡ two_nodes → has_damage w least ≡ false → has_full_tick w least 0 ≡ true → has_full_tick w least 1 ≡ true
    → is_renewed w least 0 1 ≡ true → is_renewed w least 1 0 ≡ true → Sweeps (run w least) r es → Sweeps w (suc r) (least ++ es)
one-more w r es net fine first second out back sweeps = (
  least,
  es,
  refl,
  record {
    undamaged = fine;
    ticked = λ v l. each-node (λ n. has_full_tick w least n ≡ true) first second v (subst (λ n. v < n.nodes) net l);
    renewed = λ u v j. each-link (λ a b. is_renewed w least a b ≡ true) out back u v (subst (λ n. are_joined n.edges u v ≡ true) net j);
  },
  sweeps,
)

three-sweeps : Sweeps (after 8) 3 (repeated 3)
three-sweeps =
    one-more (after 8) 2 (repeated 2) refl refl refl refl refl refl
    (one-more (after 9) 1 (repeated 1) refl refl refl refl refl refl
    (one-more (after 10) 0 (repeated 0) refl refl refl refl refl refl tt))

eight-sweeps : Sweeps start 8 (repeated 8)
eight-sweeps =
    one-more (after 0) 7 (repeated 7) refl refl refl refl refl refl
    (one-more (after 1) 6 (repeated 6) refl refl refl refl refl refl
    (one-more (after 2) 5 (repeated 5) refl refl refl refl refl refl
    (one-more (after 3) 4 (repeated 4) refl refl refl refl refl refl
    (one-more (after 4) 3 (repeated 3) refl refl refl refl refl refl
    (one-more (after 5) 2 (repeated 2) refl refl refl refl refl refl
    (one-more (after 6) 1 (repeated 1) refl refl refl refl refl refl
    (one-more (after 7) 0 (repeated 0) refl refl refl refl refl refl tt)))))))

-- within the last three sweeps node 1 says at each moment that it is at distance 1
says-one : (p : Payload) → Contains (said_in (after 8) (repeated 3) 1 0) p → p.distance == 1 ≡ true
says-one p c =
    let said = said_in (after 8) (repeated 3) 1 0 in
    All-contains (λ x. x.distance == 1 ≡ true) said p (AllPass-from_list_all (λ x. x.distance == 1) said refl) c

-- at the start it says 2, the greatest distance, and these sweeps do not lead to a world that
-- still has this staged
stale : ¬ ArePayloadsFresh start (repeated 11) start
stale fresh = absurd (let h = says-one _ (fresh (repeated 8) (repeated 3) 1 0 refl refl eight-sweeps three-sweeps).0 in cc)

-- at the start node 1 writes distance 2, so no run from there is legitimate throughout
not_throughout : ¬ IsLegitimateThroughout start least
not_throughout legitimate = absurd (let far = (legitimate [] least refl).0.tree.distance 1 (omega arith) in cc)
