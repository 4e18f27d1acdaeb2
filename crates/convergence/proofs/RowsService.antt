-- A run on two nodes in which all premises of the service law hold and a client gets the lock; and
-- what is lent, visited and given up in it.
use Rattle.std.proofs.Common.{◌≡◌, ℕ, ◌<◌, List, [], ◌∷◌, ◌++◌, length, Bool, true, false, IsTrue, IsFalse, None, refl, subst, inl, arith}
use Rattle.std.specs.Prelude.{◌&&◌, ◌==◌, if◌then◌else◌, not, All}
use Rattle.std.proofs.lemmas.Bool.{false≢true}
use Rattle.std.proofs.lemmas.List.Elements.{All-nil, All-cons}
use Rattle.topology.specs.Network.{Network, are_joined}
use Rattle.tree_convergence.specs.data_link.Port.{port_fits}
use Rattle.tree_convergence.specs.lock_desk.Desk.{DeskState, no_desk}
use Rattle.run_model.specs.World.{World, IsWorldInRange, site, item_fits}
use Rattle.run_model.specs.Run.{run, has_damage, IsUndamaged}
use Rattle.run_model.specs.Sweep.{has_full_tick, is_renewed, IsSweep, Sweeps}
use Rattle.run_model.specs.Visited.{is_privileged_once}
use Rattle.run_model.specs.Privilege.{is_privileged, is_lending}
use Rattle.run_model.specs.declared.event.Event.{Event}
use Rattle.run_model.specs.declared.event.Event.TheVariants.{Send, Take, Tick, Ask, Leave}
use Rattle.topology.specs.Ranges.{ranges_of}
use Rattle.run_model.specs.node_core.State.{IsNodeInRange}
use Rattle.run_model.proofs.RowsTwo.{two_nodes, is-accepted, each-node, each-link, node_with, calm-links_stable, calm-tree_reached}
use Rattle.convergence.specs.Legitimate.{IsLegitimate}
use Rattle.convergence.specs.Service.{IsAtPlace, is_lent_once, gives_up}

-- ticket 7 waits at a desk
abbrev waiting_desk : DeskState
waiting_desk = record { waiting = 7 ∷ []; lent = None; left = 0; served = false }

-- the calm world, except that ticket 7 waits at node 1
abbrev pub asking : World
asking = record { net = two_nodes; spares = 0; node = λ v. node_with v (if v == 0 then no_desk else waiting_desk) 0 0 0; link = λ u v. [] }

-- both nodes tick, and a frame goes each way
abbrev pub least : List Event
least = Tick 0 ∷ Tick 1 ∷ Send 0 1 ∷ Take 0 1 ∷ Send 1 0 ∷ Take 1 0 ∷ []

-- the same if a loan of node 1 begins: ticket 7 releases the lock, and node 1 makes a full tick
abbrev lending : List Event
lending = Tick 0 ∷ Tick 1 ∷ Leave 1 7 ∷ Tick 1 ∷ Send 0 1 ∷ Take 0 1 ∷ Send 1 0 ∷ Take 1 0 ∷ []

-- one stretch after the other
abbrev pub joined : List (List Event) → List Event
joined [] = []
joined (es ∷ ess) = es ++ joined ess

-- the stretch is without damage, both nodes make a full tick, and both links are renewed
abbrev is_sweep : World → List Event → Bool
is_sweep w es = not (has_damage w es) && (has_full_tick w es 0 && (has_full_tick w es 1 && (is_renewed w es 0 1 && is_renewed w es 1 0)))

abbrev AreSweeps : World → List (List Event) → Type 0
AreSweeps w [] = Unit {0}
AreSweeps w (es ∷ ess) = (w.net ≡ two_nodes) × IsTrue (is_sweep w es) × AreSweeps (run w es) ess

both-true : (p q : Bool) → IsTrue (p && q) → IsTrue p × IsTrue q
both-true true true h = (refl, refl)
both-true true false h = absurd (grind arith)
both-true false q h = absurd (grind arith)

not-true : (p : Bool) → IsTrue (not p) → IsFalse p
not-true true h = absurd (grind arith)
not-true false h = refl

sweep-of_two : (w : World) (es : List Event) → w.net ≡ two_nodes → IsTrue (is_sweep w es) → IsSweep w es
sweep-of_two w es same holds =
    let a = both-true (not (has_damage w es)) _ holds in
    let b = both-true (has_full_tick w es 0) _ a.1 in
    let c = both-true (has_full_tick w es 1) _ b.1 in
    let d = both-true (is_renewed w es 0 1) _ c.1 in
    record {
      undamaged = not-true (has_damage w es) a.0;
      ticked = λ v below. each-node (λ u. IsTrue (has_full_tick w es u)) b.0 c.0 v (subst (λ (n : Network). v < n.nodes) same below);
      renewed = λ u v edge. each-link (λ i j. IsTrue (is_renewed w es i j)) d.0 d.1 u v (subst (λ (n : Network). IsTrue (are_joined n.edges u v)) same edge);
    }

pub sweeps-of_two : (w : World) (ess : List (List Event)) → AreSweeps w ess → Sweeps w (length ess) (joined ess)
sweeps-of_two w [] all = tt
sweeps-of_two w (es ∷ ess) all = (es, joined ess, refl, sweep-of_two w es all.0 all.1, sweeps-of_two (run w es) ess all.2)

one-of : (P : ℕ → Type 0) (v : ℕ) → P v → All P (v ∷ [])
one-of P v p = All-cons P v [] p (All-nil P)

-- ---- the premises of the service law, if a ticket waits first at a node: 8(n - 1)(0 + 2) sweeps

abbrev stretches : List (List Event)
stretches =
    least ∷ least ∷ lending ∷ least ∷ least ∷ least ∷ least ∷ least ∷ least ∷ least ∷ least ∷ least ∷ least ∷ least ∷ least ∷ least ∷ []

abbrev events : List Event
events = joined stretches

pub asking-in_range : IsWorldInRange asking
asking-in_range = record {
  network = is-accepted;
  nodes = each-node (λ v. IsNodeInRange (site asking v) (asking.node v))
      (record { distance = omega arith; parent = refl; ports = one-of (λ w. IsTrue (port_fits (ranges_of two_nodes) ((asking.node 0).port w))) 1 refl; values = one-of (λ w. (asking.node 0).value w < 7) 1 (omega arith); desk = refl })
      (record { distance = omega arith; parent = refl; ports = one-of (λ w. IsTrue (port_fits (ranges_of two_nodes) ((asking.node 1).port w))) 0 refl; values = one-of (λ w. (asking.node 1).value w < 7) 0 (omega arith); desk = refl });
  capacity = λ u v joined. omega arith;
  items = λ u v joined. All-nil (λ item. IsTrue (item_fits (ranges_of two_nodes) item));
}

pub asking-is_legitimate : IsLegitimate asking
asking-is_legitimate = record {
  links = calm-links_stable;
  tree = record {
    distance = calm-tree_reached.distance;
    parent = calm-tree_reached.parent;
    staged = λ v u j. let p = calm-tree_reached.staged v u j in record { distance = p.distance; parent = p.parent };
    copied = λ v u j. let p = calm-tree_reached.copied v u j in record { distance = p.distance; parent = p.parent };
  };
  ring = inl (refl, inl (refl, inl (refl, inl (refl, inl (refl, inl (refl, tt))))));
  desks = each-node (λ v. IsTrue (is_lending asking v) → IsTrue (is_privileged asking v)) (λ lends. absurd (false≢true lends)) (λ lends. absurd (false≢true lends));
}

undamaged : IsUndamaged asking events
undamaged = refl

first : IsAtPlace 7 0 (asking.node 1).desk.waiting
first = refl

never-gives_up : gives_up asking events 1 7 ≡ false
never-gives_up = refl

enough : Sweeps asking 16 events
enough = sweeps-of_two asking stretches (
  refl,
  refl,
  (
    refl,
    refl,
    (
      refl,
      refl,
      (
        refl,
        refl,
        (
          refl,
          refl,
          (
            refl,
            refl,
            (
              refl,
              refl,
              (
                refl,
                refl,
                (refl, refl, (refl, refl, (refl, refl, (refl, refl, (refl, refl, (refl, refl, (refl, refl, (refl, refl, tt)))))))),
              ),
            ),
          ),
        ),
      ),
    ),
  ),
)

-- ---- what the law says about them

-- the lock is lent to the ticket, in the third sweep and not before
is-lent : is_lent_once asking events 1 7 ≡ true
is-lent = refl

lent-in_the_third : is_lent_once asking (least ++ least ++ Tick 0 ∷ Tick 1 ∷ []) 1 7 ≡ true
lent-in_the_third = refl

not-lent_before : is_lent_once asking (least ++ least ++ Tick 0 ∷ []) 1 7 ≡ false
not-lent_before = refl

-- nor to another ticket, nor at the other node
not-to_another : is_lent_once asking events 1 8 ≡ false
not-to_another = refl

not-elsewhere : is_lent_once asking events 0 7 ≡ false
not-elsewhere = refl

-- a loan counts even after it has ended
given-back : ((run asking (least ++ least ++ lending)).node 1).desk.lent ≡ None
given-back = refl

-- and one at the very start of a list counts
lent-at_the_start : is_lent_once (run asking (least ++ least ++ Tick 0 ∷ Tick 1 ∷ [])) [] 1 7 ≡ true
lent-at_the_start = refl

-- ---- who is privileged on the way

-- node 0 at the start, node 1 only once the new value has arrived
node-0_at_the_start : is_privileged_once asking [] 0 ≡ true
node-0_at_the_start = refl

node-1_in_the_second : is_privileged_once asking (least ++ least) 1 ≡ true
node-1_in_the_second = refl

node-1_not_in_the_first : is_privileged_once asking least 1 ≡ false
node-1_not_in_the_first = refl

-- ---- who gives up

-- a ticket that leaves while it waits
leaves-while_it_waits : gives_up asking (Tick 0 ∷ Leave 1 7 ∷ []) 1 7 ≡ true
leaves-while_it_waits = refl

-- not one that only waits, nor one that leaves while it has the lock
only-waits : gives_up asking least 1 7 ≡ false
only-waits = refl

leaves-while_lent_to : gives_up asking (least ++ least ++ lending) 1 7 ≡ false
leaves-while_lent_to = refl

-- nor if another ticket leaves, or it leaves elsewhere
another-leaves : gives_up asking (Ask 1 8 ∷ Leave 1 8 ∷ []) 1 7 ≡ false
another-leaves = refl

leaves-elsewhere : gives_up asking (Ask 0 7 ∷ Leave 0 7 ∷ []) 1 7 ≡ false
leaves-elsewhere = refl
