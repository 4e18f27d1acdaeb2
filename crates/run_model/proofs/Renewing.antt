-- Longer stretches: the whole hands over what a part of it does, so a sweep stays a sweep if
-- events without damage are added before or after it.
use Rattle.std.proofs.Common.{◌≡◌, ℕ, ◌<◌, suc, List, [], ◌∷◌, ◌++◌, true, IsTrue, length, map, refl, sym, ap, subst, arith}
use Rattle.std.proofs.lemmas.Bool.{or_left, or_right, or_parts}
use Rattle.std.proofs.lemmas.List.{map-append}
use Rattle.link_model.specs.topology.Network.{are_joined}
use Rattle.link_model.specs.declared.item.Item.{Item}
use Rattle.link_model.specs.declared.item.Item.TheVariants.{Frame}
use Rattle.node_core.specs.data_link.Port.{frame_of}
use Rattle.link_model.specs.Acts.{Origin, Before, Sent, LinkAct, Takes, is_first_sent, takes_sent, list_after, hands_over_sent}
use Rattle.link_model.proofs.Marks.{IsMarked, IsFirstGood, marked-start, marked-length, marked-after, marked-taken, by_taken}
use Rattle.run_model.specs.World.{World}
use Rattle.run_model.specs.Step.{step}
use Rattle.run_model.specs.Run.{run, is_damage, has_damage, IsUndamaged}
use Rattle.run_model.specs.Sweep.{is_full_tick, has_full_tick, link_act, is_renewed, IsSweep}
use Rattle.run_model.specs.declared.event.Event.{Event}
use Rattle.run_model.proofs.Joined.{IsEdge, AreEdges}
use Rattle.run_model.proofs.Steps.{step-network}
use Rattle.run_model.proofs.Runs.{run-network, undamaged-splits}
use Rattle.run_model.proofs.Edges.{link-after}

-- ---- full ticks

pub ticked-early : (w : World) (xs ys : List Event) (v : ℕ) → has_full_tick w xs v ≡ true → has_full_tick w (xs ++ ys) v ≡ true
ticked-early w [] ys v h = absurd cc
ticked-early w (e ∷ xs) ys v h = by_taken (is_full_tick w e v) (has_full_tick (step w e) xs v) h
    (λ now. or_left (is_full_tick w e v) (has_full_tick (step w e) (xs ++ ys) v) now)
    (λ not_now later. or_right (is_full_tick w e v) (has_full_tick (step w e) (xs ++ ys) v) (ticked-early (step w e) xs ys v later))

pub ticked-late : (w : World) (xs ys : List Event) (v : ℕ) → has_full_tick (run w xs) ys v ≡ true → has_full_tick w (xs ++ ys) v ≡ true
ticked-late w [] ys v h = h
ticked-late w (e ∷ xs) ys v h = or_right (is_full_tick w e v) (has_full_tick (step w e) (xs ++ ys) v) (ticked-late (step w e) xs ys v h)

-- ---- items that were sent inside

-- an item of a list of origins was sent inside the stretch
abbrev pub IsSent : Origin → Type 0
IsSent origin = IsTrue (is_first_sent (origin ∷ []))

-- if each item that was sent inside one stretch was sent inside another, the other hands over such
-- an item too
more-sent : (capacity i j : ℕ) (acts : List LinkAct) (few many : List Origin) → IsMarked IsSent few many
    → hands_over_sent capacity i acts few ≡ true → hands_over_sent capacity j acts many ≡ true
more-sent capacity i j [] few many m h = h
more-sent capacity i j (act ∷ acts) few many m h =
    let rest = hands_over_sent capacity (suc j) acts (list_after capacity (Sent j) act many) in
    by_taken (takes_sent act few) (hands_over_sent capacity (suc i) acts (list_after capacity (Sent i) act few)) h
    (λ now. let t = marked-taken IsSent act few many now m in or_left (takes_sent act many) rest (takes-first act many t.0 t.1))
    (λ not_now later. or_right (takes_sent act many) rest
    (more-sent capacity (suc i) (suc j) acts (list_after capacity (Sent i) act few) (list_after capacity (Sent j) act many)
    (marked-after IsSent capacity i (Sent j) act few many refl m) later))
  where
    takes-first : (act : LinkAct) (origins : List Origin) → act ≡ Takes → IsFirstGood IsSent origins → takes_sent act origins ≡ true
    takes-first act [] e first = absurd first
    takes-first act (Before ∷ origins) e first = absurd cc
    takes-first act (Sent i ∷ origins) e first = rw e

hands-early : (capacity i : ℕ) (xs ys : List LinkAct) (origins : List Origin)
    → hands_over_sent capacity i xs origins ≡ true → hands_over_sent capacity i (xs ++ ys) origins ≡ true
hands-early capacity i [] ys origins h = absurd cc
hands-early capacity i (act ∷ xs) ys origins h =
    let later = list_after capacity (Sent i) act origins in
    let rest = hands_over_sent capacity (suc i) (xs ++ ys) later in
    by_taken (takes_sent act origins) (hands_over_sent capacity (suc i) xs later) h
    (λ now. or_left (takes_sent act origins) rest now)
    (λ not_now then. or_right (takes_sent act origins) rest (hands-early capacity (suc i) xs ys later then))

-- the marks of a stretch may start over if there are as many marks as items
fresh-marks : (xs : List Item) (origins : List Origin) → length origins ≡ length xs → map (λ item. Before) xs ≡ map (λ origin. Before) origins
fresh-marks [] [] e = refl
fresh-marks [] (o ∷ os) e = absurd (omega (arith, e))
fresh-marks (x ∷ xs) [] e = absurd (omega (arith, e))
fresh-marks (x ∷ xs) (o ∷ os) e = ap (λ l. Before ∷ l) (fresh-marks xs os (omega (arith, e)))

-- there are as many marks as items
abbrev pub IsBeside : List Origin → List Item → Type 0
IsBeside origins items = IsMarked (λ item. Unit {0}) origins items

-- a stretch hands over what its end alone hands over
hands-late : (w : World) (i : ℕ) (xs ys : List Event) (u v : ℕ) (origins : List Origin) → IsEdge w.net u v
    → IsUndamaged w xs → IsBeside origins (w.link u v) → is_renewed (run w xs) ys u v ≡ true
    → hands_over_sent w.net.capacity i (map (link_act u v) (xs ++ ys)) origins ≡ true
hands-late w i [] ys u v origins pair fine e h =
    more-sent w.net.capacity 0 i (map (link_act u v) ys) (map (λ item. Before) (w.link u v)) origins
    (subst (λ l. IsMarked IsSent l origins) (sym (fresh-marks (w.link u v) origins (marked-length (λ item. Unit {0}) origins (w.link u v) e))) (marked-start IsSent origins)) h
hands-late w i (event ∷ xs) ys u v origins pair fine e h =
    let parts = or_parts (is_damage w event) (has_damage (step w event) xs) fine in
    let same = step-network w event parts.0 in
    let capacity = w.net.capacity in
    let act = link_act u v event in
    let later = list_after capacity (Sent i) act origins in
    let beside : IsBeside later ((step w event).link u v)
    = subst (IsBeside later) (sym (link-after w event u v pair parts.0))
    (marked-after (λ item. Unit {0}) capacity i (Frame (frame_of ((w.node u).port v))) act origins (w.link u v) tt e) in
    or_right (takes_sent act origins) (hands_over_sent capacity (suc i) (map (link_act u v) (xs ++ ys)) later)
    (subst (λ net. hands_over_sent net.capacity (suc i) (map (link_act u v) (xs ++ ys)) later ≡ true) same
    (hands-late (step w event) (suc i) xs ys u v later (subst (λ net. IsEdge net u v) (sym same) pair) parts.1 beside h))

-- a stretch renews a link that its end renews
pub renewed-late : (w : World) (xs ys : List Event) (u v : ℕ) → IsEdge w.net u v → IsUndamaged w xs
    → is_renewed (run w xs) ys u v ≡ true → is_renewed w (xs ++ ys) u v ≡ true
renewed-late w xs ys u v pair fine h =
    hands-late w 0 xs ys u v (map (λ item. Before) (w.link u v)) pair fine (marked-start (λ item. Unit {0}) (w.link u v)) h

-- and it renews a link that its beginning renews
pub renewed-early : (w : World) (xs ys : List Event) (u v : ℕ) → is_renewed w xs u v ≡ true → is_renewed w (xs ++ ys) u v ≡ true
renewed-early w xs ys u v h =
    rw (map-append (link_act u v) xs ys)
    (hands-early w.net.capacity 0 (map (link_act u v) xs) (map (link_act u v) ys) (map (λ item. Before) (w.link u v)) h)

-- ---- sweeps

pub sweep-early : (w : World) (xs ys : List Event) → IsUndamaged w (xs ++ ys) → IsSweep w xs → IsSweep w (xs ++ ys)
sweep-early w xs ys fine sweep = record {
  undamaged = fine;
  ticked = λ v l. ticked-early w xs ys v (sweep.ticked v l);
  renewed = λ u v joined. renewed-early w xs ys u v (sweep.renewed u v joined);
}

pub sweep-late : (w : World) (xs ys : List Event) → AreEdges w.net → IsUndamaged w (xs ++ ys) → IsSweep (run w xs) ys → IsSweep w (xs ++ ys)
sweep-late w xs ys edges fine sweep =
    let same = sym (run-network w xs (undamaged-splits w xs ys fine).0) in record {
      undamaged = fine;
      ticked = λ v l. ticked-late w xs ys v (sweep.ticked v (subst (λ net. v < net.nodes) same l));
      renewed = λ u v joined.
          renewed-late w xs ys u v (edges u v joined) (undamaged-splits w xs ys fine).0
          (sweep.renewed u v (subst (λ net. IsTrue (are_joined net.edges u v)) same joined));
    }

-- more events without damage before or after a sweep leave it a sweep
pub sweep-grows : (w : World) (front es back : List Event) → AreEdges w.net → IsUndamaged w (front ++ es ++ back) → IsSweep (run w front) es
    → IsSweep w (front ++ es ++ back)
sweep-grows w front es back edges fine sweep =
    sweep-early w (front ++ es) back fine (sweep-late w front es edges (undamaged-splits w (front ++ es) back fine).0 sweep)
