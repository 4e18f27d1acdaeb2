-- A world is set up fact by fact.
use Rattle.std.proofs.Common.{◌≡◌, ◌∙◌, ap, sym, refl, subst, arith, ℕ, suc, ◌+◌, ◌≤◌, List, [], ◌∷◌, ◌++◌}
use Rattle.std.proofs.lemmas.List.{append-nil}
use Rattle.std.proofs.lemmas.List.Sums.{fold-append}
use Rattle.topology.specs.Network.{Network}
use Rattle.node_recorder.specs.Turns.{network_mark}
use Rattle.record_gathering.specs.View.{gathered}
use Rattle.record_gathering.specs.Counts.{with_event, with_events, nothing}
use Rattle.record_gathering.specs.Laws.{FactsJoin}
use Rattle.record_gathering.specs.Facts.{facts_of, edge_facts, states_below, links_below, fact_events, queues_with, set_events, set_queues}
use Rattle.record_gathering.specs.declared.facts.Fact.{Fact}
use Rattle.record_gathering.specs.declared.found.EventCounts.{EventCounts}
use Rattle.record_gathering.specs.configuration.run_model.World.{World}
use Rattle.record_gathering.specs.configuration.run_model.Run.{run}
use Rattle.record_gathering.specs.configuration.run_model.Start.{world_with_spares}
use Rattle.record_gathering.specs.configuration.run_model.Laws.{RunsJoin, FrameStays}
use Rattle.record_gathering.specs.configuration.run_model.declared.event.Event.{Event}
use Rattle.gather_command.specs.Scene.{SceneView, IsFresh, events_in, HasSet, events_to, IsSetUp}
use Rattle.gather_command.proofs.Gathers.{plus-one}
use Rattle.gather_command.proofs.Weaves.{nodes-stay}

module _ {K : Type 0} (takes : K → List Event → K → Type 0) (failures : K → ℕ)
    (takes_none : (s : K) → takes s [] s)
    (takes_both : (a b c : K) (xs ys : List Event) → takes a xs b → takes b ys c → takes a (xs ++ ys) c) where
  pub none-set : (s : SceneView) (k : K) → HasSet takes failures s k [] s k
  none-set s k = record { world = refl; queues = refl; found = refl; taken = takes_none k; counted = omega arith }

  -- one fact became events, which were taken
  pub one-set : (old new : SceneView) (f : Fact) (es : List Event) (s t : K)
      → es ≡ fact_events (gathered old.gathering) old.gathering.queues f
      → gathered new.gathering ≡ run (gathered old.gathering) es
      → new.gathering.queues ≡ queues_with old.gathering.queues f → new.found ≡ with_events old.found es
      → takes s es t → failures s ≤ failures t → HasSet takes failures old s (f ∷ []) new t
  one-set old new f es s t same world queues found taken counted =
      let all : es ≡ events_in old (f ∷ []) =
      same ∙ sym (append-nil (fact_events (gathered old.gathering) old.gathering.queues f)) in
      record {
        world = world ∙ ap (run (gathered old.gathering)) all;
        queues = queues;
        found = found ∙ ap (with_events old.found) all;
        taken = subst (λ (l : List Event). takes s l t) all taken;
        counted = counted;
      }

  module _ (facts : FactsJoin) (join : RunsJoin) where
    pub both-set : (a b c : SceneView) (s t u : K) (xs ys : List Fact) → HasSet takes failures a s xs b t
        → HasSet takes failures b t ys c u → HasSet takes failures a s (xs ++ ys) c u
    both-set a b c s t u xs ys x y =
        let w = gathered a.gathering in
        let q = a.gathering.queues in
        let first = events_in a xs in
        let more = events_in b ys in
        let second : more ≡ set_events (run w first) (set_queues q xs) ys =
        ap (λ (v : World). set_events v b.gathering.queues ys) x.world
        ∙ ap (λ (r : List (List ℕ)). set_events (run w first) r ys) x.queues in
        let all : events_in a (xs ++ ys) ≡ first ++ more =
        facts.events w q xs ys ∙ ap (λ (l : List Event). first ++ l) (sym second) in
        record {
          world = y.world ∙ ap (λ (v : World). run v more) x.world ∙ sym (join w first more) ∙ ap (run w) (sym all);
          queues = y.queues ∙ ap (λ (r : List (List ℕ)). set_queues r ys) x.queues ∙ sym (facts.queues q xs ys);
          found = y.found ∙ ap (λ (f : EventCounts). with_events f more) x.found ∙ sym (fold-append with_event a.found first more)
              ∙ ap (with_events a.found) (sym all);
          taken = subst (λ (l : List Event). takes s l u) (sym all) (takes_both s t u first more x.taken y.taken);
          counted = omega (arith, x.counted, y.counted);
        }

    -- the facts of one node more
    pub next-set : (all : ℕ → List Fact) (n : ℕ) (more : List Fact) → all (suc n) ≡ all n ++ more → (a b c : SceneView) (s t u : K)
        → HasSet takes failures a s (all n) b t → HasSet takes failures b t more c u → HasSet takes failures a s (all (n + 1)) c u
    next-set all n more step a b c s t u x y =
        subst (λ (fs : List Fact). HasSet takes failures a s fs c u) (sym (ap all (plus-one n) ∙ step))
        (both-set a b c s t u (all n) more x y)

    -- the edges, the nodes and the links
    pub all-set : FrameStays → (net : Network) (w : World) (mark : ℕ) (a b c d : SceneView) (s t u v : K) → mark ≡ network_mark net
        → IsFresh net a → HasSet takes failures a s (edge_facts net w.net) b t
        → HasSet takes failures b t (states_below mark w w.net.nodes) c u
        → HasSet takes failures c u (links_below w w.net.nodes) d v
        → IsSetUp takes failures net w s d v
    all-set stays net w mark a b c d s t u v same fresh edges states links =
        let start = world_with_spares net 8 in
        let states_too : HasSet takes failures b t (states_below (network_mark net) w w.net.nodes) c u =
        subst (λ (m : ℕ). HasSet takes failures b t (states_below m w w.net.nodes) c u) same states in
        let later = both-set b c d t u v (states_below (network_mark net) w w.net.nodes) (links_below w w.net.nodes) states_too links in
        let has = both-set a b d s t v (edge_facts net w.net)
        (states_below (network_mark net) w w.net.nodes ++ links_below w w.net.nodes) edges later in
        let fs = facts_of (network_mark net) net w in
        let are : events_in a fs ≡ events_to net w =
        ap (λ (x : World). set_events x a.gathering.queues fs) fresh.world
        ∙ ap (λ (q : List (List ℕ)). set_events start q fs) fresh.queues in
        let world : gathered d.gathering ≡ run start (events_to net w) =
        has.world ∙ ap (λ (x : World). run x (events_in a fs)) fresh.world ∙ ap (run start) are in
        record {
          world = world;
          nodes = nodes-stay stays start (gathered d.gathering) (events_to net w) world;
          found = has.found ∙ ap (λ (f : EventCounts). with_events f (events_in a fs)) fresh.found ∙ ap (with_events nothing) are;
          taken = subst (λ (l : List Event). takes s l v) are has.taken;
          counted = has.counted;
        }
