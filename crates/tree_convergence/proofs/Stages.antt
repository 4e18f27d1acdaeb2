-- The stages of the tree: an event keeps each, and four sweeps raise it.
use Rattle.std.proofs.Common.{◌≡◌, ℕ, ◌+◌, ◌<◌, inl, inr, true, false, List, [], ◌∷◌, refl, sym, ◌∙◌, ap, subst, IsTrue}
use Rattle.topology.specs.Network.{are_joined}
use Rattle.topology.specs.Tree.{distance_of}
use Rattle.topology.specs.Laws as topology
use Rattle.bfs_tree.specs.Stage.{is_of_stage}
use Rattle.bfs_tree.specs.Laws as bfs_tree
use Rattle.run_model.specs.node_core.Step.{copied_distance}
use Rattle.run_model.specs.World.{World, IsWorldInRange}
use Rattle.run_model.specs.Step.{step}
use Rattle.run_model.specs.Run.{run, is_damage, IsUndamaged}
use Rattle.run_model.specs.Sweep.{IsSweep, is_full_tick, Sweeps}
use Rattle.run_model.specs.Tree.{IsTreeAtStage}
use Rattle.run_model.specs.Links.{AreLinksStable}
use Rattle.run_model.specs.Laws as runs
use Rattle.run_model.specs.declared.event.Event.{Event}
use Rattle.tree_convergence.specs.Laws.{LinksStayStable, StagedIsPresent, CopyIsStaged, PayloadsTurnFresh, StageStays, StageRises}
use Rattle.run_model.proofs.Along.{undamaged-one, IsUndamagedEvent, IsKept, kept, ticked, in_range}
use Rattle.tree_convergence.proofs.Along.{always}
use Rattle.tree_convergence.proofs.Own.{next_distance, own-distance, tick-distance}

-- every link is stable, and the tree is at stage k
record IsRising (k : ℕ) (w : World) : Type 0 where
  links : AreLinksStable w
  stage : IsTreeAtStage k w

-- v's own distance is at stage k
abbrev IsOwnAt : ℕ → ℕ → World → Type 0
IsOwnAt k v w = v < w.net.nodes → IsTrue (is_of_stage k (distance_of w.net v) (w.node v).distance)

-- the tree is at stage k, and each node's own distance at the next
record IsHalfRisen (k : ℕ) (w : World) : Type 0 where
  rising : IsRising k w
  own : (v : ℕ) → IsOwnAt (k + 1) v w

module _ (net-stays : runs.NetworkStays) (joined-back : topology.JoinedBack) (rises : bfs_tree.StageRises) (includes : bfs_tree.StageIncludes) where
  -- what a tick computes from a world at stage k is at the next stage,
  next-rises : (k : ℕ) (w : World) (v : ℕ) → IsWorldInRange w → v < w.net.nodes → IsTreeAtStage k w
      → IsTrue (is_of_stage (k + 1) (distance_of w.net v) (next_distance w v))
  next-rises k w v r b s =
      rises w.net k v (copied_distance (w.node v)) r.network b (λ u j. s.copied u v (subst IsTrue (joined-back w.net.edges v u) j))

  -- and so at stage k too
  next-stays : (k : ℕ) (w : World) (v : ℕ) → IsWorldInRange w → v < w.net.nodes → IsTreeAtStage k w
      → IsTrue (is_of_stage k (distance_of w.net v) (next_distance w v))
  next-stays k w v r b s = includes k (distance_of w.net v) (next_distance w v) (next-rises k w v r b s)

  -- a node's own distance keeps a stage that a tick would give it
  own-stays : (k : ℕ) (w : World) (e : Event) (v : ℕ) → is_damage w e ≡ false → IsTrue (is_of_stage k (distance_of w.net v) (next_distance w v))
      → IsTrue (is_of_stage k (distance_of w.net v) (w.node v).distance) → IsTrue (is_of_stage k (distance_of w.net v) ((step w e).node v).distance)
  own-stays k w e v d next old = elim (own-distance w e v d) [
    | inl same ↦ subst (λ x. IsTrue (is_of_stage k (distance_of w.net v) x)) (sym same) old
    | inr new ↦ subst (λ x. IsTrue (is_of_stage k (distance_of w.net v) x)) (sym new) next
  ]

  module _ (joined-nodes : topology.JoinedAreNodes) (staged-present : StagedIsPresent) (copy-staged : CopyIsStaged) where
    pub stage-stays : StageStays
    stage-stays k w e r d links s =
        let net : (step w e).net ≡ w.net = net-stays w (e ∷ []) (undamaged-one w e d) in
        record {
          own = λ v b.
              let b' : v < w.net.nodes = subst (λ n. v < n.nodes) net b in
              subst (λ n. IsTrue (is_of_stage k (distance_of n v) ((step w e).node v).distance)) (sym net)
              (own-stays k w e v d (next-stays k w v r b' s) (s.own v b'));
          staged = λ v u j.
              let j' : IsTrue (are_joined w.net.edges v u) = subst (λ n. IsTrue (are_joined n.edges v u)) net j in
              subst (λ n. IsTrue (is_of_stage k (distance_of n v) (((step w e).node v).port u).staged.distance)) (sym net)
              (elim (staged-present w e v u r d j') [
                | inl same ↦ subst (λ p. IsTrue (is_of_stage k (distance_of w.net v) p.distance)) (sym same) (s.staged v u j')
                | inr new ↦ subst (λ p. IsTrue (is_of_stage k (distance_of w.net v) p.distance)) (sym new) (s.own v (joined-nodes w.net v u r.network j').0)
              ]);
          copied = λ v u j.
              let j' : IsTrue (are_joined w.net.edges v u) = subst (λ n. IsTrue (are_joined n.edges v u)) net j in
              subst (λ n. IsTrue (is_of_stage k (distance_of n v) (((step w e).node u).port v).copy.distance)) (sym net)
              (elim (copy-staged w e v u r d j' (links v u j')) [
                | inl same ↦ subst (λ p. IsTrue (is_of_stage k (distance_of w.net v) p.distance)) (sym same) (s.copied v u j')
                | inr new ↦ subst (λ p. IsTrue (is_of_stage k (distance_of w.net v) p.distance)) (sym new) (s.staged v u j')
              ]);
        }

    -- ---- four sweeps

    module _ (ranges : runs.RangesStay) (links-stay : LinksStayStable) where
      rising-kept : (k : ℕ) → IsKept (in_range ranges) (IsRising k)
      rising-kept k w e (r, d) h = record { links = links-stay w e r d h.links; stage = stage-stays k w e r d h.links h.stage }

      -- once v's own distance is at the next stage it stays there,
      own-kept : (k v : ℕ) (w : World) (e : Event) → IsUndamagedEvent w e → IsRising k w → IsOwnAt (k + 1) v w → IsOwnAt (k + 1) v (step w e)
      own-kept k v w e (r, d) h own b =
          let net : (step w e).net ≡ w.net = net-stays w (e ∷ []) (undamaged-one w e d) in
          let b' : v < w.net.nodes = subst (λ n. v < n.nodes) net b in
          subst (λ n. IsTrue (is_of_stage (k + 1) (distance_of n v) ((step w e).node v).distance)) (sym net)
          (own-stays (k + 1) w e v d (next-rises k w v r b' h.stage) (own b'))

      -- and a full tick takes it there
      own-ticked : (k v : ℕ) (w : World) (e : Event) → IsUndamagedEvent w e → IsRising k w → is_full_tick w e v ≡ true → IsOwnAt (k + 1) v (step w e)
      own-ticked k v w e (r, d) h tick b =
          let net : (step w e).net ≡ w.net = net-stays w (e ∷ []) (undamaged-one w e d) in
          let b' : v < w.net.nodes = subst (λ n. v < n.nodes) net b in
          subst (λ n. IsTrue (is_of_stage (k + 1) (distance_of n v) ((step w e).node v).distance)) (sym net)
          (subst (λ x. IsTrue (is_of_stage (k + 1) (distance_of w.net v) x)) (sym (tick-distance w e v b' tick)) (next-rises k w v r b' h.stage))

      half-kept : (k : ℕ) → IsKept (in_range ranges) (IsHalfRisen k)
      half-kept k w e now h = record { rising = rising-kept k w e now h.rising; own = λ v. own-kept k v w e now h.rising (h.own v) }

      -- one sweep for the nodes' own distances
      half-risen : (k : ℕ) (w : World) (es : List Event) → IsWorldInRange w → IsRising k w → IsSweep w es → IsHalfRisen k (run w es)
      half-risen k w es r h sweep = record {
        rising = kept (in_range ranges) (IsRising k) (rising-kept k) w es (r, sweep.undamaged) h;
        own = λ v b. ticked (in_range ranges) (IsRising k) (IsOwnAt (k + 1) v) v (rising-kept k) (own-kept k v) (own-ticked k v) w es (r, sweep.undamaged) h
            (sweep.ticked v (subst (λ n. v < n.nodes) (net-stays w es sweep.undamaged) b)) b;
      }

      module _ (turn-fresh : PayloadsTurnFresh) where
        -- what v has staged for u, and what u has copied from v, three sweeps later
        half-fresh : (k : ℕ) (w : World) (es : List Event) (v u : ℕ) → IsWorldInRange w → IsUndamaged w es → IsHalfRisen k w → Sweeps w 3 es → IsTrue (are_joined w.net.edges v u)
            → IsTrue (is_of_stage (k + 1) (distance_of w.net v) (((run w es).node v).port u).staged.distance)
            × IsTrue (is_of_stage (k + 1) (distance_of w.net v) (((run w es).node u).port v).copy.distance)
        half-fresh k w es v u r d h sweeps j =
            turn-fresh (λ p. is_of_stage (k + 1) (distance_of w.net v) p.distance) w es v u r d j (h.rising.links v u j) sweeps
            (always ranges (λ x. (x.net ≡ w.net) × IsHalfRisen k x)
            (λ x e now hx. (net-stays x (e ∷ []) (undamaged-one x e now.1) ∙ hx.0, half-kept k x e now hx.1))
            (λ p. is_of_stage (k + 1) (distance_of w.net v) p.distance) v u
            (λ x rx hx. subst (λ n. is_of_stage (k + 1) (distance_of n v) (x.node v).distance ≡ true) hx.0
            (hx.1.own v (subst (λ n. v < n.nodes) (sym hx.0) (joined-nodes w.net v u r.network j).0)))
            w es (r, d) (refl, h))

        -- three more sweeps for the staged and the copied ones
        risen : (k : ℕ) (w : World) (es : List Event) → IsWorldInRange w → IsUndamaged w es → IsHalfRisen k w → Sweeps w 3 es → IsTreeAtStage (k + 1) (run w es)
        risen k w es r d h sweeps =
            let net : (run w es).net ≡ w.net = net-stays w es d in
            record {
              own = (kept (in_range ranges) (IsHalfRisen k) (half-kept k) w es (r, d) h).own;
              staged = λ v u j. subst (λ n. IsTrue (is_of_stage (k + 1) (distance_of n v) (((run w es).node v).port u).staged.distance)) (sym net)
                  (half-fresh k w es v u r d h sweeps (subst (λ n. IsTrue (are_joined n.edges v u)) net j)).0;
              copied = λ v u j. subst (λ n. IsTrue (is_of_stage (k + 1) (distance_of n v) (((run w es).node u).port v).copy.distance)) (sym net)
                  (half-fresh k w es v u r d h sweeps (subst (λ n. IsTrue (are_joined n.edges v u)) net j)).1;
            }

        pub stage-rises : runs.UndamagedSplits → runs.RunsJoin → StageRises
        stage-rises splits joins k w es r d links s (first, rest, e, sweep, later) =
            let d' : IsUndamaged (run w first) rest = (splits w first rest (subst (λ l. IsUndamaged w l) e d)).1 in
            let half : IsHalfRisen k (run w first) = half-risen k w first r (record { links = links; stage = s }) sweep in
            let world : run w es ≡ run (run w first) rest = ap (run w) e ∙ joins w first rest in
            subst (IsTreeAtStage (k + 1)) (sym world) (risen k (run w first) rest (ranges w first r) d' half later)
