-- The sweeps of all stages, one after the other.
use Rattle.std.proofs.Common.{◌≡◌, ℕ, ◌+◌, ◌*◌, ◌<◌, zero, suc, true, List, sym, ◌∙◌, ap, subst, arith, IsTrue}
use Rattle.std.proofs.lemmas.Bool.Decides.{nat_tests}
use Rattle.topology.specs.Network.{Network}
use Rattle.topology.specs.Tree.{distance_of}
use Rattle.topology.specs.Laws.{EachTree, JoinedAreNodes}
use Rattle.topology.specs.Eccentricity.{eccentricity_of, DistancesWithin}
use Rattle.bfs_tree.specs.Stage.{is_of_stage}
use Rattle.run_model.specs.World.{World, IsWorldInRange}
use Rattle.run_model.specs.Run.{run, IsUndamaged}
use Rattle.run_model.specs.Sweep.{Sweeps}
use Rattle.run_model.specs.Tree.{IsTreeAtStage, IsTreeReached}
use Rattle.run_model.specs.Links.{AreLinksStable}
use Rattle.run_model.specs.Laws as runs
use Rattle.run_model.specs.declared.event.Event.{Event}
use Rattle.tree_convergence.specs.Laws.{LinksStayStable, StageZero, StageRises, ParentsTurnTrue, TreeIsReached, TreeIsReachedByDepth}
use Rattle.run_model.proofs.Along.{kept, in_range}

-- ---- the last stage

-- all stages above a distance say the same about it
above-is_exact : (k n real d : ℕ) → real < k → real < n → is_of_stage k real d ≡ true → is_of_stage n real d ≡ true
above-is_exact k n real d l m h = grind (arith, nat_tests)

-- so the stage above the greatest distance is the last one
deep-is_last : EachTree → JoinedAreNodes → DistancesWithin → (w : World) → IsWorldInRange w → IsTreeAtStage (eccentricity_of w.net + 1) w
    → IsTreeAtStage w.net.nodes w
deep-is_last known nodes within w r s =
    let exact : (v d : ℕ) → v < w.net.nodes → IsTrue (is_of_stage (eccentricity_of w.net + 1) (distance_of w.net v) d) → IsTrue (is_of_stage w.net.nodes (distance_of w.net v) d) =
    λ v d l h. (let e = within w.net v l in
    above-is_exact (eccentricity_of w.net + 1) w.net.nodes (distance_of w.net v) d (omega (arith, e)) ((known w.net r.network).below v l) h) in
    record {
      own = λ v l. exact v ((w.node v).distance) l (s.own v l);
      staged = λ v u j. exact v (((w.node v).port u).staged.distance) ((nodes w.net v u r.network j).0) (s.staged v u j);
      copied = λ v u j. exact v (((w.node u).port v).copy.distance) ((nodes w.net v u r.network j).0) (s.copied v u j);
    }

-- ---- the sweeps

module _ (net-stays : runs.NetworkStays) (ranges : runs.RangesStay) (undamaged : runs.UndamagedSplits) (joins : runs.RunsJoin) (splits : runs.SweepsSplit)
    (links-stay : LinksStayStable) (rises : StageRises) (parents : ParentsTurnTrue) where
  module _ (last : Network → ℕ) (is-last : (w : World) → IsWorldInRange w → IsTreeAtStage (last w.net) w → IsTreeAtStage w.net.nodes w) where
    -- from stage k, four sweeps for each stage up to the last, and four for the parents
    from-stage : (j k : ℕ) (w : World) (es : List Event) → IsWorldInRange w → IsUndamaged w es → AreLinksStable w → IsTreeAtStage k w → k + j ≡ last w.net
        → Sweeps w (4 * j + 4) es → IsTreeReached (run w es)
    from-stage zero k w es r d links s n sweeps =
        let same : k ≡ last w.net = omega (arith, n) in
        parents w es r d links (is-last w r (subst (λ k. IsTreeAtStage k w) same s)) sweeps
    from-stage (suc j) k w es r d links s n sweeps =
        let sum : 4 * suc j + 4 ≡ 4 + (4 * j + 4) = omega arith in
        let cut = splits w 4 (4 * j + 4) es (subst (λ m. Sweeps w m es) sum sweeps) in
        let parts : IsUndamaged w cut.0 × IsUndamaged (run w cut.0) cut.1 = undamaged w cut.0 cut.1 (subst (λ l. IsUndamaged w l) cut.2 d) in
        let next : (k + 1) + j ≡ last (run w cut.0).net = subst (λ x. (k + 1) + j ≡ last x) (sym (net-stays w cut.0 parts.0)) (omega (arith, n)) in
        let world : run w es ≡ run (run w cut.0) cut.1 = ap (run w) cut.2 ∙ joins w cut.0 cut.1 in
        subst IsTreeReached (sym world)
        (from-stage j (k + 1) (run w cut.0) cut.1 (ranges w cut.0 r) parts.1 (kept (in_range ranges) AreLinksStable (λ x e now. links-stay x e now.0 now.1) w cut.0 (r, parts.0) links)
        (rises k w cut.0 r parts.0 links s cut.3) next cut.4)

  pub tree-reached : StageZero → TreeIsReached
  tree-reached zero-stage w es r d links sweeps =
      let sum : 4 * (w.net.nodes + 1) ≡ 4 * w.net.nodes + 4 = omega arith in
      from-stage (λ net. net.nodes) (λ w r s. s) w.net.nodes 0 w es r d links (zero-stage w r) (omega arith) (subst (λ m. Sweeps w m es) sum sweeps)

  pub tree-reached_by_depth : EachTree → JoinedAreNodes → DistancesWithin → StageZero → TreeIsReachedByDepth
  tree-reached_by_depth known nodes within zero-stage w es r d links sweeps =
      let e = eccentricity_of w.net in
      let sum : 4 * (e + 2) ≡ 4 * (e + 1) + 4 = omega arith in
      from-stage (λ net. eccentricity_of net + 1) (deep-is_last known nodes within) (e + 1) 0 w es r d links (zero-stage w r) (omega arith)
      (subst (λ m. Sweeps w m es) sum sweeps)
