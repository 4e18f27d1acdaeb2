-- Parents: once distances are exact, four sweeps reach the tree, and it stays reached.
use Rattle.std.proofs.Common.{◌≡◌, ℕ, ◌<◌, inl, inr, Bool, true, List, [], ◌∷◌, refl, sym, ◌∙◌, ap, subst, arith, IsTrue}
use Rattle.std.proofs.lemmas.Grind.{common_steps}
use Rattle.topology.specs.Network.{are_joined}
use Rattle.topology.specs.Tree.{distance_of, parent_of}
use Rattle.topology.specs.Laws as topology
use Rattle.topology.specs.declared.frame.Payload.{Payload}
use Rattle.bfs_tree.specs.Stage.{is_of_stage}
use Rattle.bfs_tree.specs.Laws as bfs_tree
use Rattle.run_model.specs.node_core.Step.{copied_distance}
use Rattle.run_model.specs.World.{World, IsWorldInRange}
use Rattle.run_model.specs.Step.{step}
use Rattle.run_model.specs.Run.{run, IsUndamaged}
use Rattle.run_model.specs.Sweep.{IsSweep, is_full_tick, Sweeps}
use Rattle.run_model.specs.Tree.{IsTreeAtStage, IsTreeReached}
use Rattle.run_model.specs.Links.{AreLinksStable}
use Rattle.run_model.specs.Laws as runs
use Rattle.run_model.specs.declared.event.Event.{Event}
use Rattle.tree_convergence.specs.Laws.{LinksStayStable, StagedIsPresent, CopyIsStaged, PayloadsTurnFresh, StageStays, ParentsTurnTrue, TreeStays}
use Rattle.tree_convergence.proofs.SameParent.{same_parent, same-is, same-self}
use Rattle.run_model.proofs.Along.{undamaged-one, IsUndamagedEvent, IsKept, kept, ticked, in_range}
use Rattle.tree_convergence.proofs.Along.{always}
use Rattle.tree_convergence.proofs.Own.{next_parent, own-parent, tick-parent}

-- every link is stable, and every distance is exact
record IsExact (w : World) : Type 0 where
  links : AreLinksStable w
  stage : IsTreeAtStage w.net.nodes w

-- v's own parent is the true one
abbrev HasParent : ℕ → World → Type 0
HasParent v w = v < w.net.nodes → (w.node v).parent ≡ parent_of w.net v

-- also, each node's own parent is the true one
record HasParents (w : World) : Type 0 where
  exact : IsExact w
  own : (v : ℕ) → HasParent v w

-- an exact distance is at every stage
stage-exact : (k real d : ℕ) → d ≡ real → IsTrue (is_of_stage k real d)
stage-exact k real d e = grind (arith, common_steps)

module _ (net-stays : runs.NetworkStays) (ranges : runs.RangesStay) (splits : runs.UndamagedSplits) (joins : runs.RunsJoin) (joined-back : topology.JoinedBack) (joined-nodes : topology.JoinedAreNodes) (last : bfs_tree.LastStage) (finds : bfs_tree.ExactParent) where
  next-true : (w : World) (v : ℕ) → IsWorldInRange w → v < w.net.nodes → IsTreeAtStage w.net.nodes w → next_parent w v ≡ parent_of w.net v
  next-true w v r b s = finds w.net v (copied_distance (w.node v)) r.network b (λ u j.
      last w.net u (((w.node v).port u).copy.distance) r.network (joined-nodes w.net v u r.network j).1
      (s.copied u v (subst IsTrue (joined-back w.net.edges v u) j)))

  module _ (links-stay : LinksStayStable) (stage-stays : StageStays) where
    exact-kept : IsKept (in_range ranges) IsExact
    exact-kept w e (r, d) h = record {
      links = links-stay w e r d h.links;
      stage = subst (λ n. IsTreeAtStage n (step w e)) (ap (λ n. n.nodes) (sym (net-stays w (e ∷ []) (undamaged-one w e d)))) (stage-stays w.net.nodes w e r d h.links h.stage);
    }

    parent-kept : (v : ℕ) (w : World) (e : Event) → IsUndamagedEvent w e → IsExact w → HasParent v w → HasParent v (step w e)
    parent-kept v w e (r, d) h own b =
        let net : (step w e).net ≡ w.net = net-stays w (e ∷ []) (undamaged-one w e d) in
        let b' : v < w.net.nodes = subst (λ n. v < n.nodes) net b in
        subst (λ n. ((step w e).node v).parent ≡ parent_of n v) (sym net) (elim (own-parent w e v d) [
          | inl same ↦ same ∙ own b'
          | inr next ↦ next ∙ next-true w v r b' h.stage
        ])

    parent-ticked : (v : ℕ) (w : World) (e : Event) → IsUndamagedEvent w e → IsExact w → is_full_tick w e v ≡ true → HasParent v (step w e)
    parent-ticked v w e (r, d) h tick b =
        let net : (step w e).net ≡ w.net = net-stays w (e ∷ []) (undamaged-one w e d) in
        let b' : v < w.net.nodes = subst (λ n. v < n.nodes) net b in
        subst (λ n. ((step w e).node v).parent ≡ parent_of n v) (sym net) (tick-parent w e v b' tick ∙ next-true w v r b' h.stage)

    parents-kept : IsKept (in_range ranges) HasParents
    parents-kept w e now h = record { exact = exact-kept w e now h.exact; own = λ v. parent-kept v w e now h.exact (h.own v) }

    -- one sweep
    parents-there : (w : World) (es : List Event) → IsWorldInRange w → IsExact w → IsSweep w es → HasParents (run w es)
    parents-there w es r h sweep = record {
      exact = kept (in_range ranges) IsExact exact-kept w es (r, sweep.undamaged) h;
      own = λ v b. ticked (in_range ranges) IsExact (HasParent v) v exact-kept (parent-kept v) (parent-ticked v) w es (r, sweep.undamaged) h
          (sweep.ticked v (subst (λ n. v < n.nodes) (net-stays w es sweep.undamaged) b)) b;
    }

    -- exact distances, as equations
    exact-own : (w : World) (v : ℕ) → IsWorldInRange w → IsTreeAtStage w.net.nodes w → v < w.net.nodes → (w.node v).distance ≡ distance_of w.net v
    exact-own w v r s b = last w.net v ((w.node v).distance) r.network b (s.own v b)

    exact-staged : (w : World) (v u : ℕ) → IsWorldInRange w → IsTreeAtStage w.net.nodes w → IsTrue (are_joined w.net.edges v u) → ((w.node v).port u).staged.distance ≡ distance_of w.net v
    exact-staged w v u r s j = last w.net v (((w.node v).port u).staged.distance) r.network (joined-nodes w.net v u r.network j).0 (s.staged v u j)

    exact-copied : (w : World) (v u : ℕ) → IsWorldInRange w → IsTreeAtStage w.net.nodes w → IsTrue (are_joined w.net.edges v u) → ((w.node u).port v).copy.distance ≡ distance_of w.net v
    exact-copied w v u r s j = last w.net v (((w.node u).port v).copy.distance) r.network (joined-nodes w.net v u r.network j).0 (s.copied v u j)

    module _ (turn-fresh : PayloadsTurnFresh) where
      -- three more
      reached : (w : World) (es : List Event) → IsWorldInRange w → IsUndamaged w es → HasParents w → Sweeps w 3 es → IsTreeReached (run w es)
      reached w es r d h sweeps =
          let net : (run w es).net ≡ w.net = net-stays w es d in
          let end : HasParents (run w es) = kept (in_range ranges) HasParents parents-kept w es (r, d) h in
          let r' : IsWorldInRange (run w es) = ranges w es r in
          let test : ℕ → Payload → Bool = λ v p. same_parent p.parent (parent_of w.net v) in
          let fresh = λ (v u : ℕ) (j : IsTrue (are_joined w.net.edges v u)).
          turn-fresh (test v) w es v u r d j (h.exact.links v u j) sweeps
          (always ranges (λ x. (x.net ≡ w.net) × HasParents x)
          (λ x e now hx. (net-stays x (e ∷ []) (undamaged-one x e now.1) ∙ hx.0, parents-kept x e now hx.1)) (test v) v u
          (λ x rx hx. same-self (x.node v).parent (parent_of w.net v)
          (subst (λ n. (x.node v).parent ≡ parent_of n v) hx.0 (hx.1.own v (subst (λ n. v < n.nodes) (sym hx.0) (joined-nodes w.net v u r.network j).0))))
          w es (r, d) (refl, h)) in
          record {
            distance = λ v b. exact-own (run w es) v r' end.exact.stage b;
            parent = end.own;
            staged = λ v u j. record {
              distance = exact-staged (run w es) v u r' end.exact.stage j;
              parent = subst (λ n. (((run w es).node v).port u).staged.parent ≡ parent_of n v) (sym net)
                  (same-is (((run w es).node v).port u).staged.parent (parent_of w.net v) (fresh v u (subst (λ n. IsTrue (are_joined n.edges v u)) net j)).0);
            };
            copied = λ v u j. record {
              distance = exact-copied (run w es) v u r' end.exact.stage j;
              parent = subst (λ n. (((run w es).node u).port v).copy.parent ≡ parent_of n v) (sym net)
                  (same-is (((run w es).node u).port v).copy.parent (parent_of w.net v) (fresh v u (subst (λ n. IsTrue (are_joined n.edges v u)) net j)).1);
            };
          }

      pub parents-turn : ParentsTurnTrue
      parents-turn w es r d links s (first, rest, e, sweep, later) =
          let d' : IsUndamaged (run w first) rest = (splits w first rest (subst (λ l. IsUndamaged w l) e d)).1 in
          let half : HasParents (run w first) = parents-there w first r (record { links = links; stage = s }) sweep in
          let done : IsTreeReached (run (run w first) rest) = reached (run w first) rest (ranges w first r) d' half later in
          let world : run w es ≡ run (run w first) rest = ap (run w) e ∙ joins w first rest in
          subst IsTreeReached (sym world) done

  -- ---- the reached tree stays

  -- its distances are of stage n
  exact-stage : (w : World) → IsTreeReached w → IsTreeAtStage w.net.nodes w
  exact-stage w t = record {
    own = λ v b. stage-exact w.net.nodes (distance_of w.net v) ((w.node v).distance) (t.distance v b);
    staged = λ v u j. stage-exact w.net.nodes (distance_of w.net v) (((w.node v).port u).staged.distance) (t.staged v u j).distance;
    copied = λ v u j. stage-exact w.net.nodes (distance_of w.net v) (((w.node u).port v).copy.distance) (t.copied v u j).distance;
  }

  module _ (links-stay : LinksStayStable) (stage-stays : StageStays) (staged-present : StagedIsPresent) (copy-staged : CopyIsStaged) where
    pub tree-stays : TreeStays
    tree-stays w e r d links t =
        let net : (step w e).net ≡ w.net = net-stays w (e ∷ []) (undamaged-one w e d) in
        let r' : IsWorldInRange (step w e) = ranges w (e ∷ []) r in
        let exact : IsExact w = record { links = links; stage = exact-stage w t } in
        let s' : IsTreeAtStage (step w e).net.nodes (step w e) = (exact-kept links-stay stage-stays w e (r, d) exact).stage in
        record {
          distance = λ v b. exact-own links-stay stage-stays (step w e) v r' s' b;
          parent = λ v b. parent-kept links-stay stage-stays v w e (r, d) exact (t.parent v) b;
          staged = λ v u j.
              let j' : IsTrue (are_joined w.net.edges v u) = subst (λ n. IsTrue (are_joined n.edges v u)) net j in
              record {
                distance = exact-staged links-stay stage-stays (step w e) v u r' s' j;
                parent = subst (λ n. (((step w e).node v).port u).staged.parent ≡ parent_of n v) (sym net) (elim (staged-present w e v u r d j') [
                  | inl same ↦ ap (λ p. p.parent) same ∙ (t.staged v u j').parent
                  | inr new ↦ ap (λ p. p.parent) new ∙ t.parent v (joined-nodes w.net v u r.network j').0
                ]);
              };
          copied = λ v u j.
              let j' : IsTrue (are_joined w.net.edges v u) = subst (λ n. IsTrue (are_joined n.edges v u)) net j in
              record {
                distance = exact-copied links-stay stage-stays (step w e) v u r' s' j;
                parent = subst (λ n. (((step w e).node u).port v).copy.parent ≡ parent_of n v) (sym net) (elim (copy-staged w e v u r d j' (links v u j')) [
                  | inl same ↦ ap (λ p. p.parent) same ∙ (t.copied v u j').parent
                  | inr new ↦ ap (λ p. p.parent) new ∙ (t.staged v u j').parent
                ]);
              };
        }
