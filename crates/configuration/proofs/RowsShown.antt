-- Rows: what the nodes of a world show, and the sight of the node whose own an event is.
use Rattle.std.proofs.Common.{◌≡◌, ℕ, Option, Some, None, ap, refl, arith}
use Rattle.std.proofs.lemmas.Bool.Decides.{nat_tests}
use Rattle.run_model.specs.World.{World}
use Rattle.run_model.specs.Start.{default_world}
use Rattle.run_model.specs.declared.event.Event.TheVariants.{Send, Tick}
use Rattle.run_model.proofs.RowsTwo.{two_nodes, calm, each-node}
use Rattle.configuration.specs.declared.sight.Sight.{Sight}
use Rattle.configuration.specs.Sight.{IsTouchedSight, sight_of}
use Rattle.configuration.specs.TreeShown.{IsNodeShown, IsTreeShown}

abbrev start : World
start = default_world two_nodes

-- ---- distances and parents

-- in the calm world each node knows both
tree-shown : IsTreeShown calm
tree-shown = each-node (IsNodeShown calm) (refl, refl) (refl, refl)

-- at the start the root is as far away from itself as can be, and node 1 knows no parent
not-distance : IsNodeShown start 0 → ⊥
not-distance shown = let distance : 2 ≡ 0 = shown.0 in omega (arith, distance)

not-parent : ((start.node 1).parent ≡ Some 0) → ⊥
not-parent e = let none : ◌≡◌ {A = Option ℕ} None (Some 0) = e in absurd cc

not-tree : IsTreeShown start → ⊥
not-tree shown = not-distance (shown 0 (omega arith))

-- ---- sights

abbrev seen : Sight
seen = sight_of start 1

touched : IsTouchedSight start (Tick 1) (Some seen)
touched v below own = let same : v ≡ 1 = grind (arith, nat_tests, own) in rw same refl

-- of the node that ticks something is seen
not-unseen : IsTouchedSight start (Tick 1) None → ⊥
not-unseen sight = let e : ◌≡◌ {A = Option Sight} None (Some seen) = sight 1 (omega arith) refl in absurd cc

-- and it is not another node's sight
not-another : IsTouchedSight calm (Tick 1) (Some (sight_of calm 0)) → ⊥
not-another sight =
    let distance : ◌≡◌ {A = Option ℕ} (Some 0) (Some 1) = ap (λ (o : Option Sight). distance_in o) (sight 1 (omega arith) refl) in absurd cc
  where
    distance_in : Option Sight → Option ℕ
    distance_in None = None
    distance_in (Some s) = Some s.distance

-- a send is nobody's own
touched-nobody : IsTouchedSight start (Send 0 1) None
touched-nobody v below own = absurd (grind (arith, own))
