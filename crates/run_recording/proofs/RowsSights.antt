-- Small examples of what is seen of a world and of what an event changes in it, with some that
-- fail.
use Rattle.std.proofs.Common.{◌≡◌, ◌≢◌, ◌==◌, ◌&&◌, if◌then◌else◌, true, false, [], ◌∷◌, None, Some, ap, refl, take, arith}
use Rattle.std.proofs.lemmas.Grind.{common_steps}
use Rattle.world.specs.judge.node_core.lock_desk.Desk.{no_desk}
use Rattle.world.specs.run_model.World.{World}
use Rattle.world.specs.run_model.link_model.declared.item.Item.TheVariants.{Noise}
use Rattle.world.specs.run_model.Start.{default_world}
use Rattle.world.specs.run_model.Step.{with_desk}
use Rattle.run_recording.proofs.RowsTwo.{two_nodes, calm}
use Rattle.run_recording.specs.declared.mark.Mark.TheVariants.{Settled, Privileged, Lending}
use Rattle.run_recording.specs.declared.sight.NodesSight.{NodesSight}
use Rattle.run_recording.specs.Seen.{edge_at, edges_of, is_at, look_at, look_of, mark_of_look, nothing, nowhere, place_at, sight_of, IsSightOf}
use Rattle.run_recording.specs.UnderWay.{sent_at, sent_between}
use Rattle.run_recording.specs.SightSteps.{recounted, with_look, DiffersAt}

-- ---- one node

-- the child's true place is below the root
place-child : place_at two_nodes 1 ≡ record { distance = 1; parent = Some 0 }
place-child = refl

place-no_node : place_at two_nodes 2 ≡ nowhere
place-no_node = refl

edges-two : take 2 (edges_of two_nodes) ≡ (0, 1) ∷ (0, 0) ∷ []
edges-two = refl

edges_not-more : edge_at two_nodes 0 ≢ edge_at two_nodes 1
edges_not-more = grind arith

place_not-near : is_at (record { distance = 2; parent = Some 0 }) (place_at two_nodes 1) ≡ false
place_not-near = refl

look-root : look_of calm 0 ≡ record { own = nowhere; settled = true; privileged = true; lent = None }
look-root = refl

look_not-settled : (look_of (default_world two_nodes) 1).settled ≡ false
look_not-settled = refl

look-no_node : look_at calm 2 ≡ nothing
look-no_node = refl

-- a node that lends shows that, though it is privileged too
mark-lending : mark_of_look (record { own = nowhere; settled = true; privileged = true; lent = Some 7 }) ≡ Lending 7
mark-lending = refl

-- ---- all nodes

all-calm : IsSightOf calm (sight_of calm)
all-calm = record { is = refl }

-- of two nodes that know their places only one is privileged
all_not-both : ¬ (IsSightOf calm (record (sight_of calm) { privileged = 2 }))
all_not-both h = absurd (omega (arith, ap (λ s. s.privileged) h.is))

-- ---- what changes

recounted-more : recounted 3 false true ≡ 4
recounted-more = refl

recounted-fewer : recounted 3 true false ≡ 2
recounted-fewer = refl

recounted_not-twice : recounted 3 true true ≢ 4
recounted_not-twice = grind arith

abbrev one : NodesSight
one = record { places = nowhere ∷ []; edges = []; looks = nothing ∷ []; marks = Settled ∷ []; privileged = 0; lending = 0 }

-- a node without a look becomes privileged: its mark and the count show it
changed-one : with_look one 0 (record { own = nowhere; settled = true; privileged = true; lent = None })
    ≡ record { places = nowhere ∷ []; edges = []; looks = record { own = nowhere; settled = true; privileged = true; lent = None } ∷ []; marks = Privileged ∷ []; privileged = 1; lending = 0 }
changed-one = refl

abbrev lends : World
lends = with_desk calm 1 (record no_desk { lent = Some 7 })

-- node 1 lends, and nothing else has changed
differs-child : DiffersAt 1 calm lends
differs-child = record { net = refl; nodes = λ u other. grind (arith, common_steps, other); nowhere = λ beyond. absurd (omega (arith, beyond)) }

differs_not-root : ¬ (DiffersAt 0 calm lends)
differs_not-root h = absurd (grind (arith, ap (λ s. s.desk.lent) (h.nodes 1 (omega arith))))

-- ---- what is under way

-- two items are under way from the root to its child
abbrev sent : World
sent = record calm { link = λ u v. if (u == 0) && (v == 1) then Noise ∷ Noise ∷ [] else [] }

under_way-two : sent_between sent 0 1 ≡ 2
under_way-two = refl

under_way_not-back : sent_between sent 1 0 ≡ 0
under_way_not-back = refl

-- those from 0 to 1 are counted at place 1, and those from 1 to 0 at place 12
under_way-places : (sent_at sent 1 ≡ 2) × (sent_at sent 12 ≡ 0)
under_way-places = (refl, refl)

-- in a larger network they are not seen
under_way_not-large : sent_between (record sent { net = record two_nodes { nodes = 13 } }) 0 1 ≡ 0
under_way_not-large = refl
