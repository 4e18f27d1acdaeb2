-- Worlds on two nodes that are settled, and worlds that fail in just one way each.
use Rattle.std.proofs.Common.{[], ◌∷◌, None, false, arith}
use Rattle.std.proofs.lemmas.Bool.{false≢true}
use Rattle.tree_convergence.specs.lock_desk.Desk.{DeskState}
use Rattle.run_model.specs.World.{World}
use Rattle.run_model.specs.Links.{AreLinksStable}
use Rattle.run_model.specs.Tree.{IsTreeReached}
use Rattle.run_model.proofs.RowsTwo.{calm-links_stable}
use Rattle.run_model.proofs.RowsServing.{stale, stale-tree_not_reached}
use Rattle.convergence.specs.Settled.{IsSettled}
use Rattle.convergence.proofs.RowsLegitimate.{like_calm, reached-like_calm, late, late-links_not_stable}
use Rattle.convergence.proofs.RowsService.{asking, asking-in_range, asking-is_legitimate}

-- a ticket waits at node 1, and the values of the token ring are all 0
asking-is_settled : IsSettled asking
asking-is_settled = record { range = asking-in_range; links = asking-is_legitimate.links; tree = asking-is_legitimate.tree }

-- a frame is under way with the number of its port, and another payload
late-not_settled : ¬ IsSettled late
late-not_settled s = late-links_not_stable s.links

-- node 0 has copied a wrong distance
stale-not_settled : ¬ IsSettled stale
stale-not_settled s = stale-tree_not_reached s.tree

-- ---- not settled, only because of its range: a ticket waits twice at each node

abbrev crowded_desk : DeskState
crowded_desk = record { waiting = 7 ∷ 7 ∷ []; lent = None; left = 0; served = false }

abbrev crowded : World
crowded = like_calm (λ v. crowded_desk) (λ u v. [])

crowded-links_stable : AreLinksStable crowded
crowded-links_stable = calm-links_stable

crowded-tree_reached : IsTreeReached crowded
crowded-tree_reached = reached-like_calm (λ v. crowded_desk) crowded.link

crowded-not_settled : ¬ IsSettled crowded
crowded-not_settled s = false≢true (s.range.nodes 1 (omega arith)).desk
