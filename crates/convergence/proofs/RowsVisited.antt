-- Which nodes the privilege visits once a world is legitimate, on two nodes.
use Rattle.std.proofs.Common.{◌≡◌, List, [], ◌∷◌, true, IsTrue, refl, subst, sym}
use Rattle.std.proofs.lemmas.Bool.{false≢true}
use Rattle.run_model.specs.Run.{run}
use Rattle.run_model.specs.Privilege.{is_privileged}
use Rattle.run_model.specs.Visited.{is_privileged_once}
use Rattle.run_model.specs.declared.event.Event.TheVariants.{Tick}
use Rattle.run_model.proofs.RowsTwo.{calm, forged}
use Rattle.convergence.specs.Service.{IsVisitedOnceLegitimate}
use Rattle.convergence.proofs.RowsLegitimate.{calm-is_legitimate, forged-not_legitimate}

-- the calm world is legitimate, and node 0 is privileged in it
visited-at_once : IsVisitedOnceLegitimate calm [] 0
visited-at_once = ([], [], refl, calm-is_legitimate, refl)

-- the moment at which the world is legitimate may come before the one at which the node is privileged
visited-with_events : IsVisitedOnceLegitimate calm (Tick 1 ∷ []) 0
visited-with_events = ([], Tick 1 ∷ [], refl, calm-is_legitimate, refl)

-- node 1 is not privileged in it
not-visited : ¬ IsVisitedOnceLegitimate calm [] 1
not-visited ([], rest, parts, legitimate, once) =
    false≢true (subst (λ es. IsTrue (is_privileged_once calm es 1)) (sym parts) once)
not-visited (e ∷ first, rest, parts, legitimate, once) = absurd cc

-- node 1 is privileged in the forged world, which is not legitimate
privileged-in_forged : is_privileged forged 1 ≡ true
privileged-in_forged = refl

visited_not-before : ¬ IsVisitedOnceLegitimate forged [] 1
visited_not-before ([], rest, parts, legitimate, once) = forged-not_legitimate legitimate
visited_not-before (e ∷ first, rest, parts, legitimate, once) = absurd cc
