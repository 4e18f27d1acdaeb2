use Rattle.std.proofs.Common.{◌∙◌, ap, sym, subst}
use Rattle.world.specs.run_model.Step.{step}
use Rattle.run_recording.specs.Seen.{sight_of}
use Rattle.run_recording.specs.SightSteps.{DiffersAt}
use Rattle.run_recording.proofs.Sights.{send_same, lose_same, take_differs, tick_differs, ask_differs, leave_differs}
use Rattle.run_recording.proofs.sight.NodesSight.follow.Goals as goal

pub returns-in-Send-clause-sight : goal.returns-in-Send-clause-sight
returns-in-Send-clause-sight g c = λ w seen stepped. seen ∙ send_same w _ _ ∙ ap sight_of (sym (stepped ∙ ap (step w) c.in-Send.is))

pub returns-in-Lose-clause-sight : goal.returns-in-Lose-clause-sight
returns-in-Lose-clause-sight g c = λ w seen stepped. seen ∙ lose_same w _ _ _ ∙ ap sight_of (sym (stepped ∙ ap (step w) c.in-Lose.is))

pub returns-in-Take-clause-sight : goal.returns-in-Take-clause-sight
returns-in-Take-clause-sight g c =
    λ w seen stepped.
    c.look_again.ensures.sight w seen (subst (DiffersAt c.in-Take.to w) (sym (stepped ∙ ap (step w) c.in-Take.is)) (take_differs w _ c.in-Take.to))

pub returns-in-Tick-clause-sight : goal.returns-in-Tick-clause-sight
returns-in-Tick-clause-sight g c =
    λ w seen stepped.
    c.look_again-in-Tick.ensures.sight w seen (subst (DiffersAt c.in-Tick.node w) (sym (stepped ∙ ap (step w) c.in-Tick.is)) (tick_differs w c.in-Tick.node))

pub returns-in-Ask-clause-sight : goal.returns-in-Ask-clause-sight
returns-in-Ask-clause-sight g c =
    λ w seen stepped.
    c.look_again-in-Ask.ensures.sight w seen (subst (DiffersAt c.in-Ask.node w) (sym (stepped ∙ ap (step w) c.in-Ask.is)) (ask_differs w c.in-Ask.node _))

pub returns-in-Leave-clause-sight : goal.returns-in-Leave-clause-sight
returns-in-Leave-clause-sight g c =
    λ w seen stepped.
    c.look_again-in-Leave.ensures.sight w seen (subst (DiffersAt c.in-Leave.node w) (sym (stepped ∙ ap (step w) c.in-Leave.is)) (leave_differs w c.in-Leave.node _))

pub returns-in-Damage-clause-sight : goal.returns-in-Damage-clause-sight
returns-in-Damage-clause-sight g c = λ w seen stepped. c.follow_harm.ensures.sight w seen (stepped ∙ ap (step w) c.in-Damage.is)
