use Rattle.std.proofs.Common.{◌∙◌, ap, sym}
use Rattle.world.specs.run_model.Step.{step}
use Rattle.world.specs.run_model.declared.event.Event.TheVariants.{Damage}
use Rattle.run_recording.specs.Seen.{sight_of}
use Rattle.run_recording.proofs.Sights.{harm_differs, own_differs, counters_differs, staged_differs, copy_differs, value_differs, desk_differs, item_same, empty_same}
use Rattle.run_recording.proofs.sight.NodesSight.follow_harm.Goals as goal

pub returns-in-Own-clause-sight : goal.returns-in-Own-clause-sight
returns-in-Own-clause-sight g c = λ w seen stepped. c.look_again.ensures.sight w seen (harm_differs w _ c.in-Own.node _ _ stepped c.in-Own.is (own_differs w c.in-Own.node _ _))

pub returns-in-Counters-clause-sight : goal.returns-in-Counters-clause-sight
returns-in-Counters-clause-sight g c = λ w seen stepped. c.look_again-in-Counters.ensures.sight w seen (harm_differs w _ c.in-Counters.node _ _ stepped c.in-Counters.is (counters_differs w c.in-Counters.node _ _ _))

pub returns-in-Staged-clause-sight : goal.returns-in-Staged-clause-sight
returns-in-Staged-clause-sight g c = λ w seen stepped. c.look_again-in-Staged.ensures.sight w seen (harm_differs w _ c.in-Staged.node _ _ stepped c.in-Staged.is (staged_differs w c.in-Staged.node _ _))

pub returns-in-Copy-clause-sight : goal.returns-in-Copy-clause-sight
returns-in-Copy-clause-sight g c = λ w seen stepped. c.look_again-in-Copy.ensures.sight w seen (harm_differs w _ c.in-Copy.node _ _ stepped c.in-Copy.is (copy_differs w c.in-Copy.node _ _))

pub returns-in-Value-clause-sight : goal.returns-in-Value-clause-sight
returns-in-Value-clause-sight g c = λ w seen stepped. c.look_again-in-Value.ensures.sight w seen (harm_differs w _ c.in-Value.node _ _ stepped c.in-Value.is (value_differs w c.in-Value.node _ _))

pub returns-in-Desk-clause-sight : goal.returns-in-Desk-clause-sight
returns-in-Desk-clause-sight g c = λ w seen stepped. c.look_again-in-Desk.ensures.sight w seen (harm_differs w _ c.in-Desk.node _ _ stepped c.in-Desk.is (desk_differs w c.in-Desk.node c.in-Desk.lent c.in-Desk.left c.in-Desk.served))

pub returns-in-Item-clause-sight : goal.returns-in-Item-clause-sight
returns-in-Item-clause-sight g c = λ w seen stepped. seen ∙ item_same w _ _ _ ∙ ap sight_of (sym (stepped ∙ ap (λ h. step w (Damage h)) c.in-Item.is))

pub returns-in-Empty-clause-sight : goal.returns-in-Empty-clause-sight
returns-in-Empty-clause-sight g c = λ w seen stepped. seen ∙ empty_same w _ _ ∙ ap sight_of (sym (stepped ∙ ap (λ h. step w (Damage h)) c.in-Empty.is))
