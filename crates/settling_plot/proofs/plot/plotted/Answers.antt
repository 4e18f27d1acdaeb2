use Rattle.std.proofs.lemmas.Result.{IfOk-weaker}
use Rattle.settling_plot.proofs.plot.plotted.Goals as goal

pub returns-clause-text : goal.returns-clause-text
returns-clause-text c =
    IfOk-weaker c.spelled.result _ _
    (λ text is. record { drawing = c.in_ok-drawing.drawing; is_plot = c.in_ok-drawing.ensures; is_text = is })
    c.spelled.ensures.text
