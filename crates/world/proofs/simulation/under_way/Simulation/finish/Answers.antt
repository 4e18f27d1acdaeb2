use Rattle.std.proofs.Common.{◌≡◌, ◌∙◌, ap, inr}
use Rattle.judge.specs.run_model.NodeCounts.{lending_count}
use Rattle.judge.specs.configuration.ConfigurationView.{world_of}
use Rattle.world.proofs.SimulatedEnd.{is_shown, is_half_shown}
use Rattle.world.proofs.simulation.under_way.Simulation.finish.Goals as goal

pub returns-in_default-write_state-clause-text : goal.returns-in_default-write_state-clause-text
returns-in_default-write_state-clause-text g c =
    λ start bytes before h.
    let ran = rw (← c.self.view_is) at (c.in-Ok.ensures.runs start bytes before h) in
    let failed = c.in_default-write_state.ensures in
    inr (is_half_shown start bytes before _ _ _ c.sweeps-sweeps.result c.sweeps-sweeps.ensures.sweeps ran (rw c.configuration.ensures at failed.0))

pub returns-clause-text : goal.returns-clause-text
returns-clause-text g c =
    λ start bytes before h.
    let ran = rw (← c.self.view_is) at (c.in-Ok.ensures.runs start bytes before h) in
    let wrote = c.in-Ok-write_state.ensures in
    let now : c.lending.result ≡ lending_count (world_of c.self.inside.judge.configuration) =
    c.lending.ensures ∙ ap (λ j. lending_count (world_of j)) c.configuration-2.ensures in
    is_shown start bytes before _ _ _ c.sweeps-sweeps.result c.sweeps-sweeps.ensures.sweeps ran c.lending.result now (rw c.configuration.ensures at wrote.0)

pub returns-clause-led : goal.returns-clause-led
returns-clause-led g c = λ start bytes before h. (c.in-Ok.ensures.runs start bytes before h).seen.judging.now_is
