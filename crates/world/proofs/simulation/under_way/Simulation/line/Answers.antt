use Rattle.std.proofs.Common.{refl}
use Rattle.world.proofs.SimulatedLines.{line_passes, line_said}
use Rattle.world.proofs.simulation.under_way.Simulation.line.Goals as goal

pub returns-in_default-clause-runs : goal.returns-in_default-clause-runs
returns-in_default-clause-runs g c =
    λ start lines before h.
    let has_run = rw (← c.self.view_is) at h in
    line_passes start lines c.args.line before _ _ _ has_run c.in_default.ensures.name c.in_default.ensures.seen refl refl

pub returns-clause-runs : goal.returns-clause-runs
returns-clause-runs g c =
    λ start lines before h.
    let has_run = rw (← c.self.view_is) at h in
    line_said c.write_refusal.result start lines c.args.line before _ _ _ _ c.in-Some.name.now _ _ has_run c.in-Some.ensures.name c.in-Some.ensures.seen refl
    c.saturating_add-self-inside.ensures c.write_refusal.ensures
