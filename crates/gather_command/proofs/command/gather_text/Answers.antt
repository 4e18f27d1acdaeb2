use Rattle.std.proofs.Common.{List}
use Rattle.record_gathering.specs.configuration.run_model.declared.event.Event.{Event}
use Rattle.gather_command.proofs.Gathers.{rose-later}
use Rattle.gather_command.proofs.Text.{grows-kept, as-later}
use Rattle.gather_command.proofs.command.gather_text.Goals as goal

pub returns-in-Ok-clause-gathered : goal.returns-in-Ok-clause-gathered
returns-in-Ok-clause-gathered g c =
    as-later c.args.stretch _ _ _ _ _ _ _ _ _ (λ (es : List Event) grown. grows-kept _ _ _ es grown c.flush.ensures.bytes)
    c.in_ok-gathered.ensures.gathered

pub returns-in-Err-clause-refused : goal.returns-in-Err-clause-refused
returns-in-Err-clause-refused g c = rose-later _ _ _ c.in_ok-gathered.ensures.counted c.in-Err.ensures.cause.1
