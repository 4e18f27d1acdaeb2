-- How a configuration answers an event.
use Rattle.std.specs.Prelude.{◌≡◌, Result, None, Some, OnOk, IfOk, IfErr}
use Rattle.run_model.specs.Step.{refusal, step}
use Rattle.run_model.specs.Happened.{happened}
use Rattle.run_model.specs.declared.event.Event.{Event}
use Rattle.run_model.specs.declared.event.EventFault.{EventFault}
use Rattle.run_model.specs.declared.happened.Happened.{Happened}
use Rattle.configuration.specs.ConfigurationView.{ConfigurationView, world_of}

-- The event leads from one configuration to the other. The answer is what it did, or the first
-- refusal that holds.
pub record Answers (old : ConfigurationView) (e : Event) (new : ConfigurationView) (result : Result Happened EventFault) : Type 0 where
  pub world : world_of new ≡ step (world_of old) e
  pub ok : OnOk result (refusal (world_of old) e ≡ None)
  pub did : IfOk result (λ did. did ≡ happened (world_of old) e)
  pub err : IfErr result (λ fault. refusal (world_of old) e ≡ Some fault)
