use Rattle.std.proofs.Common.{◌∙◌, ap}
use Rattle.record_gathering.specs.configuration.run_model.World.{World}
use Rattle.record_gathering.specs.View.{gathered}
use Rattle.gather_command.proofs.weaving.Weaving.notes.Goals as goal

pub invariant_of-self-2 : goal.invariant_of-self-2
invariant_of-self-2 g c =
    let w = gathered c.self.inside.gathering in
    let events = c.notes.new.events.items in
    let frame = c.runs.ensures.frame w events in (
      c.self.invariant.0,
      ap (λ (x : World). x.net.nodes) c.in_ok-notes.ensures.world ∙ frame.nodes ∙ c.self.invariant.1,
      c.sees.ensures.nodes ∙ c.self.invariant.2,
    )

pub invariant_of-self-in_err-sees : goal.invariant_of-self-in_err-sees
invariant_of-self-in_err-sees g c =
    let w = gathered c.self.inside.gathering in
    let events = c.notes.new.events.items in
    let frame = c.runs.ensures.frame w events in (
      c.self.invariant.0,
      ap (λ (x : World). x.net.nodes) c.in_ok-notes.ensures.world ∙ frame.nodes ∙ c.self.invariant.1,
      c.sees.ensures.nodes ∙ c.self.invariant.2,
    )

pub returns-clause-nodes : goal.returns-clause-nodes
returns-clause-nodes g c =
    let w = gathered c.self.inside.gathering in
    let events = c.notes.new.events.items in
    let frame = c.runs.ensures.frame w events in
    rw (← c.self.view_is) (ap (λ (x : World). x.net.nodes) c.in_ok-notes.ensures.world ∙ frame.nodes)
