use Rattle.std.proofs.Common.{◌∙◌, ap, sym}
use Rattle.configuration.specs.ConfigurationView.{world_of}
use Rattle.configuration.specs.run_model.Run.{run}
use Rattle.record_gathering.proofs.gathering.Gathering.let_happen.Goals as goal

pub returns-clause-world : goal.returns-clause-world
returns-clause-world g c =
    let w = world_of c.self.inside.world in
    rw (← c.self.view_is)
    (c.keep_accepted.ensures.world
    ∙ sym (c.accepted_is_enough.ensures.leads w c.args.events.now.items)
    ∙ ap (run w) (sym c.keep_accepted.ensures.events))
