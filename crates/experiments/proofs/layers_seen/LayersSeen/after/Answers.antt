use Rattle.std.proofs.Common.{◌∙◌, ap, sym}
use Rattle.judge.specs.configuration.ConfigurationView.{world_of}
use Rattle.experiments.proofs.Layering.{layers-go_on, looks-on, rests-on, settled-stays}
use Rattle.experiments.proofs.layers_seen.LayersSeen.after.Goals as goal

pub returns-then-needs_look : goal.returns-then-needs_look
returns-then-needs_look g c =
    λ start es count ok same counted are seen.
    let now = world_of c.args.configuration.now in
    layers-go_on start now es c.args.event.now c.args.sweeps count c.args.self c.looked.result same counted are seen
    (c.looked.ensures.events ∙ ap (λ l. l.events) c.with_event-more.ensures)
    (looks-on now c.args.sweeps c.args.self c.with_event-more.result c.looked.result c.with_event-more.ensures c.looked.ensures.layers)

pub returns-else-needs_look : goal.returns-else-needs_look
returns-else-needs_look g c =
    λ start es count ok same counted are seen.
    let now = world_of c.args.configuration.now in
    let rests = rests-on c.args.self.settled _ (sym c.needs_look.ensures ∙ c.if-needs_look.false) in
    layers-go_on start now es c.args.event.now c.args.sweeps count c.args.self c.with_event-more.result same counted are seen
    (ap (λ l. l.events) c.with_event-more.ensures)
    (settled-stays c.closure.ensures.stays c.in_range.ensures start now es c.args.event.now c.args.sweeps c.args.self c.with_event-more.result ok same seen
    rests.1 rests.0 (ap (λ l. l.links) c.with_event-more.ensures) (ap (λ l. l.tree) c.with_event-more.ensures)
    (ap (λ l. l.ring) c.with_event-more.ensures))
