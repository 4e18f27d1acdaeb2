use Rattle.std.proofs.Common.{◌∙◌, ap, sym}
use Rattle.configuration.specs.ConfigurationView.{world_of}
use Rattle.flight_records.specs.declared.entry.Deed.TheVariants.{Takes}
use Rattle.record_gathering.specs.Fields.{deed_fields}
use Rattle.record_gathering.specs.declared.frames.Passage.{Passage}
use Rattle.record_gathering.proofs.fields.deed_fields.Goals as goal

pub returns-in-Takes : goal.returns-in-Takes
returns-in-Takes g c =
    let w = world_of c.args.world.now in
    c.taken_fields.ensures ∙ ap (λ (p : Passage). deed_fields w p.to (Takes p.from p.frame)) c.new.ensures
    ∙ ap (deed_fields w c.args.node) (sym c.in-Takes.is)
