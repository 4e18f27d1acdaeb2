use Rattle.std.proofs.Common.{◌∙◌, ap}
use Rattle.std.proofs.lemmas.List.{take_all}
use Rattle.std.specs.Prelude.{fold}
use Rattle.flight_recorder.specs.flight_records.declared.entry.Deed.{Deed}
use Rattle.flight_recorder.specs.flight_records.declared.entry.Noted.TheVariants as noted
use Rattle.flight_recorder.specs.View.{RecorderView}
use Rattle.flight_recorder.specs.Recorder.{after_note}
use Rattle.node_recorder.proofs.Steps.{noted-next}
use Rattle.node_recorder.proofs.recorder.note_deeds.Goals as goal

pub loop-deed-preserved : goal.loop-deed-preserved
loop-deed-preserved g c =
    let note = λ (r : RecorderView) (d : Deed). after_note c.args.now (noted.Deed d) r in
    noted-next note c.args.pages.now c.loop-deed.pages c.note.new.self c.args.deeds.now c.loop-deed.deed-index _
    c.loop-deed-test.true c.loop-deed.invariant c.note.ensures

pub returns : goal.returns
returns g c =
    let note = λ (r : RecorderView) (d : Deed). after_note c.args.now (noted.Deed d) r in
    c.loop-deed.invariant ∙ ap (fold note c.args.pages.now) (take_all c.loop-deed.deed-index c.args.deeds.now c.loop-deed-test.false)
