use Rattle.std.proofs.Common.{◌≡◌, ◌∙◌, ◌<◌, ◌≤◌, ℕ, ap, get_or, length, subst}
use Rattle.std.specs.Prelude.{fold}
use Rattle.std.proofs.lemmas.List.{take_all}
use Rattle.flight_recorder.specs.flight_records.declared.entry.Noted.TheVariants as noted
use Rattle.flight_recorder.specs.View.{RecorderView}
use Rattle.flight_recorder.specs.Recorder.{after_note}
use Rattle.node_follower.specs.Parts.{port_part}
use Rattle.node_follower.specs.node_core.View.{site_in, state_of}
use Rattle.node_recorder.proofs.Steps.{noted-next}
use Rattle.node_recorder.proofs.recorder.note_ports.Goals as goal

pub loop-w-preserved : goal.loop-w-preserved
loop-w-preserved g c =
    let note = λ (r : RecorderView) (w : ℕ). after_note c.args.now (noted.State (port_part (state_of c.args.node.now) w)) r in
    let i = c.loop-w.w-index in
    let same = c.neighbours-w-items.ensures in
    noted-next note c.args.pages.now c.loop-w.pages c.note.new.self (site_in c.args.node.now).neighbours i 0
    (subst (λ ws. i < length ws) same c.loop-w-test.true) c.loop-w.invariant
    (subst (λ ws. c.note.new.self ≡ note c.loop-w.pages (get_or ws i 0)) same (rw c.port_part.ensures at c.note.ensures))

pub returns : goal.returns
returns g c =
    let note = λ (r : RecorderView) (w : ℕ). after_note c.args.now (noted.State (port_part (state_of c.args.node.now) w)) r in
    let i = c.loop-w.w-index in
    c.loop-w.invariant
    ∙ ap (fold note c.args.pages.now) (take_all i _ (subst (λ ws. length ws ≤ i) c.neighbours-w-items.ensures c.loop-w-test.false))
