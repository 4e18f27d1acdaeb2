use Rattle.std.proofs.Common.{◌≡◌, ◌∙◌, ◌<◌, ◌≤◌, ℕ, ap, get_or, length, subst}
use Rattle.std.specs.Prelude.{fold}
use Rattle.std.proofs.lemmas.List.{take_all}
use Rattle.flight_recorder.specs.flight_records.declared.entry.Noted.TheVariants as noted
use Rattle.flight_recorder.specs.flight_records.declared.entry.StatePart.TheVariants.{Waits}
use Rattle.flight_recorder.specs.View.{RecorderView}
use Rattle.flight_recorder.specs.Recorder.{after_note}
use Rattle.node_follower.specs.node_core.View.{state_of}
use Rattle.node_recorder.proofs.Steps.{noted-next}
use Rattle.node_recorder.proofs.recorder.note_queue.Goals as goal

pub loop-ticket-preserved : goal.loop-ticket-preserved
loop-ticket-preserved g c =
    let note = λ (r : RecorderView) (t : ℕ). after_note c.args.now (noted.State (Waits t)) r in
    let i = c.loop-ticket.ticket-index in
    let same = c.tickets-ticket-items.ensures in
    noted-next note c.args.pages.now c.loop-ticket.pages c.note.new.self (state_of c.args.node.now).desk.waiting i 0
    (subst (λ ts. i < length ts) same c.loop-ticket-test.true) c.loop-ticket.invariant
    (subst (λ ts. c.note.new.self ≡ note c.loop-ticket.pages (get_or ts i 0)) same c.note.ensures)

pub returns : goal.returns
returns g c =
    let note = λ (r : RecorderView) (t : ℕ). after_note c.args.now (noted.State (Waits t)) r in
    let i = c.loop-ticket.ticket-index in
    let same = c.tickets-ticket-items.ensures in
    c.loop-ticket.invariant ∙ ap (fold note c.args.pages.now) (take_all i _ (subst (λ ts. length ts ≤ i) same c.loop-ticket-test.false))
