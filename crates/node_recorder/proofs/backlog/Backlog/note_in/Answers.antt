use Rattle.std.proofs.Common.{◌≡◌, ◌∙◌, ◌<◌, ℕ, ap, get_or, length, rules, sym}
use Rattle.flight_recorder.specs.flight_records.declared.entry.Deed.{Deed}
use Rattle.flight_recorder.specs.flight_records.declared.entry.Noted.TheVariants as noted
use Rattle.flight_recorder.specs.View.{RecorderView}
use Rattle.flight_recorder.specs.Recorder.{after_note}
use Rattle.node_recorder.proofs.Zipped.{zip-next}
use Rattle.node_recorder.proofs.backlog.Backlog.note_in.Goals as goal

abbrev note : RecorderView → (ℕ × Deed) → RecorderView
note r p = after_note p.0 (noted.Deed p.1) r

pub loop-i-preserved : goal.loop-i-preserved
loop-i-preserved g c =
    let self = c.args.self.now in
    let i = c.loop-i.i in
    let instant = c.index.result.now in
    let deed = c.index-in-loop-i.result.now in
    let there : i < length self.instants = search rules in
    let same : length self.instants ≡ length self.deeds = search rules in
    let instants : c.self.inside.instants.items ≡ self.instants = search rules in
    let deeds : c.self.inside.deeds.items ≡ self.deeds = search rules in
    let instant-is : instant ≡ get_or self.instants i instant = c.index.ensures ∙ ap (λ xs. get_or xs i instant) instants in
    let deed-is : deed ≡ get_or self.deeds i deed = c.index-in-loop-i.ensures ∙ ap (λ xs. get_or xs i deed) deeds in
    c.note.ensures
    ∙ ap (λ t. note c.loop-i.pages (t, deed)) instant-is
    ∙ ap (λ d. note c.loop-i.pages (get_or self.instants i instant, d)) deed-is
    ∙ ap (λ r. note r (get_or self.instants i instant, get_or self.deeds i deed)) c.loop-i.invariant
    ∙ sym (zip-next note c.args.pages.now self.instants self.deeds i instant deed same there)
