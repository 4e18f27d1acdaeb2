use Rattle.std.proofs.Common.{◌≡◌, ◌∙◌, ap, refl, ◌++◌, ◌∷◌, []}
use Rattle.byte_lines.specs.Lines.{half_line}
use Rattle.events_text.specs.EventsText.{ended_lines}
use Rattle.events_text.proofs.UsualReading.{in_front, stands_after, line_said}
use Rattle.events_text.proofs.reader.EventReader.take_usual.Goals as goal

pub returns-clause-stands : goal.returns-clause-stands
returns-clause-stands c =
    λ bytes stands.
    let (line, is, one, said) = c.in_ok-event.ensures in
    let none : half_line bytes ≡ [] = (c.if-not-is_empty.ensures.half (half_line bytes) (rw (← c.self.view_is) at stands)).0 refl in
    let empty = c.if-not-is_empty.ensures.kept.0 refl in
    rw (← c.self.view_is, in_front line c.in_ok-event.rest.now c.args.piece.now is) (stands_after c.any_cutting.ensures c.lines_grow.ensures bytes line none one _ empty)

pub returns-clause-line : goal.returns-clause-line
returns-clause-line c =
    λ bytes stands.
    let (line, is, one, said) = c.in_ok-event.ensures in
    let none : half_line bytes ≡ [] = (c.if-not-is_empty.ensures.half (half_line bytes) (rw (← c.self.view_is) at stands)).0 refl in
    rw (in_front line c.in_ok-event.rest.now c.args.piece.now is)
    (line_said c.any_cutting.ensures c.lines_grow.ensures bytes line none one ∙ ap (λ x. ended_lines bytes ++ x ∷ []) said)
