use Rattle.std.proofs.Common.{◌≡◌, ◌∙◌, ap, sym, refl, false, true, is_some, [], ◌∷◌, arith}
use Rattle.std.proofs.lemmas.List.{append-nil}
use Rattle.run_recording.specs.Held.{is_held}
use Rattle.run_picture.specs.Picture.IsLastState.{AllFull, AtEnd, NotHeld}
use Rattle.run_picture.proofs.layout.put_last.Goals as goal

pub returns-then-left-eq0 : goal.returns-then-left-eq0
returns-then-left-eq0 c = ([], AllFull c.if-left-eq0.true, sym (append-nil c.args.states.now.items))

pub returns-in_default : goal.returns-in_default
returns-in_default c =
    let outside : is_held c.args.recording.now.window c.args.recording.now.ended ≡ false =
    sym c.settled_at_end.ensures.none ∙ ap is_some c.in_default.is in
    ([], NotHeld outside, sym (append-nil c.args.states.now.items))

pub returns : goal.returns
returns c =
    let held : is_held c.args.recording.now.window c.args.recording.now.ended ≡ true =
    sym c.settled_at_end.ensures.none ∙ ap is_some c.in-Some.is in
    (c.in-Some.last ∷ [], AtEnd c.in-Some.last (omega arith) held c.in-Some.ensures.layers, c.in_ok-push.ensures.items)
