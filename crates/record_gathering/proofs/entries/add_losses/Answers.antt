use Rattle.std.proofs.Common.{◌∙◌, ◌∷◌, [], ◌++◌, List, ap, sym, append_assoc}
use Rattle.std.proofs.lemmas.Grind.{replicate_next}
use Rattle.configuration.specs.run_model.declared.event.Event.{Event}
use Rattle.configuration.specs.run_model.declared.event.Event.TheVariants.{Lose}
use Rattle.record_gathering.specs.Entries.{losses}
use Rattle.record_gathering.proofs.entries.add_losses.Goals as goal

pub loop-lost-preserved : goal.loop-lost-preserved
loop-lost-preserved g c =
    let one : Event = Lose c.args.from c.args.to 0 in
    let some = losses c.args.from c.args.to c.loop-lost.lost in
    let old = c.args.events.now.items in
    c.in_ok-add.ensures ∙ ap (λ (l : List Event). l ++ one ∷ []) c.loop-lost.invariant ∙ append_assoc old some (one ∷ [])
    ∙ ap (λ (l : List Event). old ++ l) (sym (replicate_next c.loop-lost.lost one))
