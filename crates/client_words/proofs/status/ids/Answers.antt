use Rattle.std.proofs.Common.{arith, refl, ap, ◌∙◌}
use Rattle.std.specs.Option.{option_map}
use Rattle.std.proofs.lemmas.Option.{slice_get-map, slice_get-get_or}
use Rattle.client_words.proofs.status.ids.Goals as goal

-- the word of the present turn spells no such number
pub returns-in_default-clause-err : goal.returns-in_default-clause-err
returns-in_default-clause-err c = (
  refl,
  (
    c.loop-word.word-index,
    _,
    slice_get-map (λ w. w.now) c.args.words.now c.loop-word.word-index
        ∙ ap (option_map (λ w. w.now)) (slice_get-get_or c.args.words.now c.loop-word.word-index _ c.loop-word-test.true),
    λ id most. c.in_default.ensures id (omega arith) most,
  ),
)
