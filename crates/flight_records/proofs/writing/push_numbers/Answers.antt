use Rattle.std.proofs.Common.{◌≡◌, ◌∙◌, ℕ, ◌+◌, ◌<◌, List, ◌++◌, length, take, slice_index, ap, arith}
use Rattle.std.proofs.lemmas.Grind.{common_steps}
use Rattle.leb128.specs.Spelling.{leb128, in_a_row}
use Rattle.flight_records.proofs.writing.push_numbers.Goals as goal

-- one number more in a row
one_more : (before : List ℕ) (ns : List ℕ) (i : ℕ) → i < length ns
    → (before ++ in_a_row (take i ns)) ++ leb128 (slice_index ns i) ≡ before ++ in_a_row (take (i + 1) ns)
one_more before ns i h = grind (arith, common_steps)

pub loop-number-preserved : goal.loop-number-preserved
loop-number-preserved g c =
    let said = c.push_number.ensures in
    let so_far = c.loop-number.invariant in
    let number = slice_index c.args.numbers.now c.loop-number.number-index in (
      said.items ∙ (ap (λ bytes. bytes ++ leb128 number) so_far.0
          ∙ one_more c.args.out.now.items c.args.numbers.now c.loop-number.number-index c.loop-number-test.true),
      omega (arith, said.most, so_far.1),
      said.room ∙ so_far.2,
    )
