use Rattle.std.proofs.Common.{refl}
use Rattle.run_picture.proofs.Parts.{added_as, five_parts}
use Rattle.run_picture.proofs.layout.ruler.draw_ruler.Goals as goal

pub returns : goal.returns
returns c =
    let numbered = rw c.as_slice.ensures.value at c.in_ok-number_sweeps.ensures in
    added_as _ _ _ _ _ (record { numbers = c.in_ok-numbers.numbers.items; are_numbers = c.in_ok-numbers.ensures; are = refl })
    (five_parts _ _ _ _ _ _ _ _ _ _ _ _ c.in_ok-name_lines.ensures c.in_ok-draw_damage.ensures c.in_ok-draw_sweeps.ensures
    numbered c.draw_guarantees.ensures)
