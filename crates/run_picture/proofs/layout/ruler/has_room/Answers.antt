use Rattle.std.proofs.Common.{◌∙◌, ◌+◌, ◌-◌, ap, sym, length, nat_le, slice_index_or}
use Rattle.run_picture.specs.declared.layout.ruler.SweepNumber.{SweepNumber}
use Rattle.svg_drawing.specs.Lengths.{px}
use Rattle.run_picture.specs.Ruler.{room_after}
use Rattle.run_picture.proofs.Sweeps.{last_room}
use Rattle.run_picture.proofs.layout.ruler.has_room.Goals as goal

pub returns-in-len1-up : goal.returns-in-len1-up
returns-in-len1-up c =
    let d : SweepNumber = record { place = 0; ended = 0 } in
    let last = slice_index_or c.args.numbers.now (length c.args.numbers.now - 1) d in
    ap (λ n. nat_le n c.middle-in-len1-up.result.0) (c.add.ensures ∙ ap (λ n. px (n + 30)) c.middle.ensures)
    ∙ ap (λ n. nat_le (room_after c.args.page last.place) n) c.middle-in-len1-up.ensures
    ∙ sym (last_room c.args.page c.args.numbers.now c.args.place d c.in-len1-up.len_at_least)
