use Rattle.std.proofs.Common.{sym, [], codes, drop}
use Rattle.std.proofs.lemmas.List.{append-nil}
use Rattle.svg_drawing.specs.declared.colours.Colour.TheVariants.{Pale, Grey, Gold, Red}
use Rattle.run_picture.specs.declared.layout.legend.Sign.TheVariants.{Bar}
use Rattle.run_picture.specs.Legend.{colour_meanings}
use Rattle.run_picture.proofs.Legend.{first_meaning}
use Rattle.run_picture.proofs.layout.legend.draw_colours.Goals as goal

pub returns : goal.returns
returns c =
    let first = c.in_ok-next.ensures in
    let second = c.in_ok-next-2.ensures in
    let third = c.in_ok-next-3.ensures in
    let last = c.in_ok-explain.ensures in
    first_meaning 16 68 c.in_ok-next.next.x.0 c.in_ok-next.next.y.0 (Bar Pale 12) (codes "distance and parent true") (drop 1 colour_meanings) _ _ _
    first.signs first.x first.y
    (first_meaning c.in_ok-next.next.x.0 c.in_ok-next.next.y.0 c.in_ok-next-2.next.x.0 c.in_ok-next-2.next.y.0 (Bar Grey 6)
    (codes "distance or parent wrong") (drop 2 colour_meanings) _ _ _ second.signs second.x second.y
    (first_meaning c.in_ok-next-2.next.x.0 c.in_ok-next-2.next.y.0 c.in_ok-next-3.next.x.0 c.in_ok-next-3.next.y.0 (Bar Gold 9) (codes "privileged")
    (drop 3 colour_meanings) _ _ _ third.signs third.x third.y
    (first_meaning c.in_ok-next-3.next.x.0 c.in_ok-next-3.next.y.0 _ _ (Bar Red 12) (codes "lends the lock, to the ticket written") [] _ _ _
    last.signs last.x last.y (sym (append-nil _)))))
