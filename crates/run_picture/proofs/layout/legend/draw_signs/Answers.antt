use Rattle.std.proofs.Common.{sym, [], codes, drop}
use Rattle.std.proofs.lemmas.List.{append-nil}
use Rattle.svg_drawing.specs.declared.colours.Colour.TheVariants.{Ink, Blue, Faint}
use Rattle.run_picture.specs.declared.layout.legend.Sign.TheVariants.{Bolt, Upright, Edge}
use Rattle.run_picture.specs.Legend.{sign_meanings}
use Rattle.run_picture.proofs.Legend.{first_meaning}
use Rattle.run_picture.proofs.layout.legend.draw_signs.Goals as goal

pub returns : goal.returns
returns c =
    let first = c.in_ok-next.ensures in
    let second = c.in_ok-next-2.ensures in
    let third = c.in_ok-next-3.ensures in
    let fourth = c.in_ok-next-4.ensures in
    let last = c.in_ok-explain.ensures in
    first_meaning 16 86 c.in_ok-next.next.x.0 c.in_ok-next.next.y.0 Bolt (codes "damage") (drop 1 sign_meanings) _ _ _ first.signs first.x first.y
    (first_meaning c.in_ok-next.next.x.0 c.in_ok-next.next.y.0 c.in_ok-next-2.next.x.0 c.in_ok-next-2.next.y.0 (Upright Ink 1) (codes "a sweep ends")
    (drop 2 sign_meanings) _ _ _ second.signs second.x second.y
    (first_meaning c.in_ok-next-2.next.x.0 c.in_ok-next-2.next.y.0 c.in_ok-next-3.next.x.0 c.in_ok-next-3.next.y.0 (Upright Blue 2)
    (codes "the guarantee holds from here") (drop 3 sign_meanings) _ _ _ third.signs third.x third.y
    (first_meaning c.in_ok-next-3.next.x.0 c.in_ok-next-3.next.y.0 c.in_ok-next-4.next.x.0 c.in_ok-next-4.next.y.0 (Edge Ink 3)
    (codes "edge of the tree") (drop 4 sign_meanings) _ _ _ fourth.signs fourth.x fourth.y
    (first_meaning c.in_ok-next-4.next.x.0 c.in_ok-next-4.next.y.0 _ _ (Edge Faint 1) (codes "other edge") [] _ _ _ last.signs last.x last.y
    (sym (append-nil _))))))
