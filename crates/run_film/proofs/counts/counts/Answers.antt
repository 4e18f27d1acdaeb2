use Rattle.std.proofs.Common.{map}
use Rattle.svg_drawing.specs.Grouped.{grouped_of}
use Rattle.run_film.proofs.Films.{then_last}
use Rattle.run_film.proofs.counts.counts.Goals as goal

pub returns : goal.returns
returns c = (map grouped_of c.in_ok-groups.groups.items, then_last _ _ _ _ c.in_ok-push.ensures.items c.in_ok-cursor.ensures)
