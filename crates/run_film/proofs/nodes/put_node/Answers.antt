use Rattle.std.proofs.Common.{◌∙◌, ap, map, [], ◌∷◌}
use Rattle.std.proofs.lemmas.List.{map-append}
use Rattle.svg_drawing.specs.Grouped.{grouped_of}
use Rattle.run_film.proofs.Films.{five}
use Rattle.run_film.proofs.nodes.put_node.Goals as goal

pub returns : goal.returns
returns c = record {
  x = c.at-at.result.x.0;
  y = c.at-at.result.y.0;
  across = c.ticket_place-beside.result.x.0;
  down = c.ticket_place-beside.result.y.0;
  name = grouped_of c.in_ok-node_name.field-0;
  are = five _ _ _ _ _ _ _ _ _ _ _ c.in_ok-put_track.ensures c.in_ok-put_track-2.ensures c.in_ok-put_track-3.ensures c.in_ok-put_track-4.ensures
      (ap (map grouped_of) c.in_ok-push.ensures.items ∙ map-append grouped_of _ (c.in_ok-node_name.field-0 ∷ []));
}
