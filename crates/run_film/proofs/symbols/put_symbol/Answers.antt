use Rattle.std.proofs.Common.{◌∙◌, ap, map, [], ◌∷◌}
use Rattle.std.proofs.lemmas.List.{map-append}
use Rattle.svg_drawing.specs.Grouped.{grouped_of}
use Rattle.run_film.proofs.Films.{defined_here, keeps_pushed}
use Rattle.run_film.proofs.symbols.put_symbol.Goals as goal

pub returns-clause-defined : goal.returns-clause-defined
returns-clause-defined c =
    λ name named.
    defined_here _ _ (grouped_of c.args.group) name (ap (map grouped_of) c.in_ok-push.ensures.items ∙ map-append grouped_of _ (c.args.group ∷ [])) named

pub returns-clause-keeps : goal.returns-clause-keeps
returns-clause-keeps c =
    keeps_pushed _ _ (grouped_of c.args.group) (ap (map grouped_of) c.in_ok-push.ensures.items ∙ map-append grouped_of _ (c.args.group ∷ []))
