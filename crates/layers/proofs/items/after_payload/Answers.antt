use Rattle.std.proofs.Common.{◌↔◌, sym, subst}
use Rattle.configuration.specs.data_link.Edge.{CarriesItsPayload}
use Rattle.layers.specs.PayloadReading.{Admits}
use Rattle.layers.proofs.items.after_payload.Goals as goal

pub returns-in-Frame-clause-admits : goal.returns-in-Frame-clause-admits
returns-in-Frame-clause-admits c = λ port other seq staged.
    subst (λ i. Admits c.after.result other ↔ (Admits c.args.reading other × CarriesItsPayload port other i)) (sym c.in-Frame.is)
    (c.after.ensures.admits port other seq staged)
