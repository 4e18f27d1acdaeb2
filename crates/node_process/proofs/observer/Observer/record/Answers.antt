use Rattle.std.proofs.Common.{◌∙◌, refl, sym, ap, is_some}
use Rattle.std.proofs.lemmas.Option.{none-some}
use Rattle.node_process.proofs.observer.Observer.record.Goals as goal

pub returns-in-Some-clause-recorded : goal.returns-in-Some-clause-recorded
returns-in-Some-clause-recorded g c =
    rw c.in-Some.is (λ runs. rw (c.deeds-deeds.ensures, c.has_all-has_all.ensures, c.node.ensures, c.ports.ensures) at c.turn_ended.ensures.noted runs)

pub returns-in-Some-clause-off : goal.returns-in-Some-clause-off
returns-in-Some-clause-off g c off = absurd (none-some _ (sym off ∙ c.in-Some.is))

pub returns-in-Some-clause-keeps : goal.returns-in-Some-clause-keeps
returns-in-Some-clause-keeps g c = ap is_some (sym c.in-Some.is)

pub returns-in-Some-clause-others : goal.returns-in-Some-clause-others
returns-in-Some-clause-others g c = (refl, refl, refl, refl)

pub returns-in_default-clause-off : goal.returns-in_default-clause-off
returns-in_default-clause-off g c off = refl

pub returns-in_default-clause-keeps : goal.returns-in_default-clause-keeps
returns-in_default-clause-keeps g c = refl

pub returns-in_default-clause-recorded : goal.returns-in_default-clause-recorded
returns-in_default-clause-recorded g c = rw c.in_default.is tt

pub returns-in_default-clause-others : goal.returns-in_default-clause-others
returns-in_default-clause-others g c = (refl, refl, refl, refl)
