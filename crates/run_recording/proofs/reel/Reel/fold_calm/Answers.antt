use Rattle.std.proofs.Common.{◌∙◌, ap, false, rules, arith}
use Rattle.std.proofs.lemmas.Grind.{common_steps}
use Rattle.run_recording.specs.Stills.{folded}
use Rattle.run_recording.proofs.Stills.{stands_calm, calm_few}
use Rattle.run_recording.proofs.reel.Reel.fold_calm.Goals as goal

pub returns-clause-shows : goal.returns-clause-shows
returns-clause-shows g c =
    λ moments h.
    let now = rw (← c.self.view_is) at h in
    let items_are = ap (λ v. v.items) c.swap.ensures.x_after ∙ c.fold_into.ensures.folded ∙ ap (folded false) c.as_slice.ensures.value in
    rw items_are (stands_calm _ moments c.self.inside.stills.items now)

pub invariant_of-self : goal.invariant_of-self
invariant_of-self g c =
    let few = calm_few c.self.inside.stills.items in
    let items_are = ap (λ v. v.items) c.swap.ensures.x_after ∙ c.fold_into.ensures.folded ∙ ap (folded false) c.as_slice.ensures.value in (
      c.self.invariant.0,
      rw items_are (grind (arith, common_steps)),
      search (rules, arith),
      search (rules, arith),
      c.clear.ensures.items,
    )
