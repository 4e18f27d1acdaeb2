use Rattle.std.proofs.Common.{◌∙◌, ap, true, length, rules, arith}
use Rattle.std.proofs.lemmas.Grind.{common_steps}
use Rattle.run_recording.specs.Stills.{folded}
use Rattle.run_recording.proofs.Stills.{stands_folded, folded_fewer}
use Rattle.run_recording.proofs.reel.Reel.fold_all.Goals as goal

pub returns-clause-shows : goal.returns-clause-shows
returns-clause-shows g c =
    λ moments h.
    let now = rw (← c.self.view_is) at h in
    let items_are = ap (λ v. v.items) c.swap.ensures.x_after ∙ c.fold_into.ensures.folded ∙ ap (folded true) c.as_slice.ensures.value in
    rw items_are (stands_folded _ moments c.self.inside.stills.items now)

pub returns-clause-room : goal.returns-clause-room
returns-clause-room g c =
    let two = rw (← c.self.view_is) at c.requires in
    let items_are = ap (λ v. v.items) c.swap.ensures.x_after ∙ c.fold_into.ensures.folded ∙ ap (folded true) c.as_slice.ensures.value in
    let old_are = ap (λ s. length s.stills) c.self.view_is in
    rw (items_are, ← old_are) (folded_fewer c.self.inside.stills.items two)

pub invariant_of-self : goal.invariant_of-self
invariant_of-self g c =
    let two = rw (← c.self.view_is) at c.requires in
    let few = folded_fewer c.self.inside.stills.items two in
    let items_are = ap (λ v. v.items) c.swap.ensures.x_after ∙ c.fold_into.ensures.folded ∙ ap (folded true) c.as_slice.ensures.value in (
      c.self.invariant.0,
      rw items_are (grind (arith, common_steps)),
      search (rules, arith),
      search (rules, arith),
      c.clear.ensures.items,
    )
