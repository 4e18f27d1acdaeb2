use Rattle.std.proofs.Common.{◌∙◌, ap, sym, length, rules, arith}
use Rattle.std.proofs.lemmas.Grind.{common_steps}
use Rattle.run_recording.specs.Columns.{folded, is_even, last_folded}
use Rattle.run_recording.proofs.Columns.{follows_folded}
use Rattle.run_recording.proofs.Strips.{shown_folded, last_few, folded_room, full_room}
use Rattle.run_recording.proofs.strip.Strip.fold.Goals as goal

pub returns-clause-shows : goal.returns-clause-shows
returns-clause-shows g c =
    λ moments h.
    let now = rw (← c.self.view_is) at h in
    let columns = c.self.inside.columns.items in
    let items_are = ap (λ v. v.items) c.swap.ensures.x_after ∙ c.fold_into.ensures.folded ∙ ap folded c.as_slice.ensures.value in
    let last_is =
    c.last_folded-self-inside.ensures
    ∙ ap (λ even. last_folded even c.self.inside.width c.self.inside.last) (c.is_even.ensures ∙ ap is_even c.as_slice-2.ensures.value) in
    (rw (items_are, last_is) (shown_folded _ _ moments columns c.self.invariant.5.1 now.0), now.1)

pub invariant_of-self : goal.invariant_of-self
invariant_of-self g c =
    let columns = c.self.inside.columns.items in
    let moments = c.self.invariant.5.0.0 in
    let now = c.self.invariant.5.0.1 in
    let some = rw (← c.self.view_is) at c.requires.some in
    let full = rw (← c.self.view_is) at c.requires.full in
    let items_are = ap (λ v. v.items) c.swap.ensures.x_after ∙ c.fold_into.ensures.folded ∙ ap folded c.as_slice.ensures.value in
    let last_is =
    c.last_folded-self-inside.ensures
    ∙ ap (λ even. last_folded even c.self.inside.width c.self.inside.last) (c.is_even.ensures ∙ ap is_even c.as_slice-2.ensures.value) in
    let few = last_few _ _ moments columns some now.0 in
    let room = folded_room columns some in (
      c.self.invariant.0,
      rw items_are (grind (arith, common_steps)),
      search (rules, arith),
      search (rules, arith),
      c.clear.ensures.items,
      (
        (moments, (rw (items_are, last_is) (shown_folded _ _ moments columns c.self.invariant.5.1 now.0), now.1)),
        omega (arith, c.self.invariant.5.1),
        grind (arith, common_steps),
      ),
    )

pub returns-clause-room : goal.returns-clause-room
returns-clause-room g c =
    λ all.
    let columns = c.self.inside.columns.items in
    let some = rw (← c.self.view_is) at c.requires.some in
    let full = rw (← c.self.view_is) at c.requires.full in
    let items_are = ap (λ v. v.items) c.swap.ensures.x_after ∙ c.fold_into.ensures.folded ∙ ap folded c.as_slice.ensures.value in
    let last_is =
    c.last_folded-self-inside.ensures
    ∙ ap (λ even. last_folded even c.self.inside.width c.self.inside.last) (c.is_even.ensures ∙ ap is_even c.as_slice-2.ensures.value) in
    let old_are = ap (λ s. length s.columns) c.self.view_is in
    rw (items_are, ← old_are) (full_room columns _ _ c.self.invariant.5.1 full some (sym last_is ∙ all))

pub returns-clause-follows : goal.returns-clause-follows
returns-clause-follows g c =
    λ change marks h.
    let now = rw (← c.self.view_is) at h in
    let items_are = ap (λ v. v.items) c.swap.ensures.x_after ∙ c.fold_into.ensures.folded ∙ ap folded c.as_slice.ensures.value in
    rw items_are (follows_folded c.self.inside.columns.items change marks now)
