use Rattle.std.proofs.Common.{◌≡◌, ◌∙◌, ap, ◌+◌, ◌<◌, ◌++◌, [], ◌∷◌, length, rules, arith}
use Rattle.std.proofs.lemmas.Grind.{common_steps}
use Rattle.run_recording.specs.Columns.{column_of, with_last, Follows}
use Rattle.run_recording.proofs.Columns.{covered_new, covered_last}
use Rattle.run_recording.proofs.Strips.{shown_new, shown_last, last_within, written_back, with_last-length}
use Rattle.run_recording.proofs.strip.Strip.add.Goals as goal

pub returns-then-self-clause-shows : goal.returns-then-self-clause-shows
returns-then-self-clause-shows g c =
    λ moments h.
    let now = rw (← c.self.view_is) at h in
    let long : length (moments ++ column_of c.args.marks.now c.args.counts.now ∷ []) ≡ c.self.inside.moments + 1 = grind (arith, common_steps) in
    let new_is = c.push_reserved.ensures.items ∙ ap (λ x. c.self.inside.columns.items ++ x ∷ []) c.of.ensures in
    (rw new_is (shown_new _ _ moments _ (column_of c.args.marks.now c.args.counts.now) c.self.invariant.5.1 c.if-self.true now.0), long)

pub invariant_of-self : goal.invariant_of-self
invariant_of-self g c =
    let m = column_of c.args.marks.now c.args.counts.now in
    let moments = c.self.invariant.5.0.0 in
    let now = c.self.invariant.5.0.1 in
    let free = (rw (← c.self.view_is) at c.requires.room) c.if-self.true in
    let new_is = c.push_reserved.ensures.items ∙ ap (λ x. c.self.inside.columns.items ++ x ∷ []) c.of.ensures in
    let long : length (moments ++ m ∷ []) ≡ c.self.inside.moments + 1 = grind (arith, common_steps) in (
      c.self.invariant.0,
      grind (arith, common_steps),
      search (rules, arith),
      c.self.invariant.3,
      c.self.invariant.4,
      (
        (moments ++ m ∷ [], (rw new_is (shown_new _ _ moments _ m c.self.invariant.5.1 c.if-self.true now.0), long)),
        c.self.invariant.5.1,
        omega (arith, c.self.invariant.5.2),
      ),
    )

pub overflow_add-self-else-self : goal.overflow_add-self-else-self
overflow_add-self-else-self g c =
    let within = last_within _ _ _ _ c.self.invariant.5.0.1.0 in
    search (rules, arith)

pub returns-else-self-clause-shows : goal.returns-else-self-clause-shows
returns-else-self-clause-shows g c =
    λ moments h.
    let m = column_of c.args.marks.now c.args.counts.now in
    let now = rw (← c.self.view_is) at h in
    let within = last_within _ _ _ _ now.0 in
    let room : c.self.inside.last < c.self.inside.width = grind (arith, common_steps) in
    let long : length (moments ++ m ∷ []) ≡ c.self.inside.moments + 1 = grind (arith, common_steps) in
    let is = c.worsen_last.ensures ∙ ap (λ xs. with_last xs m) c.as_mut_slice.ensures.value in
    let all : c.self.inside.columns.len ≡ length c.self.inside.columns.items = search (rules, arith) in
    (rw (written_back _ _ _ m all is) (shown_last _ _ moments _ m room now.0), long)

pub invariant_of-self-else-self : goal.invariant_of-self-else-self
invariant_of-self-else-self g c =
    let m = column_of c.args.marks.now c.args.counts.now in
    let moments = c.self.invariant.5.0.0 in
    let now = c.self.invariant.5.0.1 in
    let within = last_within _ _ _ _ now.0 in
    let room : c.self.inside.last < c.self.inside.width = grind (arith, common_steps) in
    let long : length (moments ++ m ∷ []) ≡ c.self.inside.moments + 1 = grind (arith, common_steps) in
    let is = c.worsen_last.ensures ∙ ap (λ xs. with_last xs m) c.as_mut_slice.ensures.value in
    let all : c.self.inside.columns.len ≡ length c.self.inside.columns.items = search (rules, arith) in
    let back = written_back _ _ _ m all is in
    let same = with_last-length c.self.inside.columns.items m in (
      c.self.invariant.0,
      rw back (rw same c.self.invariant.1),
      c.self.invariant.2,
      c.self.invariant.3,
      c.self.invariant.4,
      (
        (moments ++ m ∷ [], (rw back (shown_last _ _ moments _ m room now.0), long)),
        c.self.invariant.5.1,
        omega (arith, c.self.invariant.5.2),
      ),
    )

pub returns-then-self-clause-covers : goal.returns-then-self-clause-covers
returns-then-self-clause-covers g c =
    rw (c.push_reserved.ensures.items, c.of.ensures) (covered_new c.self.inside.columns.items c.args.marks.now c.args.counts.now)

pub worsen_last-requires : goal.worsen_last-requires
worsen_last-requires g c =
    rw c.as_mut_slice.ensures.value (rw (← c.self.view_is) at c.requires.follows)

pub returns-else-self-clause-covers : goal.returns-else-self-clause-covers
returns-else-self-clause-covers g c =
    let m = column_of c.args.marks.now c.args.counts.now in
    let is = c.worsen_last.ensures ∙ ap (λ xs. with_last xs m) c.as_mut_slice.ensures.value in
    let all : c.self.inside.columns.len ≡ length c.self.inside.columns.items = search (rules, arith) in
    rw (written_back _ _ _ m all is) (covered_last c.self.inside.columns.items c.args.marks.now c.args.counts.now)
