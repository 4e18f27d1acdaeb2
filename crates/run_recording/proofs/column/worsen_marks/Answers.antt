use Rattle.std.proofs.Common.{◌≡◌, ◌∙◌, ap, sym, ◌<◌, length, slice_set, slice_index_or, rules, arith}
use Rattle.std.proofs.lemmas.Grind.{common_steps}
use Rattle.run_recording.specs.Marks.{worse_marks}
use Rattle.run_recording.specs.declared.mark.Mark.TheVariants.{Settled}
use Rattle.run_recording.proofs.Marks.{as_bad_but_one}
use Rattle.run_recording.proofs.column.worsen_marks.Goals as goal

pub returns-in-Nothing : goal.returns-in-Nothing
returns-in-Nothing c = sym (rw c.in-Nothing.is at c.requires)

pub returns-in-At : goal.returns-in-At
returns-in-At c =
    let v = c.in-At.node in
    let worst = c.args.worst.now in
    let given = rw c.in-At.is at c.requires in
    let there : v < length worst = search (rules, arith) in
    ap (λ m. slice_set worst v m) c.worse.ensures
    ∙ sym (as_bad_but_one worst given.0 v (slice_index_or c.args.marks.now v Settled) _ given.1 there)
    ∙ ap (worse_marks worst) (sym given.2.1)
