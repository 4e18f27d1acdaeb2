use Rattle.std.proofs.Common.{◌≡◌, ◌∙◌, ◌++◌, ◌∷◌, [], ap, subst, sym, length, rules, arith}
use Rattle.std.proofs.lemmas.Grind.{common_steps}
use Rattle.run_recording.specs.Runs.{AreRuns, EndIn, longer}
use Rattle.run_recording.proofs.RunsOfMarks.{begins, false_true, goes_on, written_back}
use Rattle.run_recording.proofs.runs.put_mark.Goals as goal

pub returns-then-end_in : goal.returns-then-end_in
returns-then-end_in c =
    λ marks many are.
    let runs = c.args.runs.now.items in
    let is : EndIn c.args.mark runs = subst (EndIn c.args.mark) c.as_slice.ensures.value (c.end_in.ensures.0 (grind (arith, common_steps))) in
    let all : c.args.runs.now.len ≡ length runs = search (rules, arith) in
    subst (λ rs. AreRuns (marks ++ c.args.mark ∷ []) rs)
    (sym (written_back c.args.runs.now.len runs c.lengthen.new.runs all (c.lengthen.ensures ∙ ap longer c.as_mut_slice.ensures.value)))
    (goes_on runs c.args.place c.args.mark c.requires is marks many are)

pub returns : goal.returns
returns c =
    λ marks many are.
    let runs = c.args.runs.now.items in
    let other : ¬ EndIn c.args.mark runs =
    λ is. false_true (c.end_in.ensures.1 (subst (EndIn c.args.mark) (sym c.as_slice.ensures.value) is)) c.if-end_in.false in
    subst (λ rs. AreRuns (marks ++ c.args.mark ∷ []) rs) (sym c.in_ok-push.ensures.items)
    (begins runs c.args.place c.args.mark other marks many are)
