use Rattle.std.proofs.Common.{All, subst}
use Rattle.std.proofs.lemmas.List.{reverse-append}
use Rattle.std.proofs.lemmas.List.Elements.{All-head, All-rest}
use Rattle.thread_net.specs.Outcomes.{MayRun}
use Rattle.thread_net.proofs.threads.+run_each.Goals as goal

pub start-started-requires-after_bounds : goal.start-started-requires-after_bounds
start-started-requires-after_bounds g t c κs within = All-head (MayRun c.args.turns) c.in-Some.runner _ (subst (All (MayRun c.args.turns)) c.in-Some.ensures.cases.0 c.requires.may)

pub run_each-requires-clause-may : goal.run_each-requires-clause-may
run_each-requires-clause-may g t c κs within = All-rest (MayRun c.args.turns) c.in-Some.runner _ _ c.in-Some.ensures.cases.0 c.requires.may

pub returns-in-Some-clause-outcomes : goal.returns-in-Some-clause-outcomes
returns-in-Some-clause-outcomes g t c =
    rw (c.in-Some.ensures.cases.0, c.push_reserved.ensures.items, reverse-append) (c.finish.ensures c.in-Some.runner c.start-started.ensures, c.run_each.ensures.outcomes)
