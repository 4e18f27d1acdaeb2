use Rattle.std.proofs.Common.{ℕ, List, OnOk, subst}
use Rattle.std.specs.List.{range_with_len}
use Rattle.run_model.specs.Run.{run}
use Rattle.run_model.specs.declared.event.Event.{Event}
use Rattle.judge.specs.configuration.ConfigurationView.{world_of}
use Rattle.schedules.specs.Rounds.{round}
use Rattle.experiments.specs.GivenBack.{back_at_all}
use Rattle.experiments.proofs.Backs.{on-ok, round-backs, round-went}
use Rattle.experiments.proofs.Harmless.{never-fails}
use Rattle.experiments.proofs.Harms.{then-taken}
use Rattle.experiments.proofs.giving_back.give_round_back.Goals as goal

pub returns-clause-went : goal.returns-clause-went
returns-clause-went g c =
    let first = never-fails c.give_round-happened.result c.give_round-happened.ensures.cause c.give_round-happened.ensures.taken in
    on-ok c.give_all_back.result
    (round-went c.args.net.now c.nodes.result c.args.lending.now c.give_round-happened.new.sink c.give_all_back.new.lending c.nodes.ensures.nodes first)
    c.give_all_back.ensures.went

pub returns-clause-taken : goal.returns-clause-taken
returns-clause-taken g c =
    let net = c.args.net.now in
    let old = c.args.lending.now in
    let mid = c.give_round-happened.new.sink in
    let w = world_of old.configuration in
    let all = back_at_all old.more (run w (round net)) old.left (range_with_len 0 net.nodes) in
    let first = never-fails c.give_round-happened.result c.give_round-happened.ensures.cause c.give_round-happened.ensures.taken in
    let same = round-backs net old.more w old.left c.nodes.result mid.more (world_of mid.configuration) mid.left c.nodes.ensures.nodes first.world_is first.left_is first.more_is
    in
    then-taken g.S.EventSink.takes g.met.S.EventSink.takes_both c.args.sink.now c.give_round.new.sink c.give_all_back.new.sink (round net) all.0
    c.give_all_back.result c.in_ok-give_round.ensures.taken
    (subst (λ (b : List Event × List ℕ). OnOk c.give_all_back.result (g.S.EventSink.takes c.give_round.new.sink b.0 c.give_all_back.new.sink)) same
    c.give_all_back.ensures.taken)
