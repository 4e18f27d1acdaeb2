use Rattle.std.proofs.Common.{rules, arith, refl, ◌≡◌, true, false, vec_len, length}
use Rattle.judge.specs.configuration.ConfigurationView.{world_of}
use Rattle.thread_net.specs.Outcomes.{IsOutcomeOf, have_run, turns_of}
use Rattle.std.proofs.lemmas.Slice.Zip.{AllZip-long}
use Rattle.thread_net.proofs.Finishing.{all-ran, gatherable, part, start-of}
use Rattle.thread_net.proofs.run.run_threads.Goals as goal

pub collect-all_ran-requires : goal.collect-all_ran-requires
collect-all_ran-requires g c =
    let os = c.run_all-outcomes.result.items in
    let many = c.in-Ok-prepare_world.ensures.ready.runners.count in
    let zip = AllZip-long (IsOutcomeOf c.args.turns) c.in-Ok-prepare_world.prepared.runners.items os c.run_all-outcomes.ensures in
    let count : c.from-count.result ≡ c.args.world.links.net.nodes = search rules in
    let back = c.in-Ok.ensures.back in
    let long : length os ≡ vec_len c.run_all-outcomes.result = search rules in
    (back.0, omega (arith, many, zip, count, back.1, long))

pub gather-woven-requires : goal.gather-woven-requires
gather-woven-requires g c =
    let os = c.run_all-outcomes.result.items in (
      world_of c.args.world,
      turns_of c.args.turns os,
      gatherable (world_of c.args.world) c.args.turns _ os _ (start-of c.args.world c.prepare_world.ensures.range) c.in-Ok-prepare_world.ensures.ready c.run_all-outcomes.ensures c.collect-all_ran.ensures.runners (turns_of c.args.turns os) (λ v within. refl),
    )

pub returns-then-all_ran-clause-ok : goal.returns-then-all_ran-clause-ok
returns-then-all_ran-clause-ok g c =
    let os = c.run_all-outcomes.result.items in
    let ran : have_run os ≡ true = search rules in
    let it = gatherable (world_of c.args.world) c.args.turns _ os _ (start-of c.args.world c.prepare_world.ensures.range) c.in-Ok-prepare_world.ensures.ready c.run_all-outcomes.ensures c.collect-all_ran.ensures.runners (λ v. c.args.turns) (λ v within. rw (all-ran os ran v within)) in
    c.gather-woven.ensures (world_of c.args.world) (λ v. c.args.turns) it

pub returns-else-all_ran-clause-err : goal.returns-else-all_ran-clause-err
returns-else-all_ran-clause-err g c =
    let os = c.run_all-outcomes.result.items in
    let ran : have_run os ≡ false = search rules in
    let it = gatherable (world_of c.args.world) c.args.turns _ os _ (start-of c.args.world c.prepare_world.ensures.range) c.in-Ok-prepare_world.ensures.ready c.run_all-outcomes.ensures c.collect-all_ran.ensures.runners (turns_of c.args.turns os) (λ v within. refl) in
    part (world_of c.args.world) c.args.turns _ os _ (start-of c.args.world c.prepare_world.ensures.range) c.in-Ok-prepare_world.ensures.ready c.run_all-outcomes.ensures c.collect-all_ran.ensures.runners _ _ (c.gather-woven.ensures (world_of c.args.world) (turns_of c.args.turns os) it) ran
