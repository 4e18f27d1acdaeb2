use Rattle.std.proofs.Common.{◌≡◌, ◌∙◌, ap, refl, [], arith}
use Rattle.std.proofs.lemmas.Grind.{common_steps}
use Rattle.world.specs.judge.configuration.ConfigurationView.{world_of}
use Rattle.run_recording.specs.Columns.{column_of}
use Rattle.run_recording.specs.Seen.{sight_of}
use Rattle.run_recording.proofs.Columns.{follows_all}
use Rattle.run_recording.proofs.Recordings.{begun}
use Rattle.run_recording.proofs.recording.Recording.new.Goals as goal

pub returns-clause-recorded : goal.returns-clause-recorded
returns-clause-recorded g c =
    let w = world_of c.args.world in
    let sight : c.of-sight.result ≡ sight_of w = c.of-sight.ensures ∙ ap (λ k. sight_of (world_of k)) (c.configuration.ensures ∙ c.new-judge.ensures.configuration) in
    let net = c.net.ensures ∙ ap (λ k. (world_of k).net) (c.configuration-2.ensures ∙ c.new-judge.ensures.configuration) in
    let place = ap world_of (c.configuration-3.ensures ∙ c.new-judge.ensures.configuration) in
    let there = ap world_of (c.configuration-4.ensures ∙ c.new-judge.ensures.configuration) in
    let moment_is = c.counts_of-start.ensures w sight net in
    begun w _ (column_of c.of-sight.result.marks c.counts_of-start.result) c.new-judge.ensures.judging refl refl refl refl moment_is (c.keep.ensures.shows [] c.requires.strip)
    (c.keep_still.ensures.shows w [] sight place c.requires.reel) (rw there at (c.keep_layers.ensures.keeps [] c.requires.lanes))

pub returns-clause-reading : goal.returns-clause-reading
returns-clause-reading g c = record { stands = c.new.ensures; recorded = returns-clause-recorded g c }

pub invariant_of-result : goal.invariant_of-result
invariant_of-result g c =
    (grind (arith, common_steps), grind (arith, common_steps), record { is = c.of-sight.ensures ∙ ap (λ k. sight_of (world_of k)) c.configuration.ensures }, c.keep.ensures.covers)

pub keep-requires-clause-follows : goal.keep-requires-clause-follows
keep-requires-clause-follows g c = follows_all c.args.strip.columns c.of-sight.result.marks
