use Rattle.std.proofs.Common.{◌∙◌, ◌==◌, ap, sym, refl, length, [], ◌∷◌, ◌++◌, arith}
use Rattle.world.specs.run_model.Run.{run, is_damage}
use Rattle.world.specs.judge.configuration.ConfigurationView.{world_of}
use Rattle.run_recording.specs.Recordings.{moment_of}
use Rattle.run_recording.specs.Columns.{column_of}
use Rattle.run_recording.specs.Seen.{sight_of}
use Rattle.run_recording.proofs.Columns.{follows_where}
use Rattle.run_recording.proofs.Recordings.{accepted_is, recorded_more}
use Rattle.run_recording.proofs.recording.Recording.happens.Goals as goal

pub returns-clause-records : goal.returns-clause-records
returns-clause-records g c =
    λ start es h.
    let e = c.args.event.now in
    let now = rw (← c.self.view_is) at h in
    let before = c.sweeps-before.result in
    let after = c.sweeps-sweeps.result in
    let world = run start (es ++ e ∷ []) in
    let seen = c.step.ensures.judging start es now.seen in
    let accepted = accepted_is c.step.result _ c.step.ensures.ok c.step.ensures.err ∙ sym c.is_ok-accepted.ensures.value in
    let damaged = c.is_damage-damaged.ensures (world_of c.self.inside.judge.configuration) accepted ∙ ap (λ w. is_damage w e) now.seen.judging.now_is in
    let there = ap world_of c.configuration.ensures in
    let sight = c.follow-change.ensures.sight (world_of c.self.inside.judge.configuration) c.self.invariant.2.is (there ∙ c.step.ensures.world)
    ∙ ap sight_of (there ∙ seen.judging.now_is) in
    let net = c.net.ensures ∙ ap (λ k. (world_of k).net) c.configuration-2.ensures ∙ ap (λ w. w.net) seen.judging.now_is in
    let moment_is =
    c.counts_of-counts.ensures world sight net
    ∙ ap (λ d. moment_of world d before after) damaged in
    let empty = c.is_empty.ensures ∙ ap (λ xs. length xs == 0) c.columns.ensures in
    let place = ap world_of c.configuration-3.ensures ∙ seen.judging.now_is in
    let kept = c.keep_still.ensures.shows world now.stills sight place now.reeled in
    let end = ap world_of c.configuration-4.ensures ∙ seen.judging.now_is in
    let worlds = c.keep_layers.ensures.keeps now.worlds now.laned in
    recorded_more start es e _ _ before after (column_of c.follow-change.new.self.marks c.counts_of-counts.result) _ now seen (c.sweeps-before.ensures.sweeps start es now.seen)
    (c.sweeps-sweeps.ensures.sweeps start (es ++ e ∷ []) seen) moment_is refl c.saturating_add-self-inside.ensures
    (c.keep.ensures.shows now.moments now.shown) refl empty c.begin_at.ensures (rw damaged at kept) (rw end at worlds)

pub invariant_of-self : goal.invariant_of-self
invariant_of-self g c =
    let there = ap world_of c.configuration.ensures in
    let seen = c.follow-change.ensures.sight (world_of c.self.inside.judge.configuration) c.self.invariant.2.is (there ∙ c.step.ensures.world) in
    (omega (arith, c.keep.ensures.moments, c.self.invariant.0), omega (arith, c.keep_layers.ensures.moments, c.self.invariant.1), record { is = seen ∙ ap sight_of there }, c.keep.ensures.covers)

pub keep-requires-clause-follows : goal.keep-requires-clause-follows
keep-requires-clause-follows g c =
    rw (c.change_where-change.ensures, c.holds.ensures)
    (follows_where c.self.inside.strip.columns c.self.inside.sight.marks c.follow-change.new.self.marks c.follow-change.result _ c.self.invariant.3 c.follow-change.ensures.change)
