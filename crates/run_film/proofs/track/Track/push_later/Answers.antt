use Rattle.std.proofs.Common.{◌≡◌, ◌∙◌, ap, ◌+◌, ◌<◌, ◌++◌, length, take, string_bytes, arith}
use Rattle.std.proofs.lemmas.Grind.{common_steps}
use Rattle.std.proofs.Math.Seq.{take-length}
use Rattle.run_film.specs.Beats.{film_of, later_beats}
use Rattle.run_film.specs.Tracks.{more_values}
use Rattle.run_film.proofs.Tracks.{still_more}
use Rattle.run_film.proofs.track.Track.push_later.Goals as goal

pub loop-place-preserved : goal.loop-place-preserved
loop-place-preserved c =
    let film = film_of c.args.shown in
    let within : c.loop-place.place < length film.later = grind (arith, common_steps) in
    still_more c.args.self film c.loop-place.place c.beats_at-beats.result film.later _ _ _ _ within c.beats_at-beats.ensures c.loop-place.invariant
    (rw c.later-later.ensures at c.in_ok-push_beats.ensures)
