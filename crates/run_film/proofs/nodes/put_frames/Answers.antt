use Rattle.run_film.proofs.Films.{keeps_on, keeps_pushed, played_here, played_kept}
use Rattle.run_film.proofs.nodes.put_frames.Goals as goal

pub returns-in_ok-put_track-clause-frames : goal.returns-in_ok-put_track-clause-frames
returns-in_ok-put_track-clause-frames c =
    let keeps = keeps_pushed _ _ _ c.in_ok-put_track.ensures in
    λ few. record {
      last = played_here _ _ _ _ _ c.in_ok-put_track.ensures;
      waiting = λ u within v below there. played_kept _ _ _ keeps (c.in_ok-put_pairs.ensures.pairs u within v below there);
    }

pub returns-in_ok-put_track-clause-keeps : goal.returns-in_ok-put_track-clause-keeps
returns-in_ok-put_track-clause-keeps c = keeps_on _ _ _ c.in_ok-put_pairs.ensures.keeps (keeps_pushed _ _ _ c.in_ok-put_track.ensures)
