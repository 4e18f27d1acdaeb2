use Rattle.run_film.specs.Beats.{film_of}
use Rattle.run_film.proofs.Films.{frames_shown_kept, keeps_on, played_kept}
use Rattle.run_film.proofs.Paired.{edges_shown}
use Rattle.run_film.proofs.playing.put_parts.Goals as goal

pub returns-clause-plays : goal.returns-clause-plays
returns-clause-plays c =
    let said = c.in_ok-put_said.ensures in
    let edges = c.in_ok-put_pairs.ensures in
    let frames = c.in_ok-put_frames.ensures in
    let nodes = c.in_ok-put_nodes.ensures in
    record {
      nodes = nodes.nodes;
      edges = λ w below v less there. played_kept _ _ _ nodes.keeps (played_kept _ _ _ frames.keeps (edges_shown _ (film_of c.args.material.shown) c.args.material.net.now edges.pairs w below v less there));
      frames = λ few. frames_shown_kept _ _ _ _ nodes.keeps (frames.frames few);
      sweeps = played_kept _ _ _ nodes.keeps (played_kept _ _ _ frames.keeps (played_kept _ _ _ edges.keeps said.sweeps));
      damage = played_kept _ _ _ nodes.keeps (played_kept _ _ _ frames.keeps (played_kept _ _ _ edges.keeps said.damage));
    }

pub returns-clause-keeps : goal.returns-clause-keeps
returns-clause-keeps c =
    keeps_on _ _ _ c.in_ok-put_said.ensures.keeps
    (keeps_on _ _ _ c.in_ok-put_pairs.ensures.keeps (keeps_on _ _ _ c.in_ok-put_frames.ensures.keeps c.in_ok-put_nodes.ensures.keeps))
