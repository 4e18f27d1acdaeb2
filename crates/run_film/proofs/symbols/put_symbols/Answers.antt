use Rattle.run_film.specs.Beats.{film_of}
use Rattle.run_film.proofs.Films.{defined_kept, edge_kept, marks_kept}
use Rattle.run_film.proofs.Paired.{edges_defined}
use Rattle.run_film.proofs.symbols.put_symbols.Goals as goal

pub returns : goal.returns
returns c =
    let distances = c.in_ok-put_distances.ensures in
    let arrows = c.in_ok-put_pairs.ensures in
    let edges = c.in_ok-put_pairs-2.ensures in
    let frames = c.in_ok-put_frame_symbols.ensures in
    record {
      marks = marks_kept _ _ frames.keeps
          (marks_kept _ _ edges.keeps (marks_kept _ _ arrows.keeps (marks_kept _ _ distances.keeps c.in_ok-put_marks.ensures.marks)));
      distances = λ d most. defined_kept _ _ _ frames.keeps (defined_kept _ _ _ edges.keeps (defined_kept _ _ _ arrows.keeps (distances.distances d most)));
      arrows = λ v within w below there. defined_kept _ _ _ frames.keeps (defined_kept _ _ _ edges.keeps (arrows.pairs v within w below there));
      edges = λ w within v below there. edge_kept _ _ v w frames.keeps (edges_defined _ (film_of c.args.material.shown) c.args.material.net.now edges.pairs w within v below there);
      frames = frames.frames;
    }
