use Rattle.run_film.specs.Beats.{film_of}
use Rattle.run_film.proofs.Films.{symbols_kept}
use Rattle.run_film.proofs.playing.scene.Goals as goal

pub returns : goal.returns
returns c = record {
  parts = c.in_ok-put_parts.ensures.plays;
  symbols = symbols_kept _ _ (film_of c.args.shown) c.args.net.now c.in_ok-put_parts.ensures.keeps c.in_ok-put_symbols.ensures;
}
