use Rattle.run_film.proofs.Films.{defined_kept, keeps_on}
use Rattle.run_film.proofs.symbols.put_lines.Goals as goal

pub returns-clause-lines : goal.returns-clause-lines
returns-clause-lines c = record {
  thin = defined_kept _ _ _ c.in_ok-put_symbol-2.ensures.keeps (c.in_ok-put_symbol.ensures.defined _ c.in_ok-edge.ensures);
  strong = c.in_ok-put_symbol-2.ensures.defined _ c.in_ok-edge-2.ensures;
}

pub returns-clause-keeps : goal.returns-clause-keeps
returns-clause-keeps c = keeps_on _ _ _ c.in_ok-put_symbol.ensures.keeps c.in_ok-put_symbol-2.ensures.keeps
