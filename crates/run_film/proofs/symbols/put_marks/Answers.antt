use Rattle.std.proofs.Common.{ap}
use Rattle.run_film.proofs.Films.{defined_kept, keeps_on}
use Rattle.run_film.proofs.symbols.put_marks.Goals as goal

pub returns : goal.returns
returns c =
    let after-6 = c.in_ok-put_symbol-7.ensures.keeps in
    let after-5 = keeps_on _ _ _ c.in_ok-put_symbol-6.ensures.keeps after-6 in
    let after-4 = keeps_on _ _ _ c.in_ok-put_symbol-5.ensures.keeps after-5 in
    let after-3 = keeps_on _ _ _ c.in_ok-put_symbol-4.ensures.keeps after-4 in
    let after-2 = keeps_on _ _ _ c.in_ok-put_symbol-3.ensures.keeps after-3 in
    let after-1 = keeps_on _ _ _ c.in_ok-put_symbol-2.ensures.keeps after-2 in
    record {
      marks = record {
        settled = defined_kept _ _ _ after-1 (c.in_ok-put_symbol.ensures.defined _ c.in_ok-settled.ensures);
        wrong = defined_kept _ _ _ after-2 (c.in_ok-put_symbol-2.ensures.defined _ c.in_ok-wrong.ensures);
        privileged = defined_kept _ _ _ after-3 (c.in_ok-put_symbol-3.ensures.defined _ c.in_ok-privileged.ensures);
        lending = defined_kept _ _ _ after-4 (c.in_ok-put_symbol-4.ensures.defined _ c.in_ok-lending.ensures);
        nothing = defined_kept _ _ _ after-5 (c.in_ok-put_symbol-5.ensures.defined _ (ap (λ g. g.element) c.in_ok-symbol.ensures));
        strike = defined_kept _ _ _ after-6 (c.in_ok-put_symbol-6.ensures.defined _ c.in_ok-symbol_of.ensures);
        damage = c.in_ok-put_symbol-7.ensures.defined _ c.in_ok-symbol_of-2.ensures;
      };
    }
