use Rattle.std.proofs.Common.{◌∙◌, sym, ap, replicate, length}
use Rattle.judge.specs.Tallies.{no_tally}
use Rattle.judge.proofs.tallies.forget.Goals as goal

pub returns : goal.returns
returns g c =
    c.fill.ensures.items (λ y e. e)
    ∙ ap (λ n. replicate n no_tally) (sym c.as_slice-known_all.ensures.len ∙ ap length c.as_slice-known_all.ensures.value)
