use Rattle.std.proofs.Common.{◌∙◌, sym, ap, replicate, length}
use Rattle.configuration.proofs.pair_table.write_zeros.Goals as goal

pub returns : goal.returns
returns g c = c.fill.ensures.items (λ y e. e) ∙ ap (λ n. replicate n 0) (sym c.as_slice-known_all.ensures.len ∙ ap length c.as_slice-known_all.ensures.value)
