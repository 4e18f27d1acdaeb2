use Rattle.std.proofs.Common.{◌∙◌, ◌<◌, ap, subst, sym}
use Rattle.run_film.proofs.stage.Stage.of.Goals as goal

pub returns : goal.returns
returns c = record {
  rise = c.rise_of-rise.result.0;
  some = c.rise_of-rise.ensures.least;
  heights = λ v below. ap (λ y. y.0) (c.stand.ensures v) ∙ c.rows_of.ensures.heights v below;
  few = λ v below. subst (λ y. y.0 < 10000000) (sym (c.stand.ensures v)) (c.rows_of.ensures.few v below);
}
