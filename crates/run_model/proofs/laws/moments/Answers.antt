use Rattle.std.proofs.Common.{[], ◌∷◌}
use Rattle.run_model.proofs.Moments.{moment-leads, moment-stays, moment-moves, visits-go_on}
use Rattle.run_model.proofs.laws.moments.Goals as goal

pub returns : goal.returns
returns c = record {
  leads = λ w es range. let m = moment-leads (λ w e range. c.in_range.ensures w (e ∷ []) range) w es range in (m.range, m.fine, m.leads);
  stays = moment-stays;
  moves = moment-moves;
  visits = visits-go_on;
}
