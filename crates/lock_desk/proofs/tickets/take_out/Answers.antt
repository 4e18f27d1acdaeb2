use Rattle.std.proofs.Common.{rules, not, ◌==◌}
use Rattle.std.proofs.lemmas.Fn.{filter_same}
use Rattle.lock_desk.proofs.tickets.take_out.Goals as goal

pub returns-clause-rest : goal.returns-clause-rest
returns-clause-rest g c = filter_same _ (λ w. not (w == c.args.ticket)) _ (λ x b q r. search rules) _ _ c.retain.ensures.filtered
