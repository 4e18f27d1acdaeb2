use Rattle.gather_command.proofs.Faithful.{none-refused, lent, complete}
use Rattle.gather_command.proofs.laws.weaving_is_faithful.Goals as goal

pub returns : goal.returns
returns c = record {
  none_refused = none-refused c.accepted_is_enough.ensures;
  lent = lent c.runs.ensures.join;
  complete = complete c.runs.ensures.frame;
}
