use Rattle.gather_command.proofs.StretchesFaithful.{list-refused, set-up-stands, list-complete}
use Rattle.gather_command.proofs.laws.stretches_are_faithful.Goals as goal

pub returns : goal.returns
returns c = record {
  none_refused = list-refused c.accepted_is_enough.ensures c.facts_join.ensures;
  stands = set-up-stands c.runs.ensures.join c.runs.ensures.frame c.in_range.ensures c.start.ensures c.set_ups_are_reached.ensures;
  complete = list-complete c.runs.ensures.frame;
}
