use Rattle.leb128.proofs.Numbers.{number-again, number-cut, number-takes, row-again, row-cut, row-takes}
use Rattle.leb128.proofs.laws.one_reading.Goals as goal

pub returns-clause-again : goal.returns-clause-again
returns-clause-again c = record { one = number-again; row = row-again }

pub returns-clause-cut : goal.returns-clause-cut
returns-clause-cut c = record { one = number-cut; row = row-cut }

pub returns-clause-only : goal.returns-clause-only
returns-clause-only c = record { one = number-takes; row = row-takes }
