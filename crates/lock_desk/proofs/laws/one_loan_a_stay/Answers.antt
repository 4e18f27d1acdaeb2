use Rattle.lock_desk.proofs.Stay.{lends_no_more}
use Rattle.lock_desk.proofs.laws.one_loan_a_stay.Goals as goal

pub returns-clause-kept_off : goal.returns-clause-kept_off
returns-clause-kept_off c = lends_no_more
