use Rattle.std.proofs.Common.{ap, ◌∙◌}
use Rattle.thread_net.specs.Cables.{row}
use Rattle.thread_net.proofs.prepare.furnish.Goals as goal

pub returns-clause-furnished : goal.returns-clause-furnished
returns-clause-furnished g c = λ w over. c.in_ok-cable_all.ensures.furnished w over (λ x. ap (λ r. row r x) c.reserve_journals.ensures.rows ∙ c.requires.empty x)

pub returns-clause-new : goal.returns-clause-new
returns-clause-new g c = rw c.cable_all.ensures.seats c.reserve_journals.ensures.new

pub returns-clause-room : goal.returns-clause-room
returns-clause-room g c = rw c.cable_all.ensures.seats c.in_ok-total.ensures.room
