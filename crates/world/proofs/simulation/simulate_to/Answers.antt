use Rattle.std.proofs.Common.{Ok, Err, []}
use Rattle.world.specs.SimulatedText.{simulated_start}
use Rattle.world.specs.UnderWay.{IsUnderWay}
use Rattle.world.proofs.SimulatedEnd.{fault_is, not_read, all_was_read}
use Rattle.world.proofs.simulation.simulate_to.Given as given
use Rattle.world.proofs.simulation.simulate_to.Goals.{After-new-simulation}
use Rattle.world.proofs.simulation.simulate_to.Goals as goal

-- the simulation has begun, and nothing is read
begun : (g : given.Over) (c : After-new-simulation g) → IsUnderWay (simulated_start c.args.net.now) [] (g.W.Sink.taken c.args.sink.now) (g.W.Sink.taken c.args.sink.now) c.new-simulation.result
begun g c = rw c.in_ok-world.ensures at (c.new-simulation.ensures.under_way (g.W.Sink.taken c.args.sink.now))

pub returns-in_err-read_all-clause-text : goal.returns-in_err-read_all-clause-text
returns-in_err-read_all-clause-text g c =
    λ bytes said.
    let start = simulated_start c.args.net.now in
    let fault = c.in_err-read_all.field-0.0 in
    let before = g.W.Sink.taken c.args.sink.now in
    rw (fault_is c.from_residual-in_err-read_all.result fault c.from_residual-in_err-read_all.ensures.1)
    (not_read start bytes _ before _ _ fault (c.in_err-read_all.ensures.text start bytes before said (begun g (goal.at.returns-in_err-read_all-clause-text g c).After-new-simulation)))

pub returns-in_err-summary-clause-text : goal.returns-in_err-summary-clause-text
returns-in_err-summary-clause-text g c =
    λ bytes said.
    let start = simulated_start c.args.net.now in
    let fault = c.in_err-summary.field-0.0 in
    let before = g.W.Sink.taken c.args.sink.now in
    let read = c.in_ok-read_all.ensures.text start bytes before said (begun g (goal.at.returns-in_err-summary-clause-text g c).After-new-simulation) in
    rw (fault_is c.from_residual-in_err-summary.result fault c.from_residual-in_err-summary.ensures.1)
    (all_was_read start bytes _ before _ (Err fault) read.0 read.1 c.in_err-summary.ensures.err (c.in_err-summary.ensures.text start bytes before read.2))

pub returns-clause-text : goal.returns-clause-text
returns-clause-text g c =
    λ bytes said.
    let start = simulated_start c.args.net.now in
    let before = g.W.Sink.taken c.args.sink.now in
    let read = c.in_ok-read_all.ensures.text start bytes before said (begun g (goal.at.returns-clause-text g c).After-new-simulation) in
    all_was_read start bytes _ before _ (Ok c.in_ok-summary.summary) read.0 read.1 c.in_ok-summary.ensures.err (c.in_ok-summary.ensures.text start bytes before read.2)

pub returns-clause-led : goal.returns-clause-led
returns-clause-led g c =
    λ bytes said.
    let start = simulated_start c.args.net.now in
    let before = g.W.Sink.taken c.args.sink.now in
    let read = c.in_ok-read_all.ensures.text start bytes before said (begun g (goal.at.returns-clause-led g c).After-new-simulation) in
    rw c.into_world.ensures (c.in_ok-summary.ensures.led start bytes before read.2)
