use Rattle.world.specs.SimulatedText.{simulated_start}
use Rattle.run_recording.proofs.recording.recorded.Goals as goal

pub returns-clause-recorded : goal.returns-clause-recorded
returns-clause-recorded g c =
    λ bytes said.
    let start = simulated_start c.args.net.now in
    let begun = rw c.in_ok-world.ensures at c.new-recording.ensures.reading in
    c.last_line.ensures.text start bytes (c.in_ok-read_all.ensures.text start bytes said begun)
