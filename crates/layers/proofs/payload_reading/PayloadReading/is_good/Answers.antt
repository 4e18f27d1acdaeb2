use Rattle.layers.proofs.Payloads.{some-admits, admits-fits}
use Rattle.layers.proofs.payload_reading.PayloadReading.is_good.Goals as goal

pub returns : goal.returns
returns c = (some-admits c.args.self, admits-fits c.args.self)
