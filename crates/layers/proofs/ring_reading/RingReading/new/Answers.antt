use Rattle.layers.proofs.Rings.{head-follows}
use Rattle.layers.proofs.ring_reading.RingReading.new.Goals as goal

pub returns-clause-follows : goal.returns-clause-follows
returns-clause-follows c = head-follows c.args.modulus c.args.head
