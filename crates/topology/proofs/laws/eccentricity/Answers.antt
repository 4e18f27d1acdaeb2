use Rattle.topology.proofs.Eccentricity.{distances-within, eccentricity-is, eccentricity-below, sharp-within}
use Rattle.topology.proofs.laws.eccentricity.Goals as goal

pub returns : goal.returns
returns c = record { within = distances-within; is = eccentricity-is; below = eccentricity-below; sharp = sharp-within }
