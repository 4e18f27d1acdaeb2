use Rattle.judge.proofs.Masks.{without-bit}
use Rattle.judge.proofs.stretch.without.Goals as goal

pub returns : goal.returns
returns c = λ v. without-bit c.args.mask c.args.node v c.ranges.mask.fits c.requires
