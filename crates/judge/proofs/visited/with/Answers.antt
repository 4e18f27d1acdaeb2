use Rattle.judge.proofs.Masks.{with-bit}
use Rattle.judge.proofs.visited.with.Goals as goal

pub returns : goal.returns
returns c = λ v. with-bit c.args.mask c.args.node v c.requires
