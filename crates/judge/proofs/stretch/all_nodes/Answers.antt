use Rattle.judge.proofs.Masks.{all-nodes}
use Rattle.judge.proofs.stretch.all_nodes.Goals as goal

pub returns : goal.returns
returns c = λ v. all-nodes c.args.nodes v c.requires.few
