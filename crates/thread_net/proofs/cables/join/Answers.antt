use Rattle.std.proofs.Common.{arith}
use Rattle.std.proofs.lemmas.Grind.{common_steps}
use Rattle.thread_net.proofs.cables.join.Goals as goal

pub returns-clause-cabled : goal.returns-clause-cabled
returns-clause-cabled g c =
    let it = c.in_ok-near.ensures in
    record {
      near = c.in_ok-near.near;
      far = c.in_ok-near.far;
      to_far = it.neighbours.0;
      to_near = it.neighbours.1;
      said = it.said;
      cable = it.cable;
      grown = λ x. let one = c.in_ok-plug.ensures.rows x in let two = c.in_ok-plug-2.ensures.rows x in let order = c.requires.order in grind (arith, common_steps, one, two, order);
    }
