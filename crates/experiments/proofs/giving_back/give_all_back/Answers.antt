use Rattle.std.proofs.Common.{◌∙◌, ap, arith}
use Rattle.judge.specs.configuration.ConfigurationView.{world_of}
use Rattle.experiments.specs.GivenBack.{back_at}
use Rattle.experiments.proofs.Backs.{all-leads, all-split, backs_from}
use Rattle.experiments.proofs.giving_back.give_all_back.Goals as goal

pub loop-node-preserved : goal.loop-node-preserved
loop-node-preserved g c =
    let more = c.in_ok-give_back.ensures in
    let now = c.loop-node.lending in
    let so_far = c.loop-node.invariant in
    let parts = all-split now.more (world_of now.configuration) now.left c.loop-node.node c.args.nodes _ _ _ c.loop-node-test.true
    more.went.world_is more.went.left_is more.went.more_is in
    record {
      taken = c.taking.ensures _ _ _ _ _ _ _ so_far.taken (ap (λ b. b.0) parts) more.taken;
      leads = so_far.leads ∙ all-leads (world_of now.configuration) (world_of c.give_back.new.lending.configuration) (backs_from now.more (world_of now.configuration) now.left c.loop-node.node c.args.nodes).0
          (back_at now.more (world_of now.configuration) now.left c.loop-node.node).0 _ more.went.world_is (ap (λ b. b.0) parts);
      lefts = so_far.lefts ∙ ap (λ b. b.1) parts;
      mores = more.went.more_is ∙ so_far.mores;
      failures = omega (arith, so_far.failures, more.cause);
    }
