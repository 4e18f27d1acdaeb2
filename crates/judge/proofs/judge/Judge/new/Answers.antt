use Rattle.std.proofs.Common.{◌∙◌, [], ap, sym, subst, IsTrue}
use Rattle.configuration.specs.ConfigurationView.{world_of}
use Rattle.judge.specs.Judging.{IsJudging}
use Rattle.judge.specs.Stretch.{IsKept}
use Rattle.judge.specs.Visited.{AreVisited}
use Rattle.judge.proofs.Judging.{judging-starts}
use Rattle.judge.proofs.JudgeSteps.{judging-looked, room-cleared, room-empty}
use Rattle.topology.specs.Network.{are_joined}
use Rattle.judge.proofs.judge.Judge.new.Goals as goal

pub begin-requires : goal.begin-requires
begin-requires g c =
    let net = c.net.ensures in
    room-empty (world_of c.world.inside.configuration).net c.lay.new.self (c.lay.ensures.nodes ∙ ap (λ n. n.nodes) net)
    (λ u v joined. c.lay.ensures.placed u v (subst (λ n. IsTrue (are_joined n.edges u v)) (sym net) joined)) c.lay.ensures.empty

pub lay-requires : goal.lay-requires
lay-requires g c = c.world.invariant ∙ sym (ap (λ n. n.nodes) c.net.ensures)

pub returns-clause-judging : goal.returns-clause-judging
returns-clause-judging g c =
    let start = world_of c.args.world in
    let kept = subst (λ w. IsKept (world_of w) [] c.begin.new.stretch) c.world.view_is c.begin.ensures.kept in
    let seen = judging-starts c.below.ensures start c.begin.new.stretch c.ranges_hold.ensures kept in
    let now = subst (λ w. IsJudging start [] (world_of w) c.begin.new.stretch 0 0) (sym c.world.view_is) seen in
    record {
      judging = subst (λ s. IsJudging start [] (world_of c.world.inside.configuration) s 0 0) (sym c.clear_looked.ensures)
          (judging-looked start [] (world_of c.world.inside.configuration) c.begin.new.stretch 0 0 0 now);
      visited = subst (λ w. AreVisited (world_of w) [] c.privileged_nodes-visited.result) c.world.view_is c.privileged_nodes-visited.ensures;
    }

pub invariant_of-result : goal.invariant_of-result
invariant_of-result g c = room-cleared (world_of c.world.inside.configuration).net c.begin.new.stretch c.clear_looked.new.self c.clear_looked.ensures c.begin.ensures.room
