use Rattle.std.proofs.Common.{◌∙◌}
use Rattle.std.proofs.lemmas.Result.{IfOk-weaker, IfErr-weaker}
use Rattle.gather_command.specs.declared.fault.GatherFault.{GatherFault}
use Rattle.gather_command.proofs.Gathers.{broken-later}
use Rattle.gather_command.proofs.part.weave_from.Goals as goal

pub set_there-requires : goal.set_there-requires
set_there-requires g c =
    let (front, passed) = c.in_ok-weave_until.ensures.passed in passed.led.nodes ∙ c.requires

pub returns-clause-woven : goal.returns-clause-woven
returns-clause-woven g c =
    let (front, passed) = c.in_ok-weave_until.ensures.passed in
    IfOk-weaker c.weave_out.result _ _
    (λ x rest. record {
      front = front;
      mid = c.weave_until.new.weaving;
      moved = c.set_there.new.weaving;
      between = c.set_there.new.sink;
      passed = passed;
      set = c.in_ok-set_there.ensures.set;
      rest = rest;
    })
    c.weave_out.ensures.woven

pub returns-clause-broken : goal.returns-clause-broken
returns-clause-broken g c =
    let failures = g.S.EventSink.failures in
    let (scene, set, same) = c.in_ok-set_there.ensures.set in
    IfErr-weaker c.weave_out.result _ _
    (λ (f : GatherFault) x. broken-later f _ (failures c.set_there.new.sink) _ set.counted x)
    c.weave_out.ensures.broken
