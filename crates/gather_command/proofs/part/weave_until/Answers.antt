use Rattle.std.proofs.Common.{◌≡◌, true, arith, []}
use Rattle.gather_command.specs.Reading.{MayFail}
use Rattle.gather_command.proofs.Parts.{none-passed, passed-more, passed-all}
use Rattle.gather_command.proofs.part.weave_until.Goals as goal

pub loop-init : goal.loop-init
loop-init g c = ([], none-passed (MayFail g.S.Source.failures) c.args.instant c.args.weaving.now)

pub loop-preserved : goal.loop-preserved
loop-preserved g c =
    let (ms, has) = c.loop.invariant in
    let more : c.in_ok-pass_before.field-0 ≡ true = grind arith in
    passed-more (MayFail g.S.Source.failures) c.args.instant c.args.weaving.now c.loop.weaving c.pass_before.new.weaving ms
    c.in_ok-pass_before.field-0 more has c.in_ok-pass_before.ensures

pub returns-then-not-branch-clause-passed : goal.returns-then-not-branch-clause-passed
returns-then-not-branch-clause-passed g c =
    let (ms, has) = c.loop.invariant in (
      ms,
      passed-all (MayFail g.S.Source.failures) c.args.instant c.args.weaving.now c.loop.weaving c.pass_before.new.weaving ms
          c.in_ok-pass_before.field-0 c.if-not-branch.true has c.in_ok-pass_before.ensures,
    )
