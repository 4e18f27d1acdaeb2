use Rattle.std.proofs.Common.{◌∙◌, sym, []}
use Rattle.gather_command.specs.Reading.{MayFail}
use Rattle.gather_command.proofs.Stretches.{read-nothing, read-more, read-all}
use Rattle.gather_command.proofs.stretch.read_through.Goals as goal

pub loop-init : goal.loop-init
loop-init g c = ([], read-nothing (MayFail g.S.Source.failures) c.args.opened.now c.args.greatest)

pub returns-in_default-clause-read : goal.returns-in_default-clause-read
returns-in_default-clause-read g c =
    let (es, so_far) = c.loop.invariant in
    read-all (MayFail g.S.Source.failures) c.args.opened.now c.loop.opened c.args.greatest c.loop.latest es
    (sym c.head.ensures ∙ c.in_default.is) so_far

pub loop-preserved : goal.loop-preserved
loop-preserved g c =
    let (es, so_far) = c.loop.invariant in
    read-more (MayFail g.S.Source.failures) c.args.opened.now c.loop.opened c.advance.new.self c.args.greatest c.loop.latest
    c.max-latest.result es c.in-Some.entry (sym c.head.ensures ∙ c.in-Some.is) c.max-latest.ensures c.advance.ensures so_far
