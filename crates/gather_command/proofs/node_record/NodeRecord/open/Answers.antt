use Rattle.std.proofs.Common.{sym, subst, Result, Ok}
use Rattle.flight_recorder.specs.declared.recorder.Side.TheVariants.{Second}
use Rattle.gather_command.specs.declared.fault.GatherFault.{GatherFault}
use Rattle.gather_command.specs.Reading.{MayFail, Reads, Begins}
use Rattle.gather_command.specs.View.{NodeRecordView}
use Rattle.gather_command.specs.Records.{IsOpened}
use Rattle.gather_command.proofs.Files.{begun-as}
use Rattle.gather_command.proofs.Opening.{opened}
use Rattle.gather_command.proofs.Gathers.{reads-before, begins-before}
use Rattle.gather_command.proofs.node_record.NodeRecord.open.Goals as goal

pub returns-clause-opened : goal.returns-clause-opened
returns-clause-opened g c =
    let rest = g.S.Source.rest in
    let fails = MayFail g.S.Source.failures in
    let before = g.R.Records.opens c.args.records.now in
    let after = g.R.Records.opens c.begin_file.new.records in
    let same = c.in_ok-first.ensures.same in
    let mark = c.args.mark in
    let node = c.args.node in
    subst (λ (r : Result NodeRecordView GatherFault). IsOpened fails (Reads before rest fails) (Begins before rest) mark node r)
    (sym c.of_files.ensures)
    (opened fails (Reads before rest fails) (Begins before rest) mark node c.in_ok-first.first c.in_ok-second.second
    c.in_ok-first.ensures.begun
    (begun-as fails (Reads after rest fails) (Reads before rest fails) (Begins after rest) (Begins before rest) mark
    (record { node = node; side = Second }) (Ok c.in_ok-second.second)
    (λ es flaw x. reads-before before after rest fails same node Second es flaw x)
    (λ e x. begins-before before after rest same node Second e x)
    c.in_ok-second.ensures.begun))
