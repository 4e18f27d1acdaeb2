use Rattle.std.specs.Io.Buffered.{writer_contents}
use Rattle.command_parts.proofs.EventLines.{line-appended}
use Rattle.command_parts.proofs.event_text.EventTextEventSink.take.Goals as goal

pub returns-in-Ok-clause-taken : goal.returns-in-Ok-clause-taken
returns-in-Ok-clause-taken g c =
    line-appended (writer_contents g.W.Write.contents c.args.self.now.writer) (writer_contents g.W.Write.contents c.writeln.new.self) c.args.event.now
    c.in-Ok.ensures.bytes
