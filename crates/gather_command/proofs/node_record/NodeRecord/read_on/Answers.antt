use Rattle.std.proofs.Common.{arith}
use Rattle.gather_command.specs.Reading.{MayFail}
use Rattle.gather_command.proofs.Files.{read-further, nameless, stops-with}
use Rattle.gather_command.proofs.node_record.NodeRecord.read_on.Goals as goal

pub returns-in-Err-clause-read : goal.returns-in-Err-clause-read
returns-in-Err-clause-read g c =
    let now = c.self.inside.present in
    let new = c.next.new.self in
    rw (← c.self.view_is)
    (stops-with (MayFail g.S.Source.failures) now.last c.self.inside.frames now.bytes c.in-Err.stop c.flaw_for.result new.bytes new.last
    c.flaw_for.ensures c.in-Err.ensures.read c.in-Err.ensures.cause)

pub returns-in-Some-clause-read : goal.returns-in-Some-clause-read
returns-in-Some-clause-read g c =
    let now = c.self.inside.present in
    let new = c.next.new.self in
    rw (← c.self.view_is)
    (read-further (MayFail g.S.Source.failures) now.last c.self.inside.frames now.bytes c.in-Ok.entry c.in-Some.noted new.bytes new.last
    c.lengthen.new.self c.in-Ok.ensures.read c.in-Some.ensures.long c.lengthen.ensures.after)

pub returns-in_default-clause-read : goal.returns-in_default-clause-read
returns-in_default-clause-read g c =
    let now = c.self.inside.present in
    let new = c.next.new.self in
    rw (← c.self.view_is)
    (nameless (MayFail g.S.Source.failures) now.last c.self.inside.frames now.bytes c.in-Ok.entry new.bytes new.last
    c.in-Ok.ensures.read (grind arith))
