use Rattle.std.proofs.Common.{List}
use Rattle.gather_command.specs.Reading.{MayFail}
use Rattle.gather_command.specs.Weave.{Moment}
use Rattle.gather_command.proofs.Parts.{HavePassed}
use Rattle.gather_command.proofs.part.weave_until.Given as goal

-- these entries passed so far
abbrev pub invariant-loop : goal.invariant-loop
invariant-loop g l = (ms : List Moment) × HavePassed (MayFail g.S.Source.failures) l.instant l.fn.weaving ms l.weaving
