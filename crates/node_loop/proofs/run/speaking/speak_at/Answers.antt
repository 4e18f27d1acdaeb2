use Rattle.std.proofs.Common.{refl, arith}
use Rattle.std.proofs.lemmas.List.{length-set}
use Rattle.pace.specs.Plans.{port_of}
use Rattle.node_connections.proofs.Hearing.{both-set, others-set}
use Rattle.node_loop.specs.Speaking.{SpeaksTo, sent_if}
use Rattle.node_loop.proofs.run.speaking.speak_at.Goals as goal

pub gave-requires : goal.gave-requires
gave-requires g c =
    let here = c.requires.0 in
    let few = c.requires.1 in
    omega (arith, here, few)

pub returns-then-is_accepted-clause-spoken : goal.returns-then-is_accepted-clause-spoken
returns-then-is_accepted-clause-spoken g c =
    let taken = c.speak-is_accepted.result in
    both-set
    (SpeaksTo g.P.Pipe.gave g.P.Pipe.took g.P.Pipe.counts c.args.frame.now c.args.offered c.args.now (port_of c.args.pace.now.ports c.args.id) (port_of c.gave.new.self.ports c.args.id) (sent_if taken c.args.frame.now))
    c.args.ports.now.items c.args.id c.index_mut.result.now c.speak-is_accepted.new.self c.requires.0 c.index_mut.ensures.value
    (record { is_taken = taken; port = c.speak-is_accepted.ensures.speaks; reported = rw c.if-is_accepted.true c.gave.ensures.port; sends = refl })

pub returns-then-is_accepted-clause-others : goal.returns-then-is_accepted-clause-others
returns-then-is_accepted-clause-others g c w other = (others-set c.args.ports.now.items c.args.id c.speak-is_accepted.new.self w other, c.gave.ensures.others w other)

pub returns-then-is_accepted-clause-count : goal.returns-then-is_accepted-clause-count
returns-then-is_accepted-clause-count g c = length-set c.args.ports.now.items c.args.id c.speak-is_accepted.new.self

pub returns-then-is_accepted-clause-pace : goal.returns-then-is_accepted-clause-pace
returns-then-is_accepted-clause-pace g c = c.gave.ensures.rest

pub returns-else-is_accepted-clause-spoken : goal.returns-else-is_accepted-clause-spoken
returns-else-is_accepted-clause-spoken g c =
    let taken = c.speak-is_accepted.result in
    let was = port_of c.args.pace.now.ports c.args.id in
    both-set (SpeaksTo g.P.Pipe.gave g.P.Pipe.took g.P.Pipe.counts c.args.frame.now c.args.offered c.args.now was was (sent_if taken c.args.frame.now)) c.args.ports.now.items c.args.id c.index_mut.result.now
    c.speak-is_accepted.new.self c.requires.0 c.index_mut.ensures.value (record { is_taken = taken; port = c.speak-is_accepted.ensures.speaks; reported = rw c.if-is_accepted.false refl; sends = refl })

pub returns-else-is_accepted-clause-others : goal.returns-else-is_accepted-clause-others
returns-else-is_accepted-clause-others g c w other = (others-set c.args.ports.now.items c.args.id c.speak-is_accepted.new.self w other, refl)

pub returns-else-is_accepted-clause-count : goal.returns-else-is_accepted-clause-count
returns-else-is_accepted-clause-count g c = length-set c.args.ports.now.items c.args.id c.speak-is_accepted.new.self

pub returns-else-is_accepted-clause-pace : goal.returns-else-is_accepted-clause-pace
returns-else-is_accepted-clause-pace g c = (refl, refl)
