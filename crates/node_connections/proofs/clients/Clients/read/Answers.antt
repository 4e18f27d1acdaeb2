use Rattle.node_connections.proofs.Written.{none-still, others-still, there-still}
use Rattle.node_connections.proofs.clients.Clients.read.Goals as goal

pub invariant_of-self : goal.invariant_of-self
invariant_of-self g c =
    let self = c.args.self.now in
    let client = c.in-Some.client.now in
    record {
      room = self.room;
      answers_are = self.answers_are;
      rooms = self.rooms;
      tickets = none-still c.args.self.now.table c.args.ticket client (record { pipe = c.try_read.new.self; reader = client.reader }) c.in-Some.ensures.value self.tickets;
    }

pub returns-in-Some-clause-same : goal.returns-in-Some-clause-same
returns-in-Some-clause-same g c =
    let client = c.in-Some.client.now in
    there-still c.args.self.now.table c.args.ticket client (record { pipe = c.try_read.new.self; reader = client.reader }) c.in-Some.ensures.value

pub returns-in-Some-clause-others : goal.returns-in-Some-clause-others
returns-in-Some-clause-others g c =
    let client = c.in-Some.client.now in
    others-still c.args.self.now.table c.args.ticket client (record { pipe = c.try_read.new.self; reader = client.reader }) c.in-Some.ensures.value
