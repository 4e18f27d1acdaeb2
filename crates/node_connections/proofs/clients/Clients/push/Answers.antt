use Rattle.std.proofs.Common.{refl}
use Rattle.std.specs.Option.{option_to_list}
use Rattle.node_connections.specs.Lives.{Stays}
use Rattle.node_connections.proofs.Heard.{heard-pushed}
use Rattle.node_connections.proofs.Lives.{stay, touched-at}
use Rattle.node_connections.proofs.clients.Clients.push.Goals as goal

pub returns-in_err-get_mut-clause-lives : goal.returns-in_err-get_mut-clause-lives
returns-in_err-get_mut-clause-lives g c = stay g.P.Pipe.gave g.P.Pipe.took g.P.Pipe.counts c.args.self.now c.args.self.now refl

pub returns-clause-lives : goal.returns-clause-lives
returns-clause-lives g c t =
    let client = c.in_ok-get_mut.field-0.now in
    touched-at g.P.Pipe.gave g.P.Pipe.took g.P.Pipe.counts c.args.self.now.table c.args.ticket client (record { pipe = client.pipe; reader = c.push.new.self }) c.in_ok-get_mut.ensures.value Stays t

pub returns-clause-heard : goal.returns-clause-heard
returns-clause-heard g c =
    let client = c.in_ok-get_mut.field-0.now in
    heard-pushed g.P.Pipe.gave c.args.byte (option_to_list c.push.result) c.args.self.now.table c.args.ticket client (record { pipe = client.pipe; reader = c.push.new.self }) c.in_ok-get_mut.ensures.value refl
    (λ bytes stands. (c.push.ensures.stands bytes stands, c.push.ensures.line bytes stands))
