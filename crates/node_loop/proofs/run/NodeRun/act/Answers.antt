use Rattle.std.proofs.Common.{ap, refl, ◌∙◌}
use Rattle.node_connections.proofs.Lives.{still-join}
use Rattle.node_loop.specs.Moments.{moment_of}
use Rattle.node_service.specs.Noting.{emptied}
use Rattle.node_loop.proofs.Noting.{turn-grown}
use Rattle.node_loop.proofs.Turning.{turn-leads}
use Rattle.node_loop.proofs.run.NodeRun.act.Goals as goal

abbrev pub returns-clause-noted : goal.returns-clause-noted
returns-clause-noted g c =
    let listens = c.listen.ensures.listens.did in
    let acts = c.tick-ticked.ensures.node in
    let speaks = c.speak.ensures.spoken in
    record {
      turns = record {
        heard = moment_of c.listen.new.self.node c.listen.new.self.ports.items c.listen.new.self.pace c.listen.new.self.let_go;
        acted = moment_of c.tick-ticked.new.self.node c.tick-ticked.new.self.ports.items c.tick-ticked.new.self.pace c.tick-ticked.new.self.let_go;
        plan = c.plan-plan.result;
        listens = listens.listens;
        acts = acts.acts;
        ports = ap (λ ports. ports.items) c.tick-ticked.ensures.ports.0;
        remembers = c.tick-ticked.ensures.pace;
        plans = c.plan-plan.ensures;
        speaks = speaks.speaks;
        leaves = speaks.leaves;
        account = _;
        account_is = refl;
        leads = turn-leads c.tick-ticked.result c.args.self.now.node listens.listens.heard c.listen.new.self.node c.tick-ticked.new.self.node c.speak.new.self.node speaks.speaks.sends listens.listens.hears.takes listens.listens.serves acts.acts
            speaks.speaks.leads speaks.leaves;
      };
      noted = turn-grown listens.listens.hears.takes.deeds listens.listens.serves.deeds acts.acts.leaves.deeds speaks.speaks.sends speaks.leaves.deeds (emptied c.args.notes.now) c.listen.new.notes c.tick-ticked.new.notes c.speak.new.notes
          listens.noted acts.noted speaks.noted;
    }

pub returns-clause-lives : goal.returns-clause-lives
returns-clause-lives g c =
    let start = c.args.self.now.clients in
    let heard = c.listen.new.self.clients in
    let acted = c.tick-ticked.new.self.clients in
    let spoken = c.speak.new.self.clients in
    still-join g.D.P.Pipe.gave g.D.P.Pipe.took g.D.P.Pipe.counts start acted spoken
    (still-join g.D.P.Pipe.gave g.D.P.Pipe.took g.D.P.Pipe.counts start heard acted c.listen.ensures.lives c.tick-ticked.ensures.lives) c.speak.ensures.lives

pub returns-clause-says : goal.returns-clause-says
returns-clause-says g c = record {
  did = returns-clause-noted g c;
  heard = c.listen.new.self.clients;
  acted = c.tick-ticked.new.self.clients;
  answers = c.listen.ensures.listens.answers;
  reported = c.tick-ticked.ensures.reported;
  writes = record { lives = c.speak.ensures.lives; hears_nothing = c.speak.ensures.heard; says_nothing = c.speak.ensures.nothing; goes_out = c.speak.ensures.out; ends = c.speak.ensures.ends };
  gone = c.tick-ticked.ensures.node.kinds;
  gone_at_last = c.speak.ensures.spoken.kinds;
  more = λ some. c.speak.ensures.more ∙ (c.tick-ticked.ensures.more ∙ c.listen.ensures.listens.more some);
}
