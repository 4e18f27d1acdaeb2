use Rattle.std.proofs.Common.{refl, ◌∙◌}
use Rattle.std.proofs.lemmas.Bool.{or_left}
use Rattle.node_connections.proofs.Lives.{still-join}
use Rattle.node_loop.specs.Moments.{moment_of}
use Rattle.node_service.specs.Noting.{emptied}
use Rattle.node_loop.proofs.Noting.{attend-grown}
use Rattle.node_loop.proofs.Turning.{attend-leads}
use Rattle.node_loop.proofs.run.NodeRun.attend.Goals as goal

abbrev pub returns-clause-noted : goal.returns-clause-noted
returns-clause-noted g c =
    let listens = c.listen.ensures.listens.did in
    let speaks = c.speak.ensures.spoken in
    record {
      attends = record {
        heard = moment_of c.listen.new.self.node c.listen.new.self.ports.items c.listen.new.self.pace c.listen.new.self.let_go;
        plan = c.plan-plan.result;
        listens = listens.listens;
        plans = c.plan-plan.ensures;
        speaks = speaks.speaks;
        leaves = speaks.leaves;
        account = _;
        account_is = refl;
        leads = attend-leads c.args.self.now.node listens.listens.heard c.listen.new.self.node c.speak.new.self.node speaks.speaks.sends listens.listens.hears.takes listens.listens.serves speaks.speaks.leads speaks.leaves;
      };
      noted = attend-grown listens.listens.hears.takes.deeds listens.listens.serves.deeds speaks.speaks.sends speaks.leaves.deeds (emptied c.args.notes.now) c.listen.new.notes c.speak.new.notes listens.noted speaks.noted;
    }

pub returns-clause-attends : goal.returns-clause-attends
returns-clause-attends g c = (returns-clause-noted g c).attends

pub returns-clause-lives : goal.returns-clause-lives
returns-clause-lives g c =
    still-join g.D.P.Pipe.gave g.D.P.Pipe.took g.D.P.Pipe.counts c.args.self.now.clients c.listen.new.self.clients c.speak.new.self.clients c.listen.ensures.lives c.speak.ensures.lives

pub returns-clause-says : goal.returns-clause-says
returns-clause-says g c = record {
  did = returns-clause-noted g c;
  heard = c.listen.new.self.clients;
  answers = c.listen.ensures.listens.answers;
  writes = record { lives = c.speak.ensures.lives; hears_nothing = c.speak.ensures.heard; says_nothing = c.speak.ensures.nothing; goes_out = c.speak.ensures.out; ends = c.speak.ensures.ends };
  gone = c.speak.ensures.spoken.kinds;
  more = λ some. or_left _ c.plan-plan.result.ticks (c.speak.ensures.more ∙ c.listen.ensures.listens.more some);
}
