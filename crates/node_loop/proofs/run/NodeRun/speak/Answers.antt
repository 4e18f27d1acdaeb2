use Rattle.std.proofs.Common.{◌≡◌, ◌≤◌, ◌∙◌, List, ap, refl, subst, arith}
use Rattle.node_connections.specs.Heard.{NothingHeard}
use Rattle.node_connections.specs.Lives.{AllGoOut, LiveOn}
use Rattle.node_core.specs.data_link.Port.{frame_of}
use Rattle.node_core.specs.View.{NodeView, state_of}
use Rattle.node_connections.specs.Clients.{is_connected}
use Rattle.node_service.specs.Deeds.{Deed, IsLeaveOfGone}
use Rattle.node_service.specs.Noting.{after_all, sends_if, Did}
use Rattle.node_service.proofs.Became.{are-leaves}
use Rattle.node_service.proofs.Noting.{grown}
use Rattle.node_connections.proofs.Served.{AllEndByWrite}
use Rattle.node_loop.proofs.Speaking.{spoken-start, spoken-next, spoken-end}
use Rattle.node_connections.specs.Said.{NothingSaid}
use Rattle.node_loop.proofs.run.NodeRun.speak.Goals as goal

pub loop-id-init : goal.loop-id-init
loop-id-init g c = (
  refl,
  refl,
  refl,
  refl,
  refl,
  refl,
  record { spoken = spoken-start g.D.P.Pipe.gave g.D.P.Pipe.took g.D.P.Pipe.counts c.args.offers.now c.args.now _; noted = refl },
)

pub loop-id-preserved : goal.loop-id-preserved
loop-id-preserved g c =
    let before = c.loop-id.invariant in
    let reported = c.speak_to-accepted.ensures in
    let sends : NodeView → List Deed = λ x. sends_if c.speak_to-accepted.result c.loop-id.id (frame_of ((state_of x).port c.loop-id.id)) in
    let mid = c.loop-id.notes in
    let new = c.speak_to-accepted.new.notes in (
      reported.node ∙ before.0,
      reported.rest.0 ∙ before.1,
      reported.rest.1 ∙ before.2,
      reported.rest.2 ∙ before.3,
      reported.clients ∙ before.4,
      reported.more ∙ before.5,
      record {
        spoken = spoken-next g.D.P.Pipe.gave g.D.P.Pipe.took g.D.P.Pipe.counts c.args.offers.now c.args.now _ _ _ c.loop-id.id c.speak_to-accepted.result before.6.spoken reported.node reported.let_go reported.spoken reported.silent reported.known reported.others reported.pace;
        noted = grown before.6.spoken.sends (sends c.args.self.now.node) c.args.notes.now mid new before.6.noted (subst (λ x. new ≡ after_all (sends x) mid) before.0 reported.noted);
      },
    )

pub returns-clause-spoken : goal.returns-clause-spoken
returns-clause-spoken g c =
    let self = c.args.self.now in
    let nodes : self.node.registers.ranges.nodes ≡ self.net.nodes = ap (λ s. s.ranges.nodes) self.wired in
    let all : self.node.registers.ranges.nodes ≤ c.loop-id.id = let end = c.loop-id-test.false in let count = c.nodes-id-end.ensures.nodes in omega arith in
    let spoken = c.loop-id.invariant.6 in
    let mid = c.loop-id.notes in
    let new = c.write_all.new.notes in
    let left = subst (λ x. Did (IsLeaveOfGone (is_connected c.write_all.new.clients)) x c.write_all.new.node mid new) c.loop-id.invariant.0 c.write_all.ensures.node in
    record {
      speaks = spoken-end g.D.P.Pipe.gave g.D.P.Pipe.took g.D.P.Pipe.counts c.args.offers.now c.args.now _ _ _ c.loop-id.id all spoken.spoken refl refl;
      leaves = are-leaves (is_connected c.write_all.new.clients) c.args.self.now.node c.write_all.new.node left.became;
      kinds = left.became.kinds;
      noted = grown spoken.spoken.sends left.became.deeds c.args.notes.now mid new spoken.noted left.noted;
    }

pub returns-clause-lives : goal.returns-clause-lives
returns-clause-lives g c =
    subst (λ x. LiveOn g.D.P.Pipe.gave g.D.P.Pipe.took g.D.P.Pipe.counts x c.write_all.new.clients) c.loop-id.invariant.4 c.write_all.ensures.lives

pub returns-clause-nothing : goal.returns-clause-nothing
returns-clause-nothing g c = subst (λ x. NothingSaid g.D.P.Pipe.took x c.write_all.new.clients) c.loop-id.invariant.4 c.write_all.ensures.nothing

pub returns-clause-out : goal.returns-clause-out
returns-clause-out g c = subst (λ x. AllGoOut g.D.P.Pipe.counts x c.write_all.new.clients) c.loop-id.invariant.4 c.write_all.ensures.out

pub returns-clause-heard : goal.returns-clause-heard
returns-clause-heard g c = subst (λ x. NothingHeard g.D.P.Pipe.gave x c.write_all.new.clients) c.loop-id.invariant.4 c.write_all.ensures.heard

pub returns-clause-ends : goal.returns-clause-ends
returns-clause-ends g c =
    subst (λ x. AllEndByWrite g.D.P.Pipe.gave g.D.P.Pipe.took g.D.P.Pipe.counts x c.write_all.new.clients) c.loop-id.invariant.4 c.write_all.ensures.ends

pub returns-clause-more : goal.returns-clause-more
returns-clause-more g c = c.loop-id.invariant.5
