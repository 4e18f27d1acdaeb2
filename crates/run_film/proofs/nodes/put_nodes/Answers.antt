use Rattle.std.proofs.Common.{◌<◌, arith}
use Rattle.run_film.specs.declared.track.Track.TheVariants.{Parent}
use Rattle.run_film.specs.Beats.{film_of}
use Rattle.run_film.specs.Films.{drawn, Keeps}
use Rattle.run_film.specs.Tracks.{track_shown}
use Rattle.run_film.proofs.Films.{grows_more, grows_none, keeps_pushed, node_added, node_kept, played_here, played_kept}
use Rattle.run_film.proofs.nodes.put_nodes.Goals as goal

pub loop-v-init : goal.loop-v-init
loop-v-init c = grows_none _ _

pub loop-v-preserved : goal.loop-v-preserved
loop-v-preserved c =
    grows_more _ (λ old new u keeps was. played_kept old new _ keeps was) _ _ _ _ c.loop-v.invariant (keeps_pushed _ _ _ c.in_ok-put_track.ensures)
    (played_here _ _ (track_shown (Parent c.loop-v.v) (film_of c.args.material.shown)) _ _ c.in_ok-put_track.ensures)

pub loop-v-2-init : goal.loop-v-2-init
loop-v-2-init c = (
  λ u below. c.loop-v.invariant.each u (omega (arith, below, c.nodes-v-end.ensures.nodes, c.loop-v-test.false, c.loop-v.auto.v-end)),
  record { each = λ u below. absurd (omega (arith, below)); keeps = c.loop-v.invariant.keeps },
)

pub loop-v-2-preserved : goal.loop-v-2-preserved
loop-v-2-preserved c =
    let film = film_of c.args.material.shown in
    let adds = c.in_ok-put_node.ensures in
    let keeps : Keeps (drawn c.loop-v-2.groups.items) (drawn c.put_node.new.groups.items) = (_, adds.are) in
    let within : c.loop-v-2.v < c.args.material.net.now.nodes = omega (arith, c.nodes-v-end-2.ensures.nodes, c.loop-v-2-test.true) in (
      λ u below. played_kept _ _ _ keeps (c.loop-v-2.invariant.0 u below),
      grows_more _ (λ old new u keeps was. node_kept old new film u keeps was) _ _ _ _ c.loop-v-2.invariant.1 keeps
          (node_added _ _ film c.loop-v-2.v adds (c.loop-v-2.invariant.0 c.loop-v-2.v within)),
    )

pub returns-clause-nodes : goal.returns-clause-nodes
returns-clause-nodes c = λ u below. c.loop-v-2.invariant.1.each u (omega (arith, below, c.nodes-v-end-2.ensures.nodes, c.loop-v-2-test.false, c.loop-v-2.auto.v-end))

pub returns-clause-keeps : goal.returns-clause-keeps
returns-clause-keeps c = c.loop-v-2.invariant.1.keeps
