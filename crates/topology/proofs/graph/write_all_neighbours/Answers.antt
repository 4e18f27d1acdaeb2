use Rattle.std.proofs.Common.{◌≡◌, arith, ap, refl, sym, ◌∙◌, ◌≤◌, ◌<◌, length, length-set}
use Rattle.std.proofs.lemmas.List.Elements.{All-set}
use Rattle.std.specs.Vec.{vec_capacity}
use Rattle.std.proofs.lemmas.List.{take_all}
use Rattle.topology.specs.Layout.{rows_of}
use Rattle.topology.proofs.RowsWritten.{rows_more}
use Rattle.topology.proofs.graph.write_all_neighbours.Goals as goal

pub loop-v-preserved : goal.loop-v-preserved
loop-v-preserved g c =
    let within : c.loop-v.v < length c.loop-v.rows = omega (arith, c.loop-v.invariant.0) in
    let was = c.loop-v.invariant.1 c.from.result c.index-rows-from.result (omega (arith, c.from.ensures)) in
    let room : c.args.nodes ≤ vec_capacity c.write_neighbours.new.row = omega (arith, c.write_neighbours.ensures.room, ap vec_capacity c.index-rows-from.is, was) in
    rw c.from.ensures (
      length-set c.loop-v.rows c.loop-v.v c.write_neighbours.new.row ∙ c.loop-v.invariant.0,
      All-set (λ row. c.args.nodes ≤ vec_capacity row) c.loop-v.rows c.loop-v.v c.write_neighbours.new.row room c.loop-v.invariant.1,
      rows_more c.args.nodes c.args.edges.now c.loop-v.rows c.loop-v.v c.write_neighbours.new.row within c.loop-v.invariant.2 c.write_neighbours.ensures.neighbours,
    )

pub loop-v-init : goal.loop-v-init
loop-v-init g c = (c.requires.all, c.requires.room, refl)

pub returns-clause-neighbours : goal.returns-clause-neighbours
returns-clause-neighbours g c =
    let all : c.loop-v.v ≡ c.args.nodes = omega arith in
    let long : length c.loop-v.rows ≤ c.loop-v.v = omega (arith, c.loop-v.invariant.0) in
    rw all at (ap rows_of (sym (take_all c.loop-v.v c.loop-v.rows long)) ∙ c.loop-v.invariant.2)

pub returns-clause-room : goal.returns-clause-room
returns-clause-room g c = c.loop-v.invariant.1

pub write_neighbours-requires : goal.write_neighbours-requires
write_neighbours-requires g c = c.loop-v.invariant.1 c.from.result c.index-rows-from.result (omega (arith, c.from.ensures, c.loop-v.invariant.0))
