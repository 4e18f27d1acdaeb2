use Rattle.std.proofs.Common.{◌≡◌, ◌∙◌, ◌<◌, ℕ, ap, sym, refl, length, get_or}
use Rattle.registers.specs.topology.At.{at}
use Rattle.registers.specs.Registers.{RegistersView, value_of}
use Rattle.node_core.proofs.Moves.{standing, none_moved, moved_one_more, stayed_one_more, all_moved}
use Rattle.node_core.proofs.machines.move_machines.Goals as goal
use Rattle.node_core.proofs.machines.move_machines.Goals.{then-may_move, else-may_move}

pub loop-place-init : goal.loop-place-init
loop-place-init g c = none_moved c.args.registers.now c.args.tree.now c.special-chosen.result

pub bounds-neighbours-place : goal.bounds-neighbours-place
bounds-neighbours-place g c =
    let same : c.neighbours.result.now ≡ c.neighbours-place-end.result.now = c.neighbours.ensures.neighbours ∙ ap (λ r. r.neighbours) c.loop-place.invariant.rest ∙ sym c.neighbours-place-end.ensures.neighbours in
    rw same c.loop-place-test.true

pub may_move-requires : goal.may_move-requires
may_move-requires g c =
    let near : c.loop-place.registers.neighbours ≡ c.neighbours-place-end.result.now = ap (λ r. r.neighbours) c.loop-place.invariant.rest ∙ sym c.neighbours-place-end.ensures.neighbours in
    let within : c.loop-place.place < length c.loop-place.registers.neighbours = rw near c.loop-place-test.true in
    rw c.neighbours.ensures.neighbours (c.neighbours.ensures.registers.neighbours_in c.loop-place.place 0 within)

pub moved_value-moved-requires : goal.moved_value-moved-requires
moved_value-moved-requires g c =
    let near : c.loop-place.registers.neighbours ≡ c.neighbours-place-end.result.now = ap (λ r. r.neighbours) c.loop-place.invariant.rest ∙ sym c.neighbours-place-end.ensures.neighbours in
    let within : c.loop-place.place < length c.loop-place.registers.neighbours = rw near c.loop-place-test.true in
    rw c.neighbours.ensures.neighbours (c.neighbours.ensures.registers.neighbours_in c.loop-place.place 0 within)

pub write_value-requires-clause-neighbour : goal.write_value-requires-clause-neighbour
write_value-requires-clause-neighbour g c =
    let near : c.loop-place.registers.neighbours ≡ c.neighbours-place-end.result.now = ap (λ r. r.neighbours) c.loop-place.invariant.rest ∙ sym c.neighbours-place-end.ensures.neighbours in
    let within : c.loop-place.place < length c.loop-place.registers.neighbours = rw near c.loop-place-test.true in
    standing c.loop-place.registers.neighbours c.neighbours.result.now c.loop-place.place c.neighbours.ensures.neighbours within

pub write_value-requires-clause-below : goal.write_value-requires-clause-below
write_value-requires-clause-below g c = c.moved_value-moved.ensures.below

pub returns-clause-rest : goal.returns-clause-rest
returns-clause-rest g c = c.loop-place.invariant.rest

pub loop-place-preserved : goal.loop-place-preserved
loop-place-preserved g c =
    let old : RegistersView = c.args.registers.now in
    let now : RegistersView = c.loop-place.registers in
    let t : ℕ = get_or c.neighbours.result.now c.loop-place.place 0 in
    let same : c.neighbours.result.now ≡ old.neighbours = c.neighbours.ensures.neighbours ∙ ap (λ r. r.neighbours) c.loop-place.invariant.rest in
    let within : c.loop-place.place < length old.neighbours = rw (← c.neighbours-place-end.ensures.neighbours) c.loop-place-test.true in
    let here : get_or old.neighbours c.loop-place.place 0 ≡ t = rw same refl in
    elim c.if-may_move.branch [
      | then-may_move w ↦
          rw w.registers-is
          (moved_one_more old now w.write_value.new.self c.args.tree.now c.special-chosen.result c.loop-place.place t c.requires.registers c.loop-place.invariant within here
          w.if-may_move.ensures (w.write_value.ensures.value ∙ ap (λ x. at (value_of now) t x) w.moved_value-moved.ensures.value) w.write_value.ensures.rest)
      | else-may_move w ↦
          rw w.registers-is
          (stayed_one_more old now c.args.tree.now c.special-chosen.result c.loop-place.place t c.requires.registers c.loop-place.invariant within here w.if-may_move.ensures)
    ]

pub returns-clause-values : goal.returns-clause-values
returns-clause-values g c =
    rw (← c.special-chosen.ensures)
    (all_moved c.args.registers.now c.loop-place.registers c.args.tree.now c.special-chosen.result c.loop-place.place c.requires c.loop-place.invariant (rw (← c.neighbours-place-end.ensures.neighbours) c.loop-place-test.false))
