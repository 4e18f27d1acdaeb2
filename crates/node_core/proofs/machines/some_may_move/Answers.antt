use Rattle.std.proofs.Common.{◌≡◌, ◌&&◌, true, false, ℕ, get_or, refl}
use Rattle.euler_ring.specs.Cycle.{is_on}
use Rattle.node_core.specs.OnRegisters.{machine_may_move}
use Rattle.node_core.proofs.OnTree.{one_on, none_on, none_more}
use Rattle.node_core.proofs.machines.some_may_move.Goals as goal

pub loop-t-init : goal.loop-t-init
loop-t-init g c = refl

pub may_move-requires : goal.may_move-requires
may_move-requires g c =
    let within = rw c.neighbours-t-items.ensures.neighbours at c.loop-t-test.true in
    rw c.neighbours-t-items.ensures.neighbours (c.requires.registers.neighbours_in c.loop-t.t-index 0 within)

pub returns-then-may_move : goal.returns-then-may_move
returns-then-may_move g c =
    let ns = c.args.registers.now.neighbours in
    let within = rw c.neighbours-t-items.ensures.neighbours at c.loop-t-test.true in
    let t : ℕ = get_or ns c.loop-t.t-index 0 in
    let may : true ≡ (is_on c.args.tree.now t && machine_may_move c.args.registers.now c.special-chosen.result t) = rw (← c.neighbours-t-items.ensures.neighbours) c.if-may_move.ensures in
    rw (← c.special-chosen.ensures)
    (one_on c.args.tree.now ns (machine_may_move c.args.registers.now c.special-chosen.result) c.loop-t.t-index c.requires.neighbours within may)

pub loop-t-preserved : goal.loop-t-preserved
loop-t-preserved g c =
    let ns = c.args.registers.now.neighbours in
    let within = rw c.neighbours-t-items.ensures.neighbours at c.loop-t-test.true in
    let t : ℕ = get_or ns c.loop-t.t-index 0 in
    let stays : false ≡ (is_on c.args.tree.now t && machine_may_move c.args.registers.now c.special-chosen.result t) = rw (← c.neighbours-t-items.ensures.neighbours) c.if-may_move.ensures in
    none_more (λ w. is_on c.args.tree.now w && machine_may_move c.args.registers.now c.special-chosen.result w) ns c.loop-t.t-index within c.loop-t.invariant stays

pub returns : goal.returns
returns g c =
    let past = rw c.neighbours-t-items.ensures.neighbours at c.loop-t-test.false in
    rw (← c.special-chosen.ensures)
    (none_on c.args.tree.now c.args.registers.now.neighbours (machine_may_move c.args.registers.now c.special-chosen.result) c.loop-t.t-index c.requires.neighbours past c.loop-t.invariant)
