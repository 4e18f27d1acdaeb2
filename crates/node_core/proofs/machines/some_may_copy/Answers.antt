use Rattle.std.proofs.Common.{◌≡◌, ◌&&◌, true, false, ℕ, Bool, None, get_or, refl}
use Rattle.registers.specs.Registers.{port_of}
use Rattle.euler_ring.specs.Cycle.{is_tree_neighbour}
use Rattle.node_core.specs.OnRegisters.{machine_may_move}
use Rattle.node_core.proofs.OnTree.{one_passing, none_passing, none_more}
use Rattle.node_core.proofs.machines.some_may_copy.Goals as goal

pub loop-t-init : goal.loop-t-init
loop-t-init g c = refl

pub may_copy-requires : goal.may_copy-requires
may_copy-requires g c =
    let within = rw c.neighbours-t-items.ensures.neighbours at c.loop-t-test.true in
    rw c.neighbours-t-items.ensures.neighbours (c.neighbours-t-items.ensures.registers.neighbours_in c.loop-t.t-index 0 within)

pub returns-then-may_copy : goal.returns-then-may_copy
returns-then-may_copy g c =
    let r = c.args.registers.now in
    let on : ℕ → Bool = is_tree_neighbour c.args.parent c.args.id (λ u. (port_of r u).copy.parent) in
    let within = rw c.neighbours-t-items.ensures.neighbours at c.loop-t-test.true in
    let t : ℕ = get_or r.neighbours c.loop-t.t-index 0 in
    let may : true ≡ (on t && machine_may_move r None t) = rw (← c.neighbours-t-items.ensures.neighbours) c.if-may_copy.ensures in
    one_passing on (machine_may_move r None) r.neighbours c.loop-t.t-index within may

pub loop-t-preserved : goal.loop-t-preserved
loop-t-preserved g c =
    let r = c.args.registers.now in
    let on : ℕ → Bool = is_tree_neighbour c.args.parent c.args.id (λ u. (port_of r u).copy.parent) in
    let within = rw c.neighbours-t-items.ensures.neighbours at c.loop-t-test.true in
    let t : ℕ = get_or r.neighbours c.loop-t.t-index 0 in
    let stays : false ≡ (on t && machine_may_move r None t) = rw (← c.neighbours-t-items.ensures.neighbours) c.if-may_copy.ensures in
    none_more (λ w. on w && machine_may_move r None w) r.neighbours c.loop-t.t-index within c.loop-t.invariant stays

pub returns : goal.returns
returns g c =
    let r = c.args.registers.now in
    let past = rw c.neighbours-t-items.ensures.neighbours at c.loop-t-test.false in
    none_passing (is_tree_neighbour c.args.parent c.args.id (λ u. (port_of r u).copy.parent)) (machine_may_move r None) r.neighbours c.loop-t.t-index past c.loop-t.invariant
