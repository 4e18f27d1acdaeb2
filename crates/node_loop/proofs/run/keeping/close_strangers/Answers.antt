use Rattle.std.proofs.Common.{◌≡◌, ◌<◌, ◌≤◌, Bool, true, false, Contains, length, arith, refl, rules}
use Rattle.node_connections.proofs.Loose.{all-closed, closed-next, closed-on, closed-start}
use Rattle.node_loop.proofs.run.keeping.close_strangers.Goals.{then-not-is_neighbour, else-not-is_neighbour}
use Rattle.node_loop.proofs.run.keeping.close_strangers.Goals as goal

pub loop-id-init : goal.loop-id-init
loop-id-init g c = closed-start c.args.node.now.registers.neighbours c.args.ports.now.items

pub loop-id-preserved : goal.loop-id-preserved
loop-id-preserved g c =
    let ns = c.args.node.now.registers.neighbours in
    let old = c.args.ports.now.items in
    let ports = c.loop-id.ports.items in
    let id = c.loop-id.id in
    let len : c.len-id-end.result ≡ length old = search rules in
    let count = c.loop-id.invariant.count in
    let below = c.loop-id-test.true in
    let within : id < length ports = omega arith in
    elim c.if-not-is_neighbour.branch [
      | then-not-is_neighbour w ↦ (
          let none : Contains ns id → ⊥ = λ has. (let no : ◌≡◌ {A = Bool} false true = w.if-not-is_neighbour.ensures.neighbour.1 has in grind (arith, no)) in
          rw w.ports-is (closed-next ns old ports id w.close.new.self none within w.close.ensures.0 w.close.ensures.1 c.loop-id.invariant))
      | else-not-is_neighbour w ↦ rw w.ports-is (closed-on ns old ports id (w.if-not-is_neighbour.ensures.neighbour.0 refl) c.loop-id.invariant)
    ]

pub returns-clause-closed : goal.returns-clause-closed
returns-clause-closed g c w none =
    let old = c.args.ports.now.items in
    let new = c.loop-id.ports.items in
    let len : c.len-id-end.result ≡ length old = search rules in
    let count = c.loop-id.invariant.count in
    let end = c.loop-id-test.false in
    let all : length new ≤ c.loop-id.id = omega arith in
    all-closed c.args.node.now.registers.neighbours old new c.loop-id.id all c.loop-id.invariant w none
