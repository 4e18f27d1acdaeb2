use Rattle.std.proofs.Common.{◌+◌, ap, rules, subst, sym, arith}
use Rattle.std.specs.Prelude.{is_some}
use Rattle.node_connections.proofs.Rooms.{HaveRoom, rooms-pushed}
use Rattle.node_connections.proofs.Written.{none-first}
use Rattle.node_connections.proofs.Places.{none-below}
use Rattle.node_connections.proofs.clients.Clients.new.Goals as goal

pub loop-init : goal.loop-init
loop-init g c = (search rules, search rules, λ t below. absurd (none-below t below))

pub loop-preserved : goal.loop-preserved
loop-preserved g c = (
  search rules,
  search rules,
  subst (λ items. HaveRoom (c.loop.counter + 1) items) (sym c.push_reserved.ensures.items)
      (rooms-pushed c.loop.counter c.loop.answers.items c.in_ok-with_capacity.field-0 c.loop.invariant.0 (ap (λ b. b.capacity) c.in_ok-with_capacity.ensures) c.loop.invariant.2),
)

pub invariant_of-result : goal.invariant_of-result
invariant_of-result g c =
    let all = c.loop-test.false in
    let most = c.loop.auto.counter-end in
    let size = c.loop.invariant.0 in
    record {
      room = c.in_ok-table.ensures.capacity;
      answers_are = omega (arith, all, most, size);
      rooms = λ t below. c.loop.invariant.2 t (omega (arith, all, below));
      tickets = λ t from. none-first c.in_ok-table.table c.in_ok-table.ensures.empty t;
    }

pub returns : goal.returns
returns g c t = ap (λ x. is_some x) (none-first c.in_ok-table.table c.in_ok-table.ensures.empty t)
