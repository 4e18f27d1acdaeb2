use Rattle.std.proofs.Common.{rules, arith, ◌≡◌, ◌<◌, length, subst, take}
use Rattle.std.proofs.lemmas.List.{take_all}
use Rattle.node_runner.specs.Runner.{port_ids}
use Rattle.node_runner.specs.Rounds.{AreSendsTo}
use Rattle.node_runner.specs.Due.{AreSendsDue}
use Rattle.node_runner.proofs.PortLists.{long}
use Rattle.node_runner.proofs.Rounds.{send-turn}
use Rattle.node_runner.proofs.runner.Runner.send_all.Goals as goal

pub loop-place-preserved : goal.loop-place-preserved
loop-place-preserved g c =
    let within : c.loop-place.place < length c.args.self.now.ports.items = search (rules, arith) in
    send-turn c.args.self.now c.loop-place.self c.send.new.self c.loop-place.place c.requires.ready within c.loop-place.invariant c.send.ensures

pub returns : goal.returns
returns g c =
    let h = c.loop-place.invariant in
    let a = c.args.self.now in
    let k = c.loop-place.place in
    let end : k ≡ length a.ports.items = search (rules, arith) in
    let many = long a.ports.items in
    let whole : take k (port_ids a) ≡ port_ids a = take_all k (port_ids a) (omega (arith, end, many)) in (
      h.0,
      h.1,
      subst (λ us. AreSendsTo us h.0) whole h.2,
      let few = h.3 in omega (arith, few, end),
      subst (λ us. AreSendsDue us a h.0) whole h.4,
    )
