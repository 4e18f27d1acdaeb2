use Rattle.std.proofs.Common.{sym, ap, ◌∙◌, Some}
use Rattle.std.specs.List.{position}
use Rattle.thread_net.proofs.Settling.{leads, found-at, not-found}
use Rattle.thread_net.proofs.settle.take_from.Goals as goal

pub returns-in-Some : goal.returns-in-Some
returns-in-Some g c =
    let is = ap (position (leads c.args.to)) (sym c.deref.ensures.value) ∙ (sym c.place_of_port.ensures ∙ c.in-Some.is) in
    let it = found-at c.args.to c.args.ports.now.items c.in-Some.place c.remove.result is in
    record { port = ap Some c.remove.ensures.value ∙ sym it.0; others = rw c.remove.ensures.items it.1 }

pub returns-in-None-clause-port : goal.returns-in-None-clause-port
returns-in-None-clause-port g c = sym (not-found c.args.to c.args.ports.now.items (ap (position (leads c.args.to)) (sym c.deref.ensures.value) ∙ (sym c.place_of_port.ensures ∙ c.in-None.is)))
