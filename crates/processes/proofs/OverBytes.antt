-- Processes over bytes are processes over links that have histories.
use Rattle.std.proofs.Common.{ap, ◌∙◌, sym, subst, arith}
use Rattle.topology.specs.Network.{Network, IsAcceptedNetwork}
use Rattle.topology.specs.Ranges.{ranges_of}
use Rattle.topology.specs.Laws.{JoinedAreNodes, JoinedBack, Limits, NeighboursAreJoined}
use Rattle.frame_codec.specs.Laws.{AreNarrow}
use Rattle.run_model.specs.Laws.{RangesStay}
use Rattle.processes.specs.Accounts.{deeds}
use Rattle.processes.specs.Links.{accepts_in, gives_in, IsHistory}
use Rattle.processes.specs.Connections.{AreInRange, as_items, history_over}
use Rattle.processes.specs.LinkLaws.{BytesAreHistory}
use Rattle.processes.specs.Together.{frames_at_first, history_on}
use Rattle.processes.specs.Laws.{BytesAreProcesses, BytesKeepPromise, ProcessesKeepPromise}
use Rattle.processes.proofs.Frames.{all-sent}
use Rattle.processes.proofs.OwnFrames.{sent-in_range}

-- the ranges of an accepted network are numbers of 16 bits
are-narrow : Limits → (net : Network) → IsAcceptedNetwork net → AreNarrow (ranges_of net)
are-narrow limits net accepted =
    let all = limits net accepted in
    let few = all.1 in
    let counters = all.3 in
    let rings = all.5 in
    record { nodes = omega (arith, few); counter = omega (arith, counters); ring = omega (arith, rings) }

pub are-processes : Limits → RangesStay → JoinedAreNodes → NeighboursAreJoined → JoinedBack → BytesAreHistory → BytesAreProcesses
are-processes limits stay joined near back histories w last account wires range p = record {
  network = p.network;
  spares = p.spares;
  in_time = p.in_time;
  nodes = p.nodes;
  nobody = p.nobody;
  links = λ u v is.
      let sent = accepts_in v (account u) in
      let taken = gives_in u (account v) in
      let in-net = (joined w.net u v range.network is).0 in
      let fit = subst (λ fs. AreInRange (ranges_of w.net) fs) (sym (all-sent v (account u)))
      (sent-in_range stay joined near back w range u in-net v (deeds (account u)) (w.node u) (last.node u) (p.nodes u) (range.nodes u in-net)) in
      let found = histories (ranges_of w.net) (wires.junk u v) w.net.capacity sent taken (wires.ended u v) (wires.acts u v) (are-narrow limits w.net range.network) fit
      (p.links u v is) in
      subst (λ items. IsHistory w.net.capacity items sent taken (history_on w wires u v) (last.link u v)) (sym (p.first u v is))
      (subst (λ items. IsHistory w.net.capacity (as_items (frames_at_first w wires u v)) sent taken (history_on w wires u v) items) (sym (p.left u v is)) found);
  nowhere = λ u v out.
      let none = p.nowhere u v out in
      (ap (λ cs. history_over (frames_at_first w wires u v) cs (wires.acts u v)) none.0 ∙ none.1, none.2);
}

pub keep-promise : BytesAreProcesses → ProcessesKeepPromise → BytesKeepPromise
keep-promise are keep w last account wires range p = keep w last account (history_on w wires) range (are w last account wires range p)
