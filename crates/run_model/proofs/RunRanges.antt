-- Each event, and so each run, keeps a world in range.
use Rattle.std.proofs.Common.{◌≡◌, ℕ, ◌<◌, ◌≤◌, List, [], ◌∷◌, ◌++◌, true, false, IsTrue, Option, None, length, arith}
use Rattle.std.proofs.lemmas.Grind.{common_steps}
use Rattle.std.proofs.lemmas.Bool.{cond_both, and_parts, ltb-true}
use Rattle.std.proofs.lemmas.Bool.Decides.{nat_tests}
use Rattle.std.proofs.lemmas.List.Elements.{All-nil, All-push}
use Rattle.std.specs.Prelude.{◌==◌, ◌&&◌, nat_lt, nat_le, is_some, slice_index_or}
use Rattle.link_model.specs.topology.At.{at}
use Rattle.link_model.specs.topology.Network.{neighbours_of, ring_of}
use Rattle.link_model.specs.topology.Ranges.{ranges_of, payload_fits, parent_fits}
use Rattle.link_model.specs.topology.declared.frame.Payload.{Payload}
use Rattle.link_model.specs.topology.declared.frame.Ranges.{Ranges}
use Rattle.link_model.specs.declared.item.Item.{Item}
use Rattle.node_core.specs.data_link.Port.{PortState, counters_fit, port_fits}
use Rattle.node_core.specs.lock_desk.declared.fault.AskFault.{AskFault}
use Rattle.node_core.specs.lock_desk.Desk.{is_number, ask_fault, asked, after_leave, loan_fits, with_loan}
use Rattle.node_core.specs.Step.{ticked}
use Rattle.run_model.specs.World.{World, IsWorldInRange, item_fits, site, with_node}
use Rattle.run_model.specs.Rewire.{can_join, can_part}
use Rattle.run_model.specs.Step.{first_fault, unless, node_fault, link_fault, ticket_fault, desk_fault, refusal, step, changed, harmed, harm_fits, harm_fault, harm_place_fault, has_room}
use Rattle.run_model.specs.Run.{run}
use Rattle.run_model.specs.declared.event.Event.{Event}
use Rattle.run_model.specs.declared.event.Event.TheVariants.{Send, Take, Lose, Tick, Ask, Leave, Damage}
use Rattle.run_model.specs.declared.event.EventFault.TheVariants.{OutOfRange, NoItem, NoSpare, Apart}
use Rattle.run_model.specs.declared.event.Harm.{Harm}
use Rattle.run_model.specs.declared.event.Harm.TheVariants as harm
use Rattle.run_model.proofs.NodeRanges.{KeepRanges, ticked-range}
use Rattle.run_model.proofs.Ranges.{site-sound, node-range, link-range, port-range, desk-range, linked, neither, held, sent-range, handed-range, lost-range}
use Rattle.run_model.proofs.Rewiring.{AreNetworksKept, joined-range, parted-range}

counters-fit : (r : Ranges) (p : PortState) (seq last : ℕ) → counters_fit r seq last ≡ true → port_fits r p ≡ true
    → port_fits r (record p { seq = seq; last = last }) ≡ true
counters-fit r p seq last new old = grind (arith, common_steps, nat_tests)

staged-fits : (r : Ranges) (p : PortState) (payload : Payload) → payload_fits r payload ≡ true → port_fits r p ≡ true
    → port_fits r (record p { staged = payload }) ≡ true
staged-fits r p payload new old = grind (arith, common_steps, nat_tests)

copy-fits : (r : Ranges) (p : PortState) (payload : Payload) → payload_fits r payload ≡ true → port_fits r p ≡ true
    → port_fits r (record p { copy = payload }) ≡ true
copy-fits r p payload new old = grind (arith, common_steps, nat_tests)

own-range : (w : World) (v d : ℕ) (p : Option ℕ) → IsWorldInRange w → harm_fits w (harm.Own v d p) ≡ true
    → IsWorldInRange (with_node w v (record (w.node v) { distance = d; parent = p }))
own-range w v d p range fits = node-range w v (record (w.node v) { distance = d; parent = p }) range (λ l.
    let old = range.nodes v l in record {
      distance = grind (arith, common_steps, nat_tests);
      parent = (and_parts (nat_le d w.net.nodes) (parent_fits w.net.nodes p) fits).1;
      ports = old.ports;
      values = old.values;
      desk = old.desk;
    })

value-range : (w : World) (v u x : ℕ) → IsWorldInRange w → nat_lt x (ring_of w.net) ≡ true
    → IsWorldInRange (with_node w v (record (w.node v) { value = at (w.node v).value u x }))
value-range w v u x range fits = node-range w v (record (w.node v) { value = at (w.node v).value u x }) range (λ l.
    let old = range.nodes v l in record {
      distance = old.distance;
      parent = old.parent;
      ports = old.ports;
      values = λ k d i. let t = slice_index_or (neighbours_of w.net v) k d in cond_both (t == u) x ((w.node v).value t) (λ y. y < ring_of w.net) (λ _. ltb-true x (ring_of w.net) fits) (λ _. old.values k d i);
      desk = old.desk;
    })

-- a link with room stays in range with one more item
room : (w : World) (u v : ℕ) (item : Item) → has_room w u v ≡ true → length (w.link u v ++ item ∷ []) ≤ w.net.capacity
room w u v item h = grind (arith, common_steps, nat_tests)

no-fault : (fault : Option AskFault) → is_some (desk_fault fault) ≡ false → fault ≡ None
no-fault fault fine = grind arith

module _ (keep : KeepRanges) (kept : AreNetworksKept) where
  harmed-range : (w : World) (h : Harm) → IsWorldInRange w → is_some (harm_place_fault w h) ≡ false → is_some (harm_fault w h) ≡ false → IsWorldInRange (harmed w h)
  harmed-range w (harm.Own v d p) range place fine = own-range w v d p range (held (harm_fits w (harm.Own v d p)) OutOfRange fine)
  harmed-range w (harm.Counters v u seq last) range place fine =
      port-range w v u (record ((w.node v).port u) { seq = seq; last = last }) range
      (counters-fit (ranges_of w.net) ((w.node v).port u) seq last (held (counters_fit (ranges_of w.net) seq last) OutOfRange fine))
  harmed-range w (harm.Staged v u payload) range place fine =
      port-range w v u (record ((w.node v).port u) { staged = payload }) range
      (staged-fits (ranges_of w.net) ((w.node v).port u) payload (held (payload_fits (ranges_of w.net) payload) OutOfRange fine))
  harmed-range w (harm.Copy v u payload) range place fine =
      port-range w v u (record ((w.node v).port u) { copy = payload }) range
      (copy-fits (ranges_of w.net) ((w.node v).port u) payload (held (payload_fits (ranges_of w.net) payload) OutOfRange fine))
  harmed-range w (harm.Value v u x) range place fine = value-range w v u x range (held (nat_lt x (ring_of w.net)) OutOfRange fine)
  harmed-range w (harm.Desk v lent left served) range place fine =
      desk-range w v (with_loan (w.node v).desk lent left served) range (λ old.
      keep.loans w.net.lease left lent served (w.node v).desk old (held (loan_fits w.net.lease (w.node v).desk lent left) OutOfRange fine))
  harmed-range w (harm.Item u v item) range place fine =
      let fits = held (item_fits (ranges_of w.net) item && has_room w u v) OutOfRange fine in
      let parts = and_parts (item_fits (ranges_of w.net) item) (has_room w u v) fits in
      link-range w u v (w.link u v ++ item ∷ []) range (room w u v item parts.1)
      (All-push (λ item. IsTrue (item_fits (ranges_of w.net) item)) (w.link u v) item (range.items u v (linked w u v place).joined) parts.0)
  harmed-range w (harm.Empty u v) range place fine = link-range w u v [] range (omega arith) (All-nil (λ item. IsTrue (item_fits (ranges_of w.net) item)))
  harmed-range w (harm.Join u v) range place fine =
      joined-range kept w u v range place
      (held (can_join w.net u v) OutOfRange (neither (unless (can_join w.net u v) OutOfRange) (unless (nat_lt 0 w.spares) NoSpare) fine).0)
  harmed-range w (harm.Part u v) range place fine = parted-range kept w u v range place (held (can_part w.net u v) Apart fine)

  changed-range : (w : World) (e : Event) → IsWorldInRange w → is_some (refusal w e) ≡ false → IsWorldInRange (changed w e)
  changed-range w (Send u v) range fine = sent-range keep.near w u v range (linked w u v fine)
  changed-range w (Take u v) range fine =
      let l = linked w u v fine in handed-range keep w u v (w.link u v) range (range.capacity u v l.joined) (range.items u v l.joined)
  changed-range w (Lose u v i) range fine =
      lost-range w u v i range (linked w u v (neither (link_fault w u v) (unless (nat_lt i (length (w.link u v))) NoItem) fine).0)
  changed-range w (Tick v) range fine =
      node-range w v (ticked (site w v) (w.node v)) range (λ l. ticked-range keep (site w v) (w.node v) (site-sound keep.near w.net v range.network) (range.nodes v l))
  changed-range w (Ask v t) range fine =
      let later = (neither (node_fault w v) (first_fault (ticket_fault t) (desk_fault (ask_fault t (w.node v).desk))) fine).1 in
      let parts = neither (ticket_fault t) (desk_fault (ask_fault t (w.node v).desk)) later in
      desk-range w v (asked t (w.node v).desk) range (λ old.
      keep.asks w.net.lease t (w.node v).desk (held (is_number t) OutOfRange parts.0) old (no-fault (ask_fault t (w.node v).desk) parts.1))
  changed-range w (Leave v t) range fine = desk-range w v (after_leave t (w.node v).desk) range (keep.leaves w.net.lease t (w.node v).desk)
  changed-range w (Damage h) range fine =
      let parts = neither (harm_place_fault w h) (harm_fault w h) fine in harmed-range w h range parts.0 parts.1

  pub step-range : (w : World) (e : Event) → IsWorldInRange w → IsWorldInRange (step w e)
  step-range w e range = cond_both (is_some (refusal w e)) w (changed w e) IsWorldInRange (λ _. range) (changed-range w e range)

  pub run-range : (w : World) (es : List Event) → IsWorldInRange w → IsWorldInRange (run w es)
  run-range w [] range = range
  run-range w (e ∷ es) range = run-range (step w e) es (step-range w e range)
