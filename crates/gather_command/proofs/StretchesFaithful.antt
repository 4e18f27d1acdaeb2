-- A list of events that begins in the middle of the records.
use Rattle.std.proofs.Common.{◌≡◌, ◌∙◌, ap, sym, refl, subst, arith, ℕ, ◌<◌, ◌==◌, List, [], ◌∷◌, ◌++◌, Bool, true, false, drop, replicate}
use Rattle.std.specs.Prelude.{if◌then◌else◌, slice_index_or}
use Rattle.topology.specs.Network.{Network, IsAcceptedNetwork}
use Rattle.node_recorder.specs.Turns.{network_mark}
use Rattle.record_gathering.specs.configuration.run_model.World.{World, IsWorldInRange}
use Rattle.record_gathering.specs.configuration.run_model.Run.{run}
use Rattle.record_gathering.specs.configuration.run_model.Start.{world_with_spares}
use Rattle.record_gathering.specs.configuration.run_model.SameFrame.{IsSameFrame}
use Rattle.record_gathering.specs.configuration.run_model.Laws.{RunsJoin, FrameStays, RangesStay, StartIsInRange}
use Rattle.record_gathering.specs.configuration.run_model.declared.event.Event.{Event}
use Rattle.record_gathering.specs.flight_records.declared.entry.Entry.{Entry}
use Rattle.record_gathering.specs.Accepted.{accepted}
use Rattle.record_gathering.specs.Facts.{facts_of}
use Rattle.record_gathering.specs.Laws.{AcceptedIsEnough, FactsJoin}
use Rattle.record_gathering.specs.Queues.{queues_after}
use Rattle.record_gathering.specs.SetUps.{IsSameAs, HasEdgesOf, with_edges_of, SetUpsAreReached}
use Rattle.record_gathering.proofs.FactsJoin.{accepted-append}
use Rattle.gather_command.specs.Weave.{Moment, events_at, world_after, events_of, without_next, IsLed, Stays, Leads, IsWoven}
use Rattle.gather_command.specs.Scene.{events_to}
use Rattle.gather_command.specs.Laws.{entries_of}
use Rattle.gather_command.proofs.Faithful.{none-refused, complete, same-node, same, others, other-place}

pub list-refused : AcceptedIsEnough → FactsJoin → (net : Network) (w : World) (queues : List (List ℕ)) (left : List (List Entry))
    (back : List Moment) → IsWoven (run (world_with_spares net 8) (events_to net w)) queues left back
    → accepted (world_with_spares net 8) (events_to net w ++ events_of back) ≡ events_to net w ++ events_of back
list-refused enough facts net w queues left back woven =
    let start = world_with_spares net 8 in
    let es = events_to net w in
    accepted-append start es (events_of back)
    ∙ ap (λ (l : List Event). l ++ accepted (run start es) (events_of back))
    (facts.none_refused start (replicate net.nodes []) (facts_of (network_mark net) net w))
    ∙ ap (λ (l : List Event). es ++ l) (none-refused enough (run start es) queues left back woven)

-- ---- what was woven before led to a world in range

led-run : RunsJoin → (w x : World) (q r : List (List ℕ)) (es fs : List (List Entry)) (ms : List Moment) → IsLed w q es ms x r fs
    → x ≡ run w (events_of ms)
led-run join w x q r es fs all Stays = refl
led-run join w x q r es fs all (Leads {v = v} {e = e} {ms = ms} turn head rest) =
    led-run join (world_after w q v e) x (queues_after q v e.noted) r (without_next es v) fs ms rest
    ∙ sym (join w (events_at w q v e) (events_of ms))

pub set-up-stands : RunsJoin → FrameStays → RangesStay → StartIsInRange → SetUpsAreReached → (net : Network)
    (entries : List (List Entry)) (front : List Moment) (w : World) (queues : List (List ℕ)) (left : List (List Entry))
    → IsAcceptedNetwork net → IsLed (world_with_spares net 8) (replicate net.nodes []) entries front w queues left
    → HasEdgesOf w (with_edges_of net 8 w) → IsSameAs w (run (world_with_spares net 8) (events_to net w))
set-up-stands join frame ranges starts reached net entries front w queues left fits led edges =
    let start = world_with_spares net 8 in
    let is : w ≡ run start (events_of front) = led-run join start w (replicate net.nodes []) queues entries left front led in
    let range : IsWorldInRange w = subst IsWorldInRange (sym is) (ranges start (events_of front) (starts net 8 fits)) in
    let same_frame : IsSameFrame net w.net = subst (λ (x : World). IsSameFrame net x.net) (sym is) (frame start (events_of front)) in
    reached.reached (network_mark net) 8 net w fits range same_frame edges

-- ---- each entry is woven, before or from then on

all-woven : FrameStays → (w x y : World) (q r : List (List ℕ)) (es fs : List (List Entry)) (ms ns : List Moment) (v : ℕ)
    → IsLed w q es ms x r fs → IsWoven y r fs ns → v < w.net.nodes → v < y.net.nodes
    → entries_of v (ms ++ ns) ≡ slice_index_or es v []
all-woven stays w x y q r es fs all ns v Stays woven l m = complete stays y q es ns v woven m
all-woven stays w x y q r es fs all ns v (Leads {v = u} {e = e} {ms = ms} turn head rest) woven l m =
    let after = world_after w q u e in
    let below : v < after.net.nodes = omega (arith, (stays w (events_at w q u e)).nodes, l) in
    let more = all-woven stays after x y (queues_after q u e.noted) r (without_next es u) fs ms ns v rest woven below m in
    let by : (b : Bool) → (u == v) ≡ b
    → (if b then e ∷ entries_of v (ms ++ ns) else entries_of v (ms ++ ns)) ≡ slice_index_or es v [] =
    elim [
      | true ↦ λ t. same-node es u v e (entries_of v (ms ++ ns)) (same u v t) head more
      | false ↦ λ t. more ∙ other-place es u v (drop 1 (slice_index_or es u [])) (others u v t)
    ] in
    by (u == v) refl

pub list-complete : FrameStays → (net : Network) (entries : List (List Entry)) (front back : List Moment) (w : World)
    (queues : List (List ℕ)) (left : List (List Entry)) (v : ℕ)
    → IsLed (world_with_spares net 8) (replicate net.nodes []) entries front w queues left
    → IsWoven (run (world_with_spares net 8) (events_to net w)) queues left back → v < net.nodes
    → entries_of v (front ++ back) ≡ slice_index_or entries v []
list-complete stays net entries front back w queues left v led woven l =
    let start = world_with_spares net 8 in
    all-woven stays start w (run start (events_to net w)) (replicate net.nodes []) queues entries left front back v led woven l
    (omega (arith, (stays start (events_to net w)).nodes, l))
