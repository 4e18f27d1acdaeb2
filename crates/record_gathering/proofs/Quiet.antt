-- If a node is as it was noted, there is no harm.
use Rattle.std.proofs.Common.{◌≡◌, ℕ, Bool, true, false, List, [], ◌∷◌, ◌++◌, refl, arith, IsTrue, Option, suc, zero}
use Rattle.std.proofs.lemmas.Grind.{common_steps}
use Rattle.std.proofs.lemmas.Slice.Eq.{bytes_eq-Decides}
use Rattle.std.specs.Str.{bytes_eq}
use Rattle.std.specs.Prelude.{if◌then◌else◌}
use Rattle.topology.specs.declared.frame.Frame.{Frame}
use Rattle.topology.specs.Network.{are_joined}
use Rattle.flight_records.specs.declared.entry.StatePart.{StatePart}
use Rattle.flight_records.specs.declared.entry.StatePart.TheVariants as part
use Rattle.configuration.specs.node_core.State.{LocalState}
use Rattle.configuration.specs.node_core.lock_desk.Desk.{DeskState}
use Rattle.configuration.specs.data_link.Port.{PortState, frame_of}
use Rattle.configuration.specs.run_model.World.{World}
use Rattle.configuration.specs.run_model.Step.{step}
use Rattle.configuration.specs.run_model.Run.{has_damage, IsUndamaged}
use Rattle.configuration.specs.run_model.declared.event.Event.{Event}
use Rattle.configuration.specs.run_model.declared.event.Event.TheVariants.{Send, Take, Lose}
use Rattle.record_gathering.specs.Differences.{harms_in, own_harm, port_harms, frame_harms, desk_events}
use Rattle.record_gathering.specs.Entries.{losses, taken_events, sent_events, part_events}
use Rattle.record_gathering.specs.Frames.{in_front, is_under_way}
use Rattle.record_gathering.specs.Standing.{StandsAs}
use Rattle.record_gathering.proofs.Same.{node-self, payload-self, truth-self}

own-quiet : (v : ℕ) (s : LocalState) (d : ℕ) (p : Option ℕ) → s.distance ≡ d → s.parent ≡ p
    → harms_in (own_harm v s d p ∷ []) ≡ []
own-quiet v s d p a b = grind (arith, common_steps, node-self)

port-quiet : (v u : ℕ) (s : LocalState) (p : PortState) (x : ℕ) → s.port u ≡ p → s.value u ≡ x
    → harms_in (port_harms v u s p x) ≡ []
port-quiet v u s p x a b = grind (arith, common_steps, payload-self)

frame-quiet : (v u : ℕ) (p : PortState) (f : Frame) → frame_of p ≡ f → harms_in (frame_harms v u p f) ≡ []
frame-quiet v u p f a = grind (arith, common_steps, payload-self)

tickets-self : (ts : List ℕ) → bytes_eq ts ts ≡ true
tickets-self ts = grind (arith, bytes_eq-Decides ts ts)

desk-quiet : (v : ℕ) (d : DeskState) (queue : List ℕ) (lent : Option ℕ) (left : ℕ) (served : Bool)
    → d ≡ record { waiting = queue; lent = lent; left = left; served = served }
    → desk_events v d queue lent left served ≡ []
desk-quiet v d queue lent left served a = grind (arith, common_steps, tickets-self, node-self, truth-self)

in-joined : (b : Bool) (es : List Event) → es ≡ [] → (if b then es else []) ≡ []
in-joined true es e = e
in-joined false es e = refl

pub parts-quiet : (w : World) (queue : List ℕ) (v : ℕ) (p : StatePart) → StandsAs queue (w.node v) p
    → part_events w queue v p ≡ []
parts-quiet w queue v (part.Start network node) h = refl
parts-quiet w queue v (part.Own d p) (a, b) = own-quiet v (w.node v) d p a b
parts-quiet w queue v (part.Port u seq last staged copy x) (a, b) =
    in-joined (are_joined w.net.edges v u) _
    (port-quiet v u (w.node v) (record { seq = seq; last = last; staged = staged; copy = copy }) x a b)
parts-quiet w queue v (part.Waits t) h = refl
parts-quiet w queue v (part.Loan lent left served) a = desk-quiet v (w.node v).desk queue lent left served a
parts-quiet w queue v part.Whole h = refl

-- losses, and then events without damage
losses-quiet : (w : World) (u v n : ℕ) (es : List Event) → ((x : World) → has_damage x es ≡ false)
    → has_damage w (losses u v n ++ es) ≡ false
losses-quiet w u v zero es h = h w
losses-quiet w u v (suc n) es h = losses-quiet (step w (Lose u v 0)) u v n es h

pub taken-quiet : (w : World) (u v : ℕ) (f : Frame) → IsTrue (is_under_way f (w.link u v))
    → IsUndamaged w (taken_events w u v f)
taken-quiet w u v f there =
    rw there (losses-quiet w u v (in_front f (w.link u v)) (Take u v ∷ []) (λ _. refl))

room-quiet : (w : World) (v u : ℕ) (b : Bool)
    → has_damage w ((if b then [] else losses v u 1) ++ Send v u ∷ []) ≡ false
room-quiet w v u true = refl
room-quiet w v u false = refl

pub sent-quiet : (w : World) (v u : ℕ) (f : Frame) → frame_of ((w.node v).port u) ≡ f
    → IsUndamaged w (sent_events w v u f)
sent-quiet w v u f same =
    rw (frame-quiet v u ((w.node v).port u) f same) (room-quiet w v u _)
