-- Which harms are accepted, one at a time.
use Rattle.std.proofs.Common.{◌≡◌, ℕ, ◌+◌, ◌<◌, Bool, true, false, Option, None, Some, [], ◌∷◌, ◌++◌, length, refl, ap, arith}
use Rattle.std.proofs.lemmas.Grind.{common_steps}
use Rattle.std.proofs.lemmas.Bool.Decides.{nat_tests}
use Rattle.std.specs.Prelude.{◌==◌, is_some, if◌then◌else◌}
use Rattle.rand_pcg.specs.Lcg.{Lcg}
use Rattle.topology.specs.Network.{Network, are_joined}
use Rattle.topology.specs.Ranges.{ranges_of, parent_fits, payload_fits, frame_fits}
use Rattle.topology.specs.declared.frame.Payload.{Payload}
use Rattle.topology.specs.declared.frame.Ranges.{Ranges}
use Rattle.run_model.specs.link_model.declared.item.Item.{Item}
use Rattle.run_model.specs.data_link.Port.{counters_fit}
use Rattle.run_model.specs.lock_desk.Desk.{waits}
use Rattle.run_model.specs.World.{World, item_fits}
use Rattle.run_model.specs.Step.{refusal, step, changed, harmed, link_fault}
use Rattle.run_model.specs.declared.event.Event.{Event}
use Rattle.run_model.specs.declared.event.Event.TheVariants.{Damage}
use Rattle.run_model.specs.declared.event.Harm.{Harm}
use Rattle.run_model.specs.declared.event.Harm.TheVariants as harm
use Rattle.damage_tool.specs.Draws.{draw, number_or_none, draw_parent, draw_payload}
use Rattle.damage_tool.specs.Harms.{draw_item}
use Rattle.damage_tool.proofs.Neighbours.{IsLink}

-- ---- what is drawn is in range

pub draw-below : (k : ℕ) (g : Lcg) → 0 < k → (draw k g).0 < k
unfolding draw
draw-below k g some = omega arith

number-fits : (n p : ℕ) → p < n + 1 → parent_fits n (number_or_none n p) ≡ true
number-fits n p h = grind (arith, common_steps, nat_tests)

pub parent-drawn : (r : Ranges) (g : Lcg) → parent_fits r.nodes (draw_parent r g).0 ≡ true
parent-drawn r g = number-fits r.nodes (draw (r.nodes + 1) g).0 (draw-below (r.nodes + 1) g (omega arith))

fits-from : (r : Ranges) (d : ℕ) (p : Option ℕ) (x : ℕ) → d < r.nodes + 1 → parent_fits r.nodes p ≡ true → x < r.ring
    → payload_fits r (record { distance = d; parent = p; ring = x }) ≡ true
fits-from r d p x a b c = grind (arith, common_steps, nat_tests)

pub payload-drawn : (r : Ranges) (g : Lcg) → 0 < r.ring → payload_fits r (draw_payload r g).0 ≡ true
payload-drawn r g some =
    let d = draw (r.nodes + 1) g in
    let p = draw_parent r d.1 in
    fits-from r d.0 p.0 (draw r.ring p.1).0 (draw-below (r.nodes + 1) g (omega arith)) (parent-drawn r d.1) (draw-below r.ring p.1 some)

pub counters-fit : (r : Ranges) (a b : ℕ) → a < r.counter → b < r.counter → counters_fit r a b ≡ true
counters-fit r a b x y = grind (arith, common_steps, nat_tests)

frame-fits : (r : Ranges) (a b : ℕ) (p : Payload) → a < r.counter → b < r.counter → payload_fits r p ≡ true
    → frame_fits r (record { seq = a; ack = b; payload = p }) ≡ true
frame-fits r a b p x y z = grind (arith, common_steps, nat_tests)

either : (r : Ranges) (b : Bool) (x y : Item × Lcg) → item_fits r x.0 ≡ true → item_fits r y.0 ≡ true → item_fits r (if b then x else y).0 ≡ true
either r true x y a b = a
either r false x y a b = b

pub item-fits : (r : Ranges) (g : Lcg) → 0 < r.counter → 0 < r.ring → item_fits r (draw_item r g).0 ≡ true
item-fits r g counter ring =
    let kind = draw 2 g in
    let seq = draw r.counter kind.1 in
    let ack = draw r.counter seq.1 in
    let payload = draw_payload r ack.1 in
    either r (kind.0 == 0) _ _ refl
    (frame-fits r seq.0 ack.0 payload.0 (draw-below r.counter kind.1 counter) (draw-below r.counter seq.1 counter) (payload-drawn r ack.1 ring))

-- ---- a harm that is in range is accepted

pub own-accepted : (net : Network) (w : World) (v d : ℕ) (p : Option ℕ) → w.net ≡ net → v < net.nodes → d < net.nodes + 1
    → parent_fits net.nodes p ≡ true → refusal w (Damage (harm.Own v d p)) ≡ None
own-accepted net w v d p same node distance parent = grind (arith, common_steps, nat_tests)

place : (net : Network) (w : World) (u v : ℕ) → w.net ≡ net → IsLink net u v → link_fault w u v ≡ None
place net w u v same link = grind (arith, common_steps, nat_tests, link.first, link.second, link.joined)

pub counters-accepted : (net : Network) (w : World) (u v a b : ℕ) → w.net ≡ net → IsLink net u v → counters_fit (ranges_of net) a b ≡ true
    → refusal w (Damage (harm.Counters u v a b)) ≡ None
counters-accepted net w u v a b same link fits = grind (arith, common_steps, place net w u v same link)

pub staged-accepted : (net : Network) (w : World) (u v : ℕ) (p : Payload) → w.net ≡ net → IsLink net u v → payload_fits (ranges_of net) p ≡ true
    → refusal w (Damage (harm.Staged u v p)) ≡ None
staged-accepted net w u v p same link fits = grind (arith, common_steps, place net w u v same link)

pub copy-accepted : (net : Network) (w : World) (u v : ℕ) (p : Payload) → w.net ≡ net → IsLink net u v → payload_fits (ranges_of net) p ≡ true
    → refusal w (Damage (harm.Copy u v p)) ≡ None
copy-accepted net w u v p same link fits = grind (arith, common_steps, place net w u v same link)

pub value-accepted : (net : Network) (w : World) (u v x : ℕ) → w.net ≡ net → IsLink net u v → x < (ranges_of net).ring
    → refusal w (Damage (harm.Value u v x)) ≡ None
value-accepted net w u v x same link fits = grind (arith, common_steps, nat_tests, place net w u v same link)

pub empty-accepted : (net : Network) (w : World) (u v : ℕ) → w.net ≡ net → IsLink net u v → refusal w (Damage (harm.Empty u v)) ≡ None
empty-accepted net w u v same link = grind (arith, common_steps, place net w u v same link)

pub item-accepted : (net : Network) (w : World) (u v : ℕ) (item : Item) → w.net ≡ net → IsLink net u v → item_fits (ranges_of net) item ≡ true
    → length (w.link u v) < net.capacity → refusal w (Damage (harm.Item u v item)) ≡ None
item-accepted net w u v item same link fits room = grind (arith, common_steps, nat_tests, place net w u v same link)

pub none-accepted : (net : Network) (w : World) (v : ℕ) (served : Bool) → w.net ≡ net → v < net.nodes
    → refusal w (Damage (harm.Desk v None 0 served)) ≡ None
none-accepted net w v served same node = grind (arith, common_steps, nat_tests)

pub loan-accepted : (net : Network) (w : World) (v left : ℕ) (served : Bool) → w.net ≡ net → v < net.nodes → left < net.lease + 1
    → waits (w.node v).desk 65535 ≡ false → refusal w (Damage (harm.Desk v (Some 65535) left served)) ≡ None
loan-accepted net w v left served same node fits free = grind (arith, common_steps, nat_tests)

-- ---- what an accepted harm changes

pub accepted-step : (w : World) (e : Event) → refusal w e ≡ None → step w e ≡ changed w e
accepted-step w e ok = ap (λ r. if is_some r then w else changed w e) ok

pub harmed-waits : (w : World) (h : Harm) (v : ℕ) → ((harmed w h).node v).desk.waiting ≡ (w.node v).desk.waiting
harmed-waits w h v = grind (arith, common_steps)

pub emptied : (w : World) (u v : ℕ) → (harmed w (harm.Empty u v)).link u v ≡ []
emptied w u v = grind (arith, common_steps)

pub one-more : (w : World) (u v : ℕ) (item : Item) → (harmed w (harm.Item u v item)).link u v ≡ w.link u v ++ item ∷ []
one-more w u v item = grind (arith, common_steps)
