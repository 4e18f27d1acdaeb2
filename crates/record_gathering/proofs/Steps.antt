-- Steps that are not refused: what they lead to.
use Rattle.std.proofs.Common.{◌≡◌, ℕ, ◌<◌, Bool, true, false, ◌&&◌, nat_lt, nat_le, List, [], ◌∷◌, ◌++◌, arith, IsTrue, Option, None}
use Rattle.std.proofs.lemmas.Grind.{common_steps}
use Rattle.topology.specs.At.{at}
use Rattle.topology.specs.Network.{are_joined}
use Rattle.topology.specs.Ranges.{ranges_of, parent_fits, payload_fits, frame_fits}
use Rattle.topology.specs.declared.frame.Frame.{Frame}
use Rattle.topology.specs.declared.frame.Payload.{Payload}
use Rattle.configuration.specs.link_model.declared.item.Item.{Item}
use Rattle.configuration.specs.link_model.declared.item.Item.TheVariants as item
use Rattle.configuration.specs.node_core.Step.{taken}
use Rattle.configuration.specs.node_core.lock_desk.Desk.{loan_fits, with_loan, asked, after_leave, is_stranger, ask_fault, is_number}
use Rattle.configuration.specs.data_link.Port.{counters_fit, frame_of}
use Rattle.configuration.specs.run_model.World.{World, site, with_link, with_node}
use Rattle.configuration.specs.run_model.Step.{has_room, step, with_desk, with_port}
use Rattle.configuration.specs.run_model.declared.event.Event.TheVariants.{Send, Take, Lose, Ask, Leave, Damage}
use Rattle.configuration.specs.run_model.declared.event.Harm.TheVariants as harm

module _ (w : World) (v : ℕ) (here : v < w.net.nodes) where
  pub own-step : (d : ℕ) (p : Option ℕ) → IsTrue (nat_le d w.net.nodes && parent_fits w.net.nodes p)
      → step w (Damage (harm.Own v d p)) ≡ with_node w v (record (w.node v) { distance = d; parent = p })
  own-step d p fits = grind (arith, common_steps)

  pub desk-step : (lent : Option ℕ) (left : ℕ) (served : Bool) → loan_fits w.net.lease (w.node v).desk lent left ≡ true
      → step w (Damage (harm.Desk v lent left served)) ≡ with_desk w v (with_loan (w.node v).desk lent left served)
  desk-step lent left served fits = grind (arith, common_steps)

  pub leave-step : (t : ℕ) → is_stranger t (w.node v).desk ≡ false
      → step w (Leave v t) ≡ with_desk w v (after_leave t (w.node v).desk)
  leave-step t known = grind (arith, common_steps)

  pub ask-step : (t : ℕ) → is_number t ≡ true → ask_fault t (w.node v).desk ≡ None
      → step w (Ask v t) ≡ with_desk w v (asked t (w.node v).desk)
  ask-step t number free = grind (arith, common_steps)

module _ (w : World) (v u : ℕ) (here : v < w.net.nodes) (there : u < w.net.nodes) (joined : are_joined w.net.edges v u ≡ true) where
  pub counters-step : (seq last : ℕ) → counters_fit (ranges_of w.net) seq last ≡ true
      → step w (Damage (harm.Counters v u seq last)) ≡ with_port w v u (record ((w.node v).port u) { seq = seq; last = last })
  counters-step seq last fits = grind (arith, common_steps)

  pub staged-step : (p : Payload) → payload_fits (ranges_of w.net) p ≡ true
      → step w (Damage (harm.Staged v u p)) ≡ with_port w v u (record ((w.node v).port u) { staged = p })
  staged-step p fits = grind (arith, common_steps)

  pub copy-step : (p : Payload) → payload_fits (ranges_of w.net) p ≡ true
      → step w (Damage (harm.Copy v u p)) ≡ with_port w v u (record ((w.node v).port u) { copy = p })
  copy-step p fits = grind (arith, common_steps)

  pub value-step : (x : ℕ) → nat_lt x (ranges_of w.net).ring ≡ true
      → step w (Damage (harm.Value v u x)) ≡ with_node w v (record (w.node v) { value = at (w.node v).value u x })
  value-step x fits = grind (arith, common_steps)

  pub send-step : has_room w v u ≡ true
      → step w (Send v u) ≡ with_link w v u (w.link v u ++ item.Frame (frame_of ((w.node v).port u)) ∷ [])
  send-step room = grind (arith, common_steps)

  pub lose-step : (x : Item) (xs : List Item) → w.link v u ≡ x ∷ xs → step w (Lose v u 0) ≡ with_link w v u xs
  lose-step x xs items = grind (arith, common_steps)

  pub take-step : (x : Item) (xs : List Item) → w.link v u ≡ x ∷ xs
      → step w (Take v u) ≡ with_link (with_node w u (taken (site w u) v x (w.node u))) v u xs
  take-step x xs items = grind (arith, common_steps)

  pub item-step : (f : Frame) → frame_fits (ranges_of w.net) f ≡ true → has_room w v u ≡ true
      → step w (Damage (harm.Item v u (item.Frame f))) ≡ with_link w v u (w.link v u ++ item.Frame f ∷ [])
  item-step f fits room = grind (arith, common_steps)
