-- What two nodes did by themselves, where it leads, and what is no run of theirs.
use Rattle.std.proofs.Common.{◌≡◌, ℕ, ◌<◌, ◌≤◌, zero, suc, List, [], ◌∷◌, refl, ap, arith}
use Rattle.std.proofs.lemmas.Bool.{false≢true}
use Rattle.std.proofs.lemmas.Grind.{common_steps}
use Rattle.std.proofs.lemmas.Bool.Decides.{nat_tests}
use Rattle.topology.specs.declared.frame.Frame.{Frame as FrameType}
use Rattle.run_model.specs.node_core.Site.{site_of}
use Rattle.run_model.specs.node_core.State.{LocalState}
use Rattle.run_model.specs.node_core.Step.{ticked, taken}
use Rattle.run_model.specs.data_link.Port.{frame_of}
use Rattle.link_model.specs.declared.item.Item.{Item}
use Rattle.link_model.specs.declared.item.Item.TheVariants.{Noise, Frame}
use Rattle.run_model.specs.World.{World}
use Rattle.run_model.specs.Start.{default_world}
use Rattle.run_model.specs.Run.{run}
use Rattle.run_model.specs.declared.event.Event.{Event}
use Rattle.run_model.specs.declared.event.Event.TheVariants.{Send, Take, Tick, Ask, Lose}
use Rattle.run_model.proofs.RowsTwo.{two_nodes}
use Rattle.weaving.specs.declared.journal.Stamped.{Stamped}
use Rattle.node_core.specs.Deeds.{Ticks, Sends}
use Rattle.weaving.specs.Account.{Note, Ticked, Sent, Took, Leads, deeds_in, sent_to, taken_from}
use Rattle.weaving.specs.Matched.{AreMatched, IsLinkMatched}
use Rattle.weaving.specs.Laws.{HasEffect, GoesThrough}

abbrev pub start : World
start = default_world two_nodes

-- both tick, node 0 sends, and node 1 takes
abbrev events : List Event
events = Tick 0 ∷ Tick 1 ∷ Send 0 1 ∷ Take 0 1 ∷ []

-- ---- events that go through

goes-through : GoesThrough start events
goes-through = (refl, tt, (refl, tt, (refl, refl, (refl, omega arith, tt))))

-- a node on its thread takes only what is there, though an empty take is not refused
no-take_of_nothing : GoesThrough start (Take 0 1 ∷ []) → ⊥
no-take_of_nothing through = let some : 0 < 0 = through.1 in omega (arith, some)

-- nor does it send to a full link
no-send_to_a_full_link : HasEffect (run start (Send 0 1 ∷ [])) (Send 0 1) → ⊥
no-send_to_a_full_link room = false≢true room

-- nor what is refused
no-refused_event : GoesThrough start (Tick 2 ∷ []) → ⊥
no-refused_event through = let fits = through.0 in absurd cc

-- nor what clients do, nor a loss
no-ask : HasEffect start (Ask 0 7) → ⊥
no-ask out = out

no-loss : HasEffect (run start (Send 0 1 ∷ [])) (Lose 0 1 0) → ⊥
no-loss out = out

-- ---- what one node did

-- node 0 after its tick
abbrev ticked_0 : LocalState
ticked_0 = ticked (site_of two_nodes 0) (start.node 0)

-- what v sends to u at that stamp, after its first tick
abbrev pub after_tick : ℕ → ℕ → ℕ → Stamped
after_tick v u t = record { stamp = t; item = Frame (frame_of ((ticked (site_of two_nodes v) (start.node v)).port u)) }

-- what node 0 sends then
abbrev sent : Stamped
sent = after_tick 0 1 2

-- node 0 ticks and sends; node 1 ticks and takes what was sent
abbrev account : ℕ → List Note
account zero = Ticked 1 ∷ Sent 1 sent ∷ []
account (suc zero) = Ticked 1 ∷ Took 0 (record { stamp = 3; item = sent.item }) ∷ []
account (suc (suc v)) = []

leads-node_0 : Leads two_nodes 0 (start.node 0) (account 0) ((run start events).node 0)
leads-node_0 = ((refl, tt, tt), ((0, omega arith, refl), refl, refl))

leads-node_1 : Leads two_nodes 1 (start.node 1) (account 1) ((run start events).node 1)
leads-node_1 = ((refl, tt), ((0, omega arith, refl), refl))

-- its deeds are those of any node
the-deeds : deeds_in (account 0) ≡ Ticks ∷ Sends 1 (frame_of (ticked_0.port 1)) ∷ []
the-deeds = refl

-- taking noise off a link is no deed, and changes nothing
noise-taken : Leads two_nodes 0 (start.node 0) (Took 1 (record { stamp = 1; item = Noise }) ∷ []) (start.node 0)
noise-taken = ((refl, tt), refl)

-- but noise comes over a link too
no-noise_from_itself : Leads two_nodes 0 (start.node 0) (Took 0 (record { stamp = 1; item = Noise }) ∷ []) (start.node 0) → ⊥
no-noise_from_itself leads = false≢true leads.0.0

-- a node sends the frame of its port, and no other
no-other_frame : Leads two_nodes 0 (start.node 0) (Ticked 1 ∷ Sent 1 (record { stamp = 2; item = Frame (record (frame_of (ticked_0.port 1)) { seq = 1 }) }) ∷ []) ticked_0 → ⊥
no-other_frame leads = let number : 1 ≡ 0 = ap (λ (f : FrameType). f.seq) leads.1.1 in omega (arith, number)

-- nor noise
no-noise : Leads two_nodes 0 (start.node 0) (Ticked 1 ∷ Sent 1 (record { stamp = 2; item = Noise }) ∷ []) ticked_0 → ⊥
no-noise leads = leads.0.1

-- and only to a neighbour
no-send_to_itself : Leads two_nodes 0 (start.node 0) (Sent 0 sent ∷ []) (start.node 0) → ⊥
no-send_to_itself leads = false≢true leads.0.0

-- and its state is what its deeds make it
no-tick_unsaid : Leads two_nodes 0 (start.node 0) [] ticked_0 → ⊥
no-tick_unsaid leads = let distance : 0 ≡ 2 = ap (λ (s : LocalState). s.distance) leads.1 in omega (arith, distance)

-- ---- what both did

leads-each : (v : ℕ) → Leads two_nodes v (start.node v) (account v) ((run start events).node v)
leads-each zero = leads-node_0
leads-each (suc zero) = leads-node_1
leads-each (suc (suc v)) = (tt, grind (arith, common_steps, nat_tests))

nobody-else : (v : ℕ) → 2 ≤ v → account v ≡ []
nobody-else zero few = absurd (omega arith)
nobody-else (suc zero) few = absurd (omega arith)
nobody-else (suc (suc v)) few = refl

pub untouched : (sent taken : List Stamped) (left : List Item) → sent ≡ [] → taken ≡ [] → left ≡ [] → IsLinkMatched 1 [] sent taken left
untouched sent taken left s t l = rw (s, t, l) (record { kept = refl; taken_later = tt; sent_later = tt })

matched-each : (u v : ℕ) → IsLinkMatched 1 (start.link u v) (sent_to v (account u)) (taken_from u (account v)) ((run start events).link u v)
matched-each zero zero = untouched _ _ _ refl refl refl
matched-each zero (suc zero) = record { kept = refl; taken_later = (omega arith, tt); sent_later = tt }
matched-each zero (suc (suc v)) = untouched _ _ _ (grind (arith, nat_tests)) refl (grind (arith, common_steps, nat_tests))
matched-each (suc zero) zero = untouched _ _ _ refl refl refl
matched-each (suc zero) (suc zero) = untouched _ _ _ refl refl refl
matched-each (suc zero) (suc (suc v)) = untouched _ _ _ refl refl (grind (arith, common_steps, nat_tests))
matched-each (suc (suc u)) zero = untouched _ _ _ refl refl (grind (arith, common_steps, nat_tests))
matched-each (suc (suc u)) (suc zero) = untouched _ _ _ refl (grind (arith, nat_tests)) (grind (arith, common_steps, nat_tests))
matched-each (suc (suc u)) (suc (suc v)) = untouched _ _ _ refl refl (grind (arith, common_steps, nat_tests))

are-matched : AreMatched start account (run start events)
are-matched = record { network = refl; spares = refl; nodes = leads-each; nobody = nobody-else; links = matched-each }

-- a frame that was sent was taken, or is still there
abbrev sender_alone : ℕ → List Note
sender_alone zero = account 0
sender_alone (suc v) = []

no-lost_frame : AreMatched start sender_alone (run start (Tick 0 ∷ [])) → ⊥
no-lost_frame m = let kept = (m.links 0 1).kept in absurd cc

-- and only nodes act
no-deed_of_nobody : (last : World) → AreMatched start (λ v. Ticked 1 ∷ []) last → ⊥
no-deed_of_nobody last m = let nothing = m.nobody 2 (omega arith) in absurd cc
