-- Entries and worlds that are small enough to check by hand.
use Rattle.std.proofs.Common.{◌≡◌, ℕ, ◌==◌, ◌&&◌, true, false, List, [], ◌∷◌, Some, None, refl}
use Rattle.std.specs.Prelude.{if◌then◌else◌}
use Rattle.std.proofs.lemmas.List.Elements.{All-from_recursion}
use Rattle.topology.specs.Network.{Network}
use Rattle.topology.specs.Ranges.{ranges_of}
use Rattle.topology.specs.declared.frame.Frame.{Frame}
use Rattle.flight_records.specs.declared.entry.Noted.TheVariants as noted
use Rattle.flight_records.specs.declared.entry.StatePart.TheVariants as part
use Rattle.flight_records.specs.declared.entry.Deed.TheVariants as deed
use Rattle.configuration.specs.link_model.declared.item.Item.{Item}
use Rattle.configuration.specs.link_model.declared.item.Item.TheVariants as item
use Rattle.node_follower.specs.Following.{AreSameAt}
use Rattle.configuration.specs.node_core.State.{LocalState, default_node}
use Rattle.configuration.specs.run_model.World.{World}
use Rattle.configuration.specs.run_model.declared.event.Event.TheVariants.{Take, Lose, Tick, Ask, Leave, Damage}
use Rattle.configuration.specs.run_model.declared.event.Harm.TheVariants as harm
use Rattle.record_gathering.specs.Accepted.{accepted}
use Rattle.record_gathering.specs.Entries.{entry_events, is_ready}
use Rattle.record_gathering.specs.Queues.{queue_after}
use Rattle.record_gathering.specs.States.{state_events, IsStateReached}

-- two nodes, whose links hold two items each
abbrev pair : Network
pair = record { nodes = 2; root = 0; capacity = 2; lease = 0; edges = (0, 1) ∷ [] }

abbrev first : Frame
first = record { seq = 1; ack = 2; payload = record { distance = 0; parent = None; ring = 3 } }

abbrev second : Frame
second = record { seq = 2; ack = 2; payload = record { distance = 0; parent = None; ring = 3 } }

-- nothing has happened except that node 0 sent these frames
abbrev world : List Item → World
world items = record {
  net = pair;
  spares = 0;
  node = λ v. default_node (ranges_of pair);
  link = λ u v. if (u == 0) && (v == 1) then items else [];
}

abbrev both : World
both = world (item.Frame first ∷ item.Frame second ∷ [])

-- the frame that was taken is the second one, so the first was lost
second-taken : entry_events both [] 1 (noted.Deed (deed.Takes 0 second)) ≡ Lose 0 1 0 ∷ Take 0 1 ∷ []
second-taken = refl

first-taken : entry_events both [] 1 (noted.Deed (deed.Takes 0 first)) ≡ Take 0 1 ∷ []
first-taken = refl

-- a frame that nobody sent is a harm, after all that was under way
nobody-sent : entry_events (world (item.Frame first ∷ [])) [] 1 (noted.Deed (deed.Takes 0 second))
    ≡ Lose 0 1 0 ∷ Damage (harm.Item 0 1 (item.Frame second)) ∷ Take 0 1 ∷ Damage (harm.Item 0 1 (item.Frame first)) ∷ []
nobody-sent = refl

-- no harm is put in front of a frame that is under way
no-harm : entry_events both [] 1 (noted.Deed (deed.Takes 0 first)) ≡ Damage (harm.Item 0 1 (item.Frame first)) ∷ Take 0 1 ∷ [] → ⊥
no-harm e = absurd cc

-- what is under way is ready to be taken, and what is not under way waits; a full link takes no more
under-way : is_ready both 1 (noted.Deed (deed.Takes 0 second)) ≡ true
under-way = refl

not-under_way : is_ready (world []) 1 (noted.Deed (deed.Takes 0 second)) ≡ true → ⊥
not-under_way e = absurd cc

full : is_ready both 0 (noted.Deed (deed.Sends 1 first)) ≡ false
full = refl

-- a node that is already as noted, and one that is not
stands-so : entry_events (world []) [] 1 (noted.State (part.Own 2 None)) ≡ []
stands-so = refl

stands-otherwise : entry_events (world []) [] 1 (noted.State (part.Own 1 (Some 0))) ≡ Damage (harm.Own 1 1 (Some 0)) ∷ []
stands-otherwise = refl

-- tickets that wait are noted one by one, and ask if they do not wait there
noted-queue : queue_after (queue_after [] (noted.State (part.Waits 7))) (noted.State (part.Waits 5)) ≡ 7 ∷ 5 ∷ []
noted-queue = refl

asks : entry_events (world []) (7 ∷ []) 1 (noted.State (part.Loan (Some 9) 0 false))
    ≡ Damage (harm.Desk 1 None 0 false) ∷ Ask 1 7 ∷ Damage (harm.Desk 1 (Some 9) 0 false) ∷ []
asks = refl

-- there is no node 2
no-node : entry_events both [] 2 (noted.Deed deed.Ticks) ≡ []
no-node = refl

-- a ticket that does not wait does not leave
stranger : accepted both (Leave 1 7 ∷ Tick 1 ∷ []) ≡ Tick 1 ∷ []
stranger = refl

not-stranger : accepted both (Leave 1 7 ∷ Tick 1 ∷ []) ≡ Leave 1 7 ∷ Tick 1 ∷ [] → ⊥
not-stranger e = absurd cc

-- the whole state of node 1 as it is, and one in which the distance, the value and the queue differ
abbrev stands : LocalState
stands = default_node (ranges_of pair)

abbrev differs : LocalState
differs = record stands {
  distance = 1;
  value = λ w. 5;
  desk = record { waiting = 7 ∷ []; lent = None; left = 0; served = false };
}

no-event : state_events (world []) (9 ∷ []) 1 77 stands ≡ []
no-event = refl

each-difference : state_events (world []) (9 ∷ []) 1 77 differs
    ≡ Damage (harm.Own 1 1 None) ∷ Damage (harm.Value 1 0 5) ∷ Damage (harm.Desk 1 None 0 false) ∷ Ask 1 7 ∷ []
each-difference = refl

none-is-left-out : state_events (world []) [] 1 77 differs
    ≡ Damage (harm.Own 1 1 None) ∷ Damage (harm.Desk 1 None 0 false) ∷ Ask 1 7 ∷ [] → ⊥
none-is-left-out e = absurd cc

-- a state is not said to be reached at a node that differs from it
reached : IsStateReached (world []) 1 stands (world [])
reached = record {
  same = ((refl, refl, refl), All-from_recursion (λ u. AreSameAt u stands stands) (0 ∷ []) ((refl, refl), tt));
  others = λ x ne. refl;
  links = refl;
  network = refl;
}

not-reached : IsStateReached (world []) 1 differs (world []) → ⊥
not-reached h = let distance : ◌≡◌ {A = ℕ} 2 1 = h.same.0.0 in absurd cc
