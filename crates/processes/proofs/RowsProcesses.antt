-- Two processes on the smallest network, small enough to check by hand.
use Rattle.std.proofs.Common.{◌≡◌, ◌==◌, ◌&&◌, if◌then◌else◌, ℕ, zero, suc, ◌<◌, ◌≤◌, List, [], ◌∷◌, ◌++◌, map, rules, IsFalse, refl, inl, ◌∙◌, sym, ap, arith}
use Rattle.std.proofs.lemmas.Grind.{common_steps}
use Rattle.topology.specs.Network.{are_joined, bound_of}
use Rattle.topology.specs.Eccentricity.{sharp_of}
use Rattle.topology.specs.declared.frame.Frame.{Frame}
use Rattle.data_link.specs.Port.{frame_of}
use Rattle.lock_desk.specs.Desk.{DeskState, no_desk}
use Rattle.node_core.specs.Site.{site_of}
use Rattle.run_model.specs.World.{World}
use Rattle.run_model.specs.Run.{run}
use Rattle.run_model.specs.declared.event.Event.{Event}
use Rattle.run_model.specs.declared.event.Event.TheVariants.{Send, Take, Ask}
use Rattle.convergence.specs.Service.{IsAtPlace}
use Rattle.run_model.proofs.RowsTwo.{two_nodes, each-node, each-link, calm, forged}
use Rattle.run_model.proofs.RowsServing.{calm-serves}
use Rattle.node_core.specs.Deeds.{Ticks, Sends, Takes, Asks, Leads}
use Rattle.processes.specs.Accounts.{Timed, deeds, AreInTime}
use Rattle.processes.specs.Links.{Act, Accepts, Gives, the_losses, accepts_in, gives_in, IsHistory}
use Rattle.processes.specs.Marks.{Mark, Does, Drops, event_of, AreOrdered, account_of, history_of, IsOrderOf}
use Rattle.processes.specs.Together.{AreProcesses, Wires, AreProcessesOverBytes}
use Rattle.processes.specs.Through.{GoesThrough}
use Rattle.processes.specs.Laws.{KeepsPromise, ServesAfter, LendsAfter}
use Rattle.processes.specs.Connections.{as_items, left_over, IsLinkOfBytes}
use Rattle.topology.specs.Ranges.{ranges_of}
use Rattle.link_model.specs.declared.item.Item.{Item}
use Rattle.link_model.specs.declared.item.Item.TheVariants as item
use Rattle.processes.proofs.RowsLinks.{nothing-out, nothing-yet}

-- node 0 says to node 1 that it is the root, which is what node 1 knows
abbrev said : Frame
said = frame_of ((calm.node 0).port 1)

abbrev account : ℕ → List Timed
account zero = record { instant = 1; deed = Sends 1 said } ∷ []
account (suc zero) = record { instant = 2; deed = Takes 0 said } ∷ record { instant = 2; deed = Asks 7 } ∷ []
account (suc (suc v)) = []

abbrev history : ℕ → ℕ → List Act
history zero (suc zero) = Accepts 1 said ∷ Gives 2 said ∷ []
history _ _ = []

abbrev happened : List Event
happened = Send 0 1 ∷ Take 0 1 ∷ Ask 1 7 ∷ []

abbrev marks : List Mark
marks = Does 1 0 (Sends 1 said) ∷ Does 2 1 (Takes 0 said) ∷ Does 2 1 (Asks 7) ∷ []

in-time : (v : ℕ) → AreInTime (account v)
in-time zero = (tt, tt)
in-time (suc zero) = ((omega arith, tt), (tt, tt))
in-time (suc (suc v)) = tt

leads : (v : ℕ) → Leads (site_of two_nodes v) (deeds (account v)) (calm.node v) ((run calm happened).node v)
leads zero = search rules
leads (suc zero) = search rules
leads (suc (suc v)) = grind (arith, common_steps)

nobody : (v : ℕ) → 2 ≤ v → account v ≡ []
nobody zero l = absurd (omega (arith, l))
nobody (suc zero) l = absurd (omega (arith, l))
nobody (suc (suc v)) l = refl

there : IsHistory 1 [] (Accepts 1 said ∷ []) (Gives 2 said ∷ []) (Accepts 1 said ∷ Gives 2 said ∷ []) []
there = record { accepted = refl; given = refl; in_order = ((inl (omega arith), tt), (tt, tt)); plays = (omega arith, ([], refl, refl)) }

back : IsHistory 1 [] [] [] [] []
back = record { accepted = refl; given = refl; in_order = tt; plays = refl }

nowhere : (u v : ℕ) → IsFalse (are_joined two_nodes.edges u v) → (history u v ≡ []) × ((run calm happened).link u v ≡ calm.link u v)
nowhere zero zero out = (refl, refl)
nowhere zero (suc zero) out = absurd cc
nowhere zero (suc (suc v)) out = (refl, grind (arith, common_steps))
nowhere (suc zero) v out = (refl, grind (arith, common_steps))
nowhere (suc (suc u)) v out = (refl, grind (arith, common_steps))

-- what they did, and what the links did, leads to the world to which the events lead
two-processes : AreProcesses calm account history (run calm happened)
two-processes = record {
  network = refl;
  spares = refl;
  in_time = in-time;
  nodes = leads;
  nobody = nobody;
  links = each-link (λ u v. IsHistory 1 (calm.link u v) (accepts_in v (account u)) (gives_in u (account v)) (history u v) ((run calm happened).link u v)) there back;
  nowhere = nowhere;
}

account-is : (v : ℕ) → account_of v marks ≡ account v
account-is zero = refl
account-is (suc zero) = refl
account-is (suc (suc v)) = grind (arith, common_steps)

losses-are : (u v : ℕ) → the_losses (history_of u v marks) ≡ the_losses (history u v)
losses-are zero zero = refl
losses-are zero (suc zero) = refl
losses-are zero (suc (suc v)) = grind (arith, common_steps)
losses-are (suc u) v = grind (arith, common_steps)

-- and these events are an order of it
an-order : IsOrderOf account history happened
an-order = record {
  marks = marks;
  are_events = refl;
  ordered = ((omega arith, (omega arith, tt)), ((omega arith, tt), (tt, tt)));
  nodes = account-is;
  losses = losses-are;
}

-- a take does not come before what happened earlier
not-the-take-first : AreOrdered (Does 2 1 (Takes 0 said) ∷ Does 1 0 (Sends 1 said) ∷ []) → ⊥
not-the-take-first h = let a = h.0.0 in omega (arith, a)

-- what is lost at an instant is lost first
losses-first : AreOrdered (Drops 2 0 1 0 ∷ Does 2 1 Ticks ∷ [])
losses-first = ((omega arith, tt), (tt, tt))

not-losses-last : AreOrdered (Does 2 1 Ticks ∷ Drops 2 0 1 0 ∷ []) → ⊥
not-losses-last h = let a = h.0.0 in omega (arith, a)

-- nothing is left out of an order
not-nothing : IsOrderOf account history [] → ⊥
not-nothing o = none o.marks o.are_events (o.nodes 0) where
  none : (ms : List Mark) → map event_of ms ≡ [] → account_of 0 ms ≡ account 0 → ⊥
  none [] e h = let f : ◌≡◌ {A = List Timed} [] (record { instant = 1; deed = Sends 1 said } ∷ []) = h in absurd cc
  none (m ∷ ms) e h = let f : ◌≡◌ {A = List Event} (event_of m ∷ map event_of ms) [] = e in absurd cc

-- a node that takes what no other node sent is no such process, whatever is said of the links
abbrev alone : ℕ → List Timed
alone (suc zero) = record { instant = 2; deed = Takes 0 said } ∷ []
alone _ = []

not-made-up : (acts : ℕ → ℕ → List Act) (last : World) → AreProcesses calm alone acts last → ⊥
not-made-up acts last p =
    let link = p.links 0 1 refl in
    let e : ◌≡◌ {A = List Act} (Gives 2 said ∷ []) [] = sym link.given ∙ nothing-out 1 (acts 0 1) (last.link 0 1) link.accepted link.plays in
    absurd cc

-- ---- going through

all-through : GoesThrough calm happened
all-through = search rules

-- a link of capacity 1 has no room for a second frame, an empty one has nothing to take
not-two : GoesThrough calm (Send 0 1 ∷ Send 0 1 ∷ []) → ⊥
not-two h = let a = h.1.0.1 in grind (arith, common_steps)

not-of-an-empty-link : GoesThrough calm (Take 0 1 ∷ []) → ⊥
not-of-an-empty-link h = let a = h.0.1 in omega (arith, a)

-- an ask may be refused, but only by the desk
refused-by-desk : GoesThrough calm (Ask 1 7 ∷ Ask 1 7 ∷ [])
refused-by-desk = search rules

not-of-nobody : GoesThrough calm (Ask 2 7 ∷ []) → ⊥
not-of-nobody h = let a = h.0 in absurd cc

-- ---- what is promised

-- the calm world serves at once
serves-at-once : ServesAfter 0 calm []
serves-at-once [] after is sweeps = calm-serves
serves-at-once (e ∷ before) after is sweeps = let f : ◌≡◌ {A = List Event} [] (e ∷ (before ++ after)) = is in absurd cc

-- a world in which both nodes lend does not
not-forged : ServesAfter 0 forged [] → ⊥
not-forged h = let two = (h [] [] refl tt).one_lending 0 1 (omega arith) (omega arith) refl refl in absurd (omega (arith, two))

-- a network of one node, which has this desk, and no sweep at all
abbrev one_waits : DeskState → World
one_waits desk = record calm { net = record two_nodes { nodes = 1; edges = [] }; node = λ v. record (calm.node v) { desk = desk } }

-- nobody who waits is passed over
lends-to-nobody : LendsAfter 0 (one_waits no_desk) []
lends-to-nobody [] after v t i is sweeps in-net place stays more = absurd place
lends-to-nobody (e ∷ before) after v t i is sweeps in-net place stays more = let f : ◌≡◌ {A = List Event} [] (e ∷ (before ++ after)) = is in absurd cc

not-passed-over : LendsAfter 0 (one_waits (record no_desk { waiting = 7 ∷ [] })) [] → ⊥
not-passed-over h = let lent = h [] [] 0 7 0 refl tt (omega arith) refl refl tt in absurd cc

-- a calm world with no event keeps the promise
no-event : (sweeps : ℕ) → ServesAfter sweeps calm []
no-event n [] after is sweeps = calm-serves
no-event n (e ∷ before) after is sweeps = let f : ◌≡◌ {A = List Event} [] (e ∷ (before ++ after)) = is in absurd cc

nobody-waits : (v : ℕ) → v < 2 → (t i : ℕ) → IsAtPlace t i (calm.node v).desk.waiting → ⊥
nobody-waits = each-node (λ v. (t i : ℕ) → IsAtPlace t i (calm.node v).desk.waiting → ⊥) (λ t i h. h) (λ t i h. h)

nobody-to-lend : (sweeps : ℕ) → LendsAfter sweeps calm []
nobody-to-lend n [] after v t i is sweeps in-net place stays more = absurd (nobody-waits v in-net t i place)
nobody-to-lend n (e ∷ before) after v t i is sweeps in-net place stays more = let f : ◌≡◌ {A = List Event} [] (e ∷ (before ++ after)) = is in absurd cc

keeps-promise : KeepsPromise calm calm []
keeps-promise = record {
  leads = refl;
  through = tt;
  serves = no-event (sharp_of two_nodes);
  serves_by_bound = no-event (bound_of two_nodes);
  lends = nobody-to-lend (sharp_of two_nodes);
}

-- it is not kept if the events lead to a different world, nor if one of them does not go through
not-elsewhere : KeepsPromise calm (run calm (Send 0 1 ∷ [])) [] → ⊥
not-elsewhere h = let e : ◌≡◌ {A = List Item} [] (item.Frame said ∷ []) = ap (λ w. w.link 0 1) h.leads in absurd cc

not-with-two : (last : World) → KeepsPromise calm last (Send 0 1 ∷ Send 0 1 ∷ []) → ⊥
not-with-two last h = not-two h.through

-- ---- over bytes

-- node 0 sends, and nothing has come out yet
abbrev only_sends : ℕ → List Timed
only_sends zero = record { instant = 1; deed = Sends 1 said } ∷ []
only_sends (suc v) = []

abbrev one_wire : Wires
one_wire = record {
  junk = λ u v. [];
  ended = λ u v. [];
  acts = λ u v. if (u == 0) && (v == 1) then Accepts 1 said ∷ [] else [];
}

only-leads : (v : ℕ) → Leads (site_of two_nodes v) (deeds (only_sends v)) (calm.node v) ((run calm (Send 0 1 ∷ [])).node v)
only-leads zero = search rules
only-leads (suc v) = grind (arith, common_steps)

only-nobody : (v : ℕ) → 2 ≤ v → only_sends v ≡ []
only-nobody zero l = absurd (omega (arith, l))
only-nobody (suc v) l = refl

only-nowhere : (u v : ℕ) → IsFalse (are_joined two_nodes.edges u v)
    → (one_wire.ended u v ≡ []) × (one_wire.acts u v ≡ []) × ((run calm (Send 0 1 ∷ [])).link u v ≡ calm.link u v)
only-nowhere zero zero out = (refl, refl, refl)
only-nowhere zero (suc zero) out = absurd cc
only-nowhere zero (suc (suc v)) out = (refl, grind (arith, common_steps), grind (arith, common_steps))
only-nowhere (suc u) v out = (refl, grind (arith, common_steps), grind (arith, common_steps))

over-bytes : AreProcessesOverBytes calm only_sends one_wire (run calm (Send 0 1 ∷ []))
over-bytes = record {
  network = refl;
  spares = refl;
  in_time = λ v. in-time-of v;
  nodes = only-leads;
  nobody = only-nobody;
  first = λ u v is. refl;
  links = each-link (λ u v. IsLinkOfBytes (ranges_of two_nodes) 1 [] (accepts_in v (only_sends u)) (gives_in u (only_sends v)) [] (one_wire.acts u v))
      (record {
        whole = refl;
        connections = record { bytes = nothing-yet (ranges_of two_nodes) [] (said ∷ []); within = (omega arith, tt) };
        accepted = refl;
        given = refl;
        in_order = (tt, tt);
      }) (record {
        whole = refl;
        connections = record { bytes = nothing-yet (ranges_of two_nodes) [] []; within = tt };
        accepted = refl;
        given = refl;
        in_order = tt;
      });
  left = each-link (λ u v. (run calm (Send 0 1 ∷ [])).link u v ≡ as_items (left_over [] [] (one_wire.acts u v))) refl refl;
  nowhere = only-nowhere;
} where
  in-time-of : (v : ℕ) → AreInTime (only_sends v)
  in-time-of zero = (tt, tt)
  in-time-of (suc v) = tt

-- not if nothing is under way at the end, since a frame is left on the last connection
not-another-end : AreProcessesOverBytes calm only_sends one_wire calm → ⊥
not-another-end p = let e : ◌≡◌ {A = List Item} [] (item.Frame said ∷ []) = p.left 0 1 refl in absurd cc
