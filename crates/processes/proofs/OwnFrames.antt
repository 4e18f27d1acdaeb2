-- What a node sends is in range: each of its deeds leads it from one state in range to another.
use Rattle.std.proofs.Common.{◌≡◌, ◌==◌, ℕ, ◌<◌, ◌≤◌, List, [], ◌∷◌, Bool, true, false, IsTrue, length, refl, ap, sym, subst, arith, if◌then◌else◌}
use Rattle.std.proofs.lemmas.Grind.{common_steps}
use Rattle.std.proofs.lemmas.List.Elements.{All-nil, All-push, All-contains}
use Rattle.std.specs.List.{All, Contains}
use Rattle.topology.specs.At.{at}
use Rattle.topology.specs.Laws.{JoinedAreNodes, JoinedBack, NeighboursAreJoined}
use Rattle.topology.specs.Network.{are_joined, neighbours_of}
use Rattle.topology.specs.Ranges.{frame_fits, ranges_of}
use Rattle.topology.specs.declared.frame.Frame.{Frame}
use Rattle.topology.specs.declared.frame.Ranges.{Ranges}
use Rattle.link_model.specs.declared.item.Item.TheVariants as item
use Rattle.data_link.specs.Port.{PortState, frame_of, port_fits}
use Rattle.node_core.specs.Site.{site_of}
use Rattle.node_core.specs.State.{LocalState, IsNodeInRange}
use Rattle.node_core.specs.Step.{heard, item_fits, taken}
use Rattle.run_model.specs.Laws.{RangesStay}
use Rattle.run_model.specs.Step.{step}
use Rattle.run_model.specs.World.{World, IsWorldInRange, with_link, with_node}
use Rattle.run_model.specs.declared.event.Event.{Event}
use Rattle.run_model.specs.declared.event.Event.TheVariants.{Ask, Leave, Take, Tick}
use Rattle.node_core.specs.Deeds.{Deed, Ticks, Sends, Takes, Asks, Leaves, Leads, sent_to}
use Rattle.processes.specs.Connections.{AreInRange}
use Rattle.processes.specs.Timing.{after_deed}
use Rattle.run_model.proofs.Changed.{at-each, at-here, at_pair-each, at_pair-here}
use Rattle.processes.proofs.OneDeed.{IsOwn, first-deed}
use Rattle.processes.proofs.Steps.{ask-step, leave-step, take-fine, take-step, tick-step}

frame-of-port : (r : Ranges) (p : PortState) → IsTrue (port_fits r p) → IsTrue (frame_fits r (frame_of p))
frame-of-port r p fits = grind (arith, common_steps)

one-item : (r : Ranges) (f : Frame) → IsTrue (frame_fits r f) → All (λ x. IsTrue (item_fits r x)) (item.Frame f ∷ [])
one-item r f fits = All-push (λ x. IsTrue (item_fits r x)) [] (item.Frame f) (All-nil (λ x. IsTrue (item_fits r x))) fits

-- one deed more
one-more : (r : Ranges) (u : ℕ) (d : Deed) (ds : List Deed) → ((f : Frame) → d ≡ Sends u f → IsTrue (frame_fits r f)) → AreInRange r (sent_to u ds)
    → AreInRange r (sent_to u (d ∷ ds))
one-more r u Ticks ds own h = h
one-more r u (Takes w f) ds own h = h
one-more r u (Asks t) ds own h = h
one-more r u (Leaves t) ds own h = h
one-more r u (Sends w f) ds own h = by (w == u) refl where
  by : (b : Bool) → (w == u) ≡ b → AreInRange r (if b then f ∷ sent_to u ds else sent_to u ds)
  by true e = (own f (let same : w ≡ u = grind (arith, common_steps, e) in ap (λ x. Sends x f) same), h)
  by false e = h

module _ (stay : RangesStay) (nodes : JoinedAreNodes) (near : NeighboursAreJoined) (back : JoinedBack) (w : World) (range : IsWorldInRange w) (v : ℕ) (in-net : v < w.net.nodes) where
  abbrev Fits : LocalState → Type 0
  Fits s = IsNodeInRange (site_of w.net v) s

  -- the world in which v is in that state
  in-world : (s : LocalState) → Fits s → IsWorldInRange (with_node w v s)
  in-world s fits = record {
    network = range.network;
    nodes = at-each (λ a t. a < w.net.nodes → IsNodeInRange (site_of w.net a) t) w.node v s (λ _. fits) (λ a apart. range.nodes a);
    capacity = range.capacity;
    items = range.items;
  }

  -- a step that changes v alone
  by-step : (d : Deed) (e : Event) (s : LocalState) → Fits s
      → step (with_node w v s) e ≡ with_node (with_node w v s) v (after_deed (site_of w.net v) d (at w.node v s v)) → Fits (after_deed (site_of w.net v) d s)
  by-step d e s fits is =
      let after = λ (t : LocalState). after_deed (site_of w.net v) d t in
      let stepped : IsWorldInRange (step (with_node w v s) e) = stay (with_node w v s) (e ∷ []) (in-world s fits) in
      let all : IsWorldInRange (with_node (with_node w v s) v (after (at w.node v s v))) = subst IsWorldInRange is stepped in
      let there : Fits (at (at w.node v s) v (after (at w.node v s v)) v) = all.nodes v in-net in
      subst (λ t. Fits (after t)) (at-here w.node v s) (subst Fits (at-here (at w.node v s) v (after (at w.node v s v))) there)

  -- the world in which that frame alone is under way from u to v
  abbrev ahead : ℕ → Frame → LocalState → World
  ahead u f s = with_link (with_node w v s) u v (item.Frame f ∷ [])

  ahead-fits : (u : ℕ) (f : Frame) (s : LocalState) → Fits s → IsTrue (frame_fits (ranges_of w.net) f) → IsWorldInRange (ahead u f s)
  ahead-fits u f s fits fine = record {
    network = range.network;
    nodes = (in-world s fits).nodes;
    capacity = at_pair-each (λ a b xs. IsTrue (are_joined w.net.edges a b) → length xs ≤ w.net.capacity) w.link u v (item.Frame f ∷ []) (λ _. range.network.limits.some_capacity)
        (λ a b apart. range.capacity a b);
    items = at_pair-each (λ a b xs. IsTrue (are_joined w.net.edges a b) → All (λ x. IsTrue (item_fits (ranges_of w.net) x)) xs) w.link u v (item.Frame f ∷ [])
        (λ _. one-item (ranges_of w.net) f fine) (λ a b apart. range.items a b);
  }

  -- a frame that a neighbour sent
  takes-fit : (u : ℕ) (f : Frame) (s : LocalState) → Contains (neighbours_of w.net v) u → Fits s → Fits (taken (site_of w.net v) u (item.Frame f) s)
  takes-fit u f s there fits = by (frame_fits (ranges_of w.net) f) refl where
    joined : IsTrue (are_joined w.net.edges u v)
    joined = subst IsTrue (back w.net.edges v u) ((near w.net v u).0 there).1

    by : (b : Bool) → frame_fits (ranges_of w.net) f ≡ b → Fits (taken (site_of w.net v) u (item.Frame f) s)
    by false e = subst (λ b. Fits (if b then heard (site_of w.net v) u f s else s)) (sym e) fits
    by true e =
        let after = λ (t : LocalState). taken (site_of w.net v) u (item.Frame f) t in
        let is : step (ahead u f s) (Take u v) ≡ with_link (with_node (ahead u f s) v (after (at w.node v s v))) u v []
        = take-step (ahead u f s) u v (item.Frame f) [] (take-fine (ahead u f s) u v (nodes w.net u v range.network joined) joined) (at_pair-here w.link u v (item.Frame f ∷ [])) in
        let stepped : IsWorldInRange (step (ahead u f s) (Take u v)) = stay (ahead u f s) (Take u v ∷ []) (ahead-fits u f s fits e) in
        let all : IsWorldInRange (with_link (with_node (ahead u f s) v (after (at w.node v s v))) u v []) = subst IsWorldInRange is stepped in
        let found : Fits (at (at w.node v s) v (after (at w.node v s v)) v) = all.nodes v in-net in
        subst (λ t. Fits (after t)) (at-here w.node v s) (subst Fits (at-here (at w.node v s) v (after (at w.node v s v))) found)

  deed-fits : (d : Deed) (s : LocalState) → IsOwn (site_of w.net v) d s → Fits s → Fits (after_deed (site_of w.net v) d s)
  deed-fits Ticks s own fits = by-step Ticks (Tick v) s fits (tick-step (with_node w v s) v in-net).1
  deed-fits (Sends u f) s own fits = fits
  deed-fits (Takes u f) s own fits = takes-fit u f s own fits
  deed-fits (Asks t) s own fits = by-step (Asks t) (Ask v t) s fits (ask-step (with_node w v s) v t in-net own)
  deed-fits (Leaves t) s own fits = by-step (Leaves t) (Leave v t) s fits (leave-step (with_node w v s) v t in-net)

  -- what it sends is the frame of a port in range
  sends-fit : (d : Deed) (s : LocalState) (u : ℕ) (f : Frame) → IsOwn (site_of w.net v) d s → Fits s → d ≡ Sends u f → IsTrue (frame_fits (ranges_of w.net) f)
  sends-fit d s u f own fits is =
      let sent : IsOwn (site_of w.net v) (Sends u f) s = subst (λ x. IsOwn (site_of w.net v) x s) is own in
      let port = All-contains (λ a. IsTrue (port_fits (ranges_of w.net) (s.port a))) (neighbours_of w.net v) u fits.ports sent.0 in
      subst (λ g. IsTrue (frame_fits (ranges_of w.net) g)) (sym sent.1) (frame-of-port (ranges_of w.net) (s.port u) port)

  -- all that a node in range sends
  pub sent-in_range : (u : ℕ) (ds : List Deed) (s last : LocalState) → Leads (site_of w.net v) ds s last → IsNodeInRange (site_of w.net v) s
      → AreInRange (ranges_of w.net) (sent_to u ds)
  sent-in_range u [] s last h fits = tt
  sent-in_range u (d ∷ ds) s last h fits =
      let own = first-deed (site_of w.net v) d ds s last h in
      one-more (ranges_of w.net) u d ds (λ f is. sends-fit d s u f own.0 fits is)
      (sent-in_range u ds (after_deed (site_of w.net v) d s) last own.1 (deed-fits d s own.0 fits))
