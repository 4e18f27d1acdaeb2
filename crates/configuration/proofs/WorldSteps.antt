-- A changed node or link, as a step of the world.
use Rattle.std.proofs.Common.{◌≡◌, ◌∙◌, ◌/◌, sym, ap, Bool, true, false, ℕ, ◌<◌, ◌++◌, [], ◌∷◌, arith, refl, IsTrue, List, Option, None, Some, Result, Ok, Err, is_none, IsOk, ◌↔◌, length, slice_set, slice_get, drop, remove, not, nat_lt, if◌then◌else◌}
use Rattle.std.proofs.lemmas.Grind.{common_steps}
use Rattle.run_model.specs.link_model.declared.item.Item.{Item}
use Rattle.run_model.specs.link_model.declared.item.Item.TheVariants as item
use Rattle.run_model.specs.data_link.Port.{frame_of}
use Rattle.run_model.specs.node_core.Site.{site_of}
use Rattle.run_model.specs.node_core.Step.{taken, ticked}
use Rattle.run_model.specs.node_core.View.{NodeView, site_in, state_of}
use Rattle.run_model.specs.World.{World, at_pair, site, with_link, with_node}
use Rattle.run_model.specs.node_core.lock_desk.Desk.{after_leave, ask_fault, asked, is_number, is_stranger}
use Rattle.run_model.specs.node_core.lock_desk.declared.fault.AskFault.{AskFault}
use Rattle.run_model.specs.Step.{changed, desk_fault, first_fault, handed_over, link_fault, node_fault, refusal, step, ticket_fault, unless}
use Rattle.std.proofs.Math.Path.{fun_ext}
use Rattle.topology.specs.At.{at}
use Rattle.run_model.specs.node_core.State.{LocalState}
use Rattle.run_model.specs.declared.event.EventFault.{EventFault}
use Rattle.run_model.specs.declared.event.EventFault.TheVariants.{NoItem, NoNode, OutOfRange, Stranger}
use Rattle.run_model.specs.declared.event.Event.{Event}
use Rattle.run_model.specs.declared.event.Event.TheVariants.{Send, Take, Lose, Tick, Ask, Leave}
use Rattle.configuration.specs.LinksView.{LinksView, spare_pairs, under_way}
use Rattle.configuration.specs.ConfigurationView.{ConfigurationView, states_of, world_of}
use Rattle.run_model.specs.Happened.{happened, taken_of}
use Rattle.run_model.specs.declared.happened.Happened.{Happened}
use Rattle.run_model.specs.declared.happened.Happened.TheVariants.{FullTick, LendingTick, Taken, NothingTaken, Lost, Other}
use Rattle.configuration.specs.Answers.{Answers}
use Rattle.configuration.proofs.NodePlaces.{IsNodeAt, state-is, site-is, now-states}

-- an accepted event makes its change
pub step-is : (w : World) (e : Event) → refusal w e ≡ None → step w e ≡ changed w e
step-is w e none = grind (arith, common_steps)

-- a changed node is a changed node of the world
pub now-world : (w : ConfigurationView) (v p : ℕ) (old new : NodeView) → IsNodeAt w.links.net w.nodes v p old
    → world_of (record w { nodes = slice_set w.nodes p new }) ≡ with_node (world_of w) v (state_of new)
now-world w v p old new h = ap (λ f. record { net = w.links.net; spares = spare_pairs w.links; node = f; link = under_way w.links }) (now-states w.links.net w.nodes v p old h new)

-- the answer to an accepted event is what it did, and to a refused one its refusal
pub accepted : (w new : ConfigurationView) (e : Event) (did : Happened) → refusal (world_of w) e ≡ None → world_of new ≡ step (world_of w) e
    → did ≡ happened (world_of w) e → Answers w e new (Ok did)
accepted w new e did none leads is = record { world = leads; ok = none; did = is; err = tt }

pub refused : (w new : ConfigurationView) (e : Event) (fault : EventFault) → refusal (world_of w) e ≡ Some fault → world_of new ≡ step (world_of w) e
    → Answers w e new (Err fault)
refused w new e fault some leads = record { world = leads; ok = tt; did = tt; err = some }

pub tick-world : (w : ConfigurationView) (v p : ℕ) (old new : NodeView) → IsNodeAt w.links.net w.nodes v p old → refusal (world_of w) (Tick v) ≡ None
    → state_of new ≡ ticked (site_in old) (state_of old) → world_of (record w { nodes = slice_set w.nodes p new }) ≡ step (world_of w) (Tick v)
tick-world w v p old new h none is =
    let state : state_of new ≡ ticked (site_of w.links.net v) (states_of w.links.net w.nodes v) =
    is ∙ ap (λ s. ticked s (state_of old)) (site-is w.links.net w.nodes v p old h) ∙ ap (ticked (site_of w.links.net v)) (sym (state-is w.links.net w.nodes v p old h)) in
    now-world w v p old new h ∙ ap (with_node (world_of w) v) state ∙ sym (step-is (world_of w) (Tick v) none)

-- the node in the world after its tick is the node that has ticked
node-there : (f : ℕ → LocalState) (v : ℕ) (s : LocalState) → at f v s v ≡ s
node-there f v s = grind (arith, common_steps)

pub tick-answers : (w : ConfigurationView) (v p : ℕ) (old new : NodeView) → IsNodeAt w.links.net w.nodes v p old → refusal (world_of w) (Tick v) ≡ None
    → state_of new ≡ ticked (site_in old) (state_of old) → (did : Happened)
    → did ≡ (if is_none (state_of new).desk.lent then FullTick v else LendingTick v)
    → Answers w (Tick v) (record w { nodes = slice_set w.nodes p new }) (Ok did)
tick-answers w v p old new h none is did did-is =
    let leads = tick-world w v p old new h none is in
    let there : (step (world_of w) (Tick v)).node v ≡ state_of new =
    ap (λ k. k.node v) (sym leads) ∙ ap (λ f. f v) (now-states w.links.net w.nodes v p old h new) ∙ node-there (states_of w.links.net w.nodes) v (state_of new) in
    accepted w (record w { nodes = slice_set w.nodes p new }) (Tick v) did none leads
    (did-is ∙ ap (λ s. if is_none s.desk.lent then FullTick v else LendingTick v) (sym there))

-- a test that chooses between links chooses between worlds
either-links : (w : World) (test : Bool) (links : ℕ → ℕ → List Item)
    → record w { link = if test then links else w.link } ≡ (if test then record w { link = links } else w)
either-links w true links = refl
either-links w false links = refl

-- no edge has joined or gone: the network and the spare links are the same
pub record IsBeside (old new : LinksView) : Type 0 where
  pub net : new.net ≡ old.net
  pub spares : new.spares ≡ old.spares

-- changed links of the same network are changed links of the world
pub links-world : (w : ConfigurationView) (links : LinksView) → IsBeside w.links links
    → world_of (record w { links = links }) ≡ record (world_of w) { link = under_way links }
links-world w links beside =
    ap (λ n. record { net = n; spares = spare_pairs links; node = states_of n w.nodes; link = under_way links }) beside.net
    ∙ ap (λ xs. record { net = w.links.net; spares = length xs / 2; node = states_of w.links.net w.nodes; link = under_way links }) beside.spares

-- an item put on a link is a frame sent in the world
send-world : (w : ConfigurationView) (links : LinksView) (u v : ℕ) → refusal (world_of w) (Send u v) ≡ None → IsBeside w.links links
    → under_way links ≡ (if nat_lt (length (under_way w.links u v)) w.links.net.capacity
    then at_pair (under_way w.links) u v (under_way w.links u v ++ item.Frame (frame_of ((states_of w.links.net w.nodes u).port v)) ∷ []) else under_way w.links)
    → world_of (record w { links = links }) ≡ step (world_of w) (Send u v)
send-world w links u v none net is =
    let put : ℕ → ℕ → List Item = at_pair (under_way w.links) u v (under_way w.links u v ++ item.Frame (frame_of ((states_of w.links.net w.nodes u).port v)) ∷ []) in
    links-world w links net ∙ ap (λ l. record (world_of w) { link = l }) is
    ∙ either-links (world_of w) (nat_lt (length (under_way w.links u v)) w.links.net.capacity) put
    ∙ sym (step-is (world_of w) (Send u v) none)

-- a refused event changes nothing
pub step-refused : (w : World) (e : Event) (fault : EventFault) → refusal w e ≡ Some fault → step w e ≡ w
step-refused w e fault some = grind (arith, common_steps)

pub send-answers : (w : ConfigurationView) (links : LinksView) (u v : ℕ) → refusal (world_of w) (Send u v) ≡ None → IsBeside w.links links
    → under_way links ≡ (if nat_lt (length (under_way w.links u v)) w.links.net.capacity
    then at_pair (under_way w.links) u v (under_way w.links u v ++ item.Frame (frame_of ((states_of w.links.net w.nodes u).port v)) ∷ []) else under_way w.links)
    → Answers w (Send u v) (record w { links = links }) (Ok Other)
send-answers w links u v none net is = accepted w (record w { links = links }) (Send u v) Other none (send-world w links u v none net is) refl

-- writing a node as it is changes nothing
same-node : (w : World) (v i : ℕ) → at w.node v (w.node v) i ≡ w.node i
same-node w v i = grind (arith, common_steps)

pub unchanged : (w : World) (v : ℕ) → with_node w v (w.node v) ≡ w
unchanged w v = ap (λ f. record w { node = f }) (fun_ext (λ i. same-node w v i))

-- of two refusals the first is none, and a test that holds refuses nothing
pub first-none : (a b : Option EventFault) → a ≡ None → first_fault a b ≡ b
first-none a b none = rw none refl

pub unless-holds : (test : Bool) (fault : EventFault) → IsTrue test → unless test fault ≡ None
unless-holds true fault holds = refl
unless-holds false fault holds = absurd cc

pub unless-fails : (test : Bool) (fault : EventFault) → ¬ IsTrue test → unless test fault ≡ Some fault
unless-fails true fault fails = absurd (fails refl)
unless-fails false fault fails = refl

-- ---- an event at the node v, which is at place p and was `old`

module _ (w : ConfigurationView) (v p : ℕ) (old : NodeView) (h : IsNodeAt w.links.net w.nodes v p old) where
  state-there : (world_of w).node v ≡ state_of old
  state-there = state-is w.links.net w.nodes v p old h

  node-found : node_fault (world_of w) v ≡ None
  node-found = unless-holds (nat_lt v w.links.net.nodes) NoNode (let below = h.in_net in grind (arith, common_steps, below))

  -- it changes the node as f says
  pub node-done : (e : Event) (f : LocalState → LocalState) (new : NodeView) → refusal (world_of w) e ≡ None
      → changed (world_of w) e ≡ with_node (world_of w) v (f ((world_of w).node v)) → state_of new ≡ f (state_of old)
      → world_of (record w { nodes = slice_set w.nodes p new }) ≡ step (world_of w) e
  node-done e f new none makes is =
      now-world w v p old new h ∙ ap (with_node (world_of w) v) (is ∙ ap f (sym state-there)) ∙ sym makes ∙ sym (step-is (world_of w) e none)

  -- it is refused and leaves the node unchanged
  pub node-refused : (e : Event) (fault : EventFault) (new : NodeView) → refusal (world_of w) e ≡ Some fault → new ≡ old
      → world_of (record w { nodes = slice_set w.nodes p new }) ≡ step (world_of w) e
  node-refused e fault new some same =
      let state : state_of new ≡ (world_of w).node v = ap state_of same ∙ sym state-there in
      now-world w v p old new h ∙ ap (with_node (world_of w) v) state ∙ unchanged (world_of w) v ∙ sym (step-refused (world_of w) e fault some)

  -- what the desk refuses is refused
  ask-refusal : (t : ℕ) → IsTrue (is_number t) → refusal (world_of w) (Ask v t) ≡ desk_fault (ask_fault t (state_of old).desk)
  ask-refusal t number =
      first-none (node_fault (world_of w) v) (first_fault (ticket_fault t) (desk_fault (ask_fault t ((world_of w).node v).desk))) node-found
      ∙ first-none (ticket_fault t) (desk_fault (ask_fault t ((world_of w).node v).desk)) (unless-holds (is_number t) OutOfRange number)
      ∙ ap (λ s. desk_fault (ask_fault t s.desk)) state-there

  pub ask-refused : (t : ℕ) (cause : AskFault) (fault : EventFault) (new : NodeView) → IsTrue (is_number t) → ask_fault t (state_of old).desk ≡ Some cause
      → desk_fault (Some cause) ≡ Some fault → new ≡ old
      → Answers w (Ask v t) (record w { nodes = slice_set w.nodes p new }) (Err fault)
  ask-refused t cause fault new number why is same =
      let some : refusal (world_of w) (Ask v t) ≡ Some fault = ask-refusal t number ∙ ap desk_fault why ∙ is in
      refused w (record w { nodes = slice_set w.nodes p new }) (Ask v t) fault some (node-refused (Ask v t) fault new some same)

  pub ask-accepted : (t : ℕ) (new : NodeView) → IsTrue (is_number t) → ask_fault t (state_of old).desk ≡ None
      → state_of new ≡ record (state_of old) { desk = asked t (state_of old).desk } → Answers w (Ask v t) (record w { nodes = slice_set w.nodes p new }) (Ok Other)
  ask-accepted t new number free is =
      let none : refusal (world_of w) (Ask v t) ≡ None = ask-refusal t number ∙ ap desk_fault free in
      accepted w (record w { nodes = slice_set w.nodes p new }) (Ask v t) Other none
      (node-done (Ask v t) (λ s. record s { desk = asked t s.desk }) new none refl is) refl

  leave-refusal : (t : ℕ) → refusal (world_of w) (Leave v t) ≡ unless (not (is_stranger t (state_of old).desk)) Stranger
  leave-refusal t =
      first-none (node_fault (world_of w) v) (unless (not (is_stranger t ((world_of w).node v).desk)) Stranger) node-found
      ∙ ap (λ s. unless (not (is_stranger t s.desk)) Stranger) state-there

  pub leave-refused : (t : ℕ) (new : NodeView) → is_stranger t (state_of old).desk ≡ true → new ≡ old
      → Answers w (Leave v t) (record w { nodes = slice_set w.nodes p new }) (Err Stranger)
  leave-refused t new stranger same =
      let some : refusal (world_of w) (Leave v t) ≡ Some Stranger = leave-refusal t ∙ ap (λ test. unless (not test) Stranger) stranger in
      refused w (record w { nodes = slice_set w.nodes p new }) (Leave v t) Stranger some (node-refused (Leave v t) Stranger new some same)

  pub leave-accepted : (t : ℕ) (new : NodeView) → is_stranger t (state_of old).desk ≡ false
      → state_of new ≡ record (state_of old) { desk = after_leave t (state_of old).desk } → Answers w (Leave v t) (record w { nodes = slice_set w.nodes p new }) (Ok Other)
  leave-accepted t new known is =
      let none : refusal (world_of w) (Leave v t) ≡ None = leave-refusal t ∙ ap (λ test. unless (not test) Stranger) known in
      accepted w (record w { nodes = slice_set w.nodes p new }) (Leave v t) Other none
      (node-done (Leave v t) (λ s. record s { desk = after_leave t s.desk }) new none refl is) refl

-- ---- an event on the link from u to v

module _ (w : ConfigurationView) (u v : ℕ) (found : link_fault (world_of w) u v ≡ None) where
  pub take-refusal : refusal (world_of w) (Take u v) ≡ None
  take-refusal = found

  pub lose-refusal : (i : ℕ) → refusal (world_of w) (Lose u v i) ≡ unless (nat_lt i (length (under_way w.links u v))) NoItem
  lose-refusal i = first-none (link_fault (world_of w) u v) (unless (nat_lt i (length (under_way w.links u v))) NoItem) found

  pub lose-there : {T E : Type 0} (r : Result T E) (i : ℕ) → (IsOk r ↔ (i < length (under_way w.links u v))) → IsOk r → refusal (world_of w) (Lose u v i) ≡ None
  lose-there r i iff ok =
      let less = iff.0 ok in
      lose-refusal i ∙ unless-holds (nat_lt i (length (under_way w.links u v))) NoItem (grind (arith, common_steps, less))

  pub lose-past : {E : Type 0} (x : E) (i : ℕ) → (IsOk {T = ℕ} (Err x) ↔ (i < length (under_way w.links u v))) → refusal (world_of w) (Lose u v i) ≡ Some NoItem
  lose-past x i iff =
      lose-refusal i ∙ unless-fails (nat_lt i (length (under_way w.links u v))) NoItem (λ less. let t = iff.1 (grind (arith, common_steps, less)) in absurd cc)

  -- an item of it is lost
  lose-done : (links : LinksView) (i : ℕ) → refusal (world_of w) (Lose u v i) ≡ None → IsBeside w.links links
      → under_way links ≡ at_pair (under_way w.links) u v (remove (under_way w.links u v) i)
      → world_of (record w { links = links }) ≡ step (world_of w) (Lose u v i)
  lose-done links i none net is =
      links-world w links net ∙ ap (λ l. record (world_of w) { link = l }) is ∙ sym (step-is (world_of w) (Lose u v i) none)

  pub lose-answers : (links : LinksView) (i : ℕ) → refusal (world_of w) (Lose u v i) ≡ None → IsBeside w.links links
      → under_way links ≡ at_pair (under_way w.links) u v (remove (under_way w.links u v) i)
      → Answers w (Lose u v i) (record w { links = links }) (Ok (Lost u v i))
  lose-answers links i none net is = accepted w (record w { links = links }) (Lose u v i) (Lost u v i) none (lose-done links i none net is) refl

  -- a link that was not changed
  pub links-refused : (links : LinksView) (e : Event) (fault : EventFault) → refusal (world_of w) e ≡ Some fault → IsBeside w.links links
      → under_way links ≡ under_way w.links → Answers w e (record w { links = links }) (Err fault)
  links-refused links e fault some net is =
      refused w (record w { links = links }) e fault some
      (links-world w links net ∙ ap (λ l. record (world_of w) { link = l }) is ∙ sym (step-refused (world_of w) e fault some))

  -- v takes the oldest item, if there is one
  handed-some : (world : World) (items : List Item) (taken-item : Item) → Some taken-item ≡ slice_get items 0
      → handed_over world u v items ≡ with_link (with_node world v (taken (site world v) u taken-item (world.node v))) u v (drop 1 items)
  handed-some world [] taken-item some = absurd cc
  handed-some world (first ∷ rest) taken-item some =
      let same : taken-item ≡ first = cc in
      rw same refl

  same-link : (l : ℕ → ℕ → List Item) (i j : ℕ) → l u v ≡ [] → at_pair l u v (drop 1 (l u v)) i j ≡ l i j
  same-link l i j none = grind (arith, common_steps, none)

  found-some : (world : World) (items : List Item) (taken-item : Item) → Some taken-item ≡ slice_get items 0 → Taken u v ≡ taken_of u v items
  found-some world [] taken-item some = absurd cc
  found-some world (first ∷ rest) taken-item some = refl

  handed-none : (items : List Item) → None ≡ slice_get items 0 → items ≡ []
  handed-none [] none = refl
  handed-none (first ∷ rest) none = absurd cc

  none-leads : (links : LinksView) → IsBeside w.links links → under_way links ≡ at_pair (under_way w.links) u v (drop 1 (under_way w.links u v))
      → under_way w.links u v ≡ [] → world_of (record w { links = links }) ≡ step (world_of w) (Take u v)
  none-leads links net is empty =
      links-world w links net
      ∙ ap (λ l. record (world_of w) { link = l }) (is ∙ fun_ext (λ i. fun_ext (λ j. same-link (under_way w.links) i j empty)))
      ∙ sym (step-is (world_of w) (Take u v) found ∙ ap (handed_over (world_of w) u v) empty)

  pub take-none : (links : LinksView) → IsBeside w.links links → None ≡ slice_get (under_way w.links u v) 0
      → under_way links ≡ at_pair (under_way w.links) u v (drop 1 (under_way w.links u v))
      → Answers w (Take u v) (record w { links = links }) (Ok (NothingTaken u v))
  take-none links net none is =
      let empty : under_way w.links u v ≡ [] = handed-none (under_way w.links u v) none in
      accepted w (record w { links = links }) (Take u v) (NothingTaken u v) found (none-leads links net is empty) (sym (ap (taken_of u v) empty))

  some-leads : (p : ℕ) (old new : NodeView) (links : LinksView) (item : Item) → IsNodeAt w.links.net w.nodes v p old
      → IsBeside w.links links → Some item ≡ slice_get (under_way w.links u v) 0
      → under_way links ≡ at_pair (under_way w.links) u v (drop 1 (under_way w.links u v))
      → state_of new ≡ taken (site_in old) u item (state_of old)
      → world_of (record { nodes = slice_set w.nodes p new; links = links }) ≡ step (world_of w) (Take u v)
  some-leads p old new links item h net some is state =
      let with-new : ConfigurationView = record w { nodes = slice_set w.nodes p new } in
      let state-new : state_of new ≡ taken (site_of w.links.net v) u item (states_of w.links.net w.nodes v) =
      state ∙ ap (λ s. taken s u item (state_of old)) (site-is w.links.net w.nodes v p old h)
      ∙ ap (taken (site_of w.links.net v) u item) (sym (state-is w.links.net w.nodes v p old h)) in
      links-world with-new links net
      ∙ ap (λ l. record (world_of with-new) { link = l }) is
      ∙ ap {A = World} (λ k. record k { link = at_pair (under_way w.links) u v (drop 1 (under_way w.links u v)) })
      (now-world w v p old new h ∙ ap (with_node (world_of w) v) state-new)
      ∙ sym (step-is (world_of w) (Take u v) found ∙ handed-some (world_of w) (under_way w.links u v) item some)

  pub take-some : (p : ℕ) (old new : NodeView) (links : LinksView) (item : Item) → IsNodeAt w.links.net w.nodes v p old
      → IsBeside w.links links → Some item ≡ slice_get (under_way w.links u v) 0
      → under_way links ≡ at_pair (under_way w.links) u v (drop 1 (under_way w.links u v))
      → state_of new ≡ taken (site_in old) u item (state_of old)
      → Answers w (Take u v) (record { nodes = slice_set w.nodes p new; links = links }) (Ok (Taken u v))
  take-some p old new links item h net some is state =
      accepted w (record { nodes = slice_set w.nodes p new; links = links }) (Take u v) (Taken u v) found (some-leads p old new links item h net some is state)
      (found-some (world_of w) (under_way w.links u v) item some)
