-- One mark happens: its event goes through, and what holds of what is to come holds again.
use Rattle.std.proofs.Common.{◌≡◌, ◌≢◌, ℕ, ◌<◌, ◌≤◌, List, [], ◌∷◌, ◌++◌, IsTrue, IsFalse, Bool, true, false, not, None, Some, Option, length, refl, ap, ◌∙◌, sym, subst, arith}
use Rattle.std.proofs.lemmas.Grind.{common_steps}
use Rattle.std.specs.List.{remove, Contains}
use Rattle.topology.specs.At.{at}
use Rattle.topology.specs.Network.{are_joined, neighbours_of}
use Rattle.topology.specs.Laws.{NeighboursAreJoined, JoinedBack}
use Rattle.topology.specs.declared.frame.Frame.{Frame}
use Rattle.link_model.specs.declared.item.Item.{Item}
use Rattle.link_model.specs.declared.item.Item.TheVariants as item
use Rattle.data_link.specs.Port.{frame_of}
use Rattle.lock_desk.specs.Desk.{ask_fault, is_number, is_stranger, after_leave}
use Rattle.lock_desk.specs.declared.fault.AskFault.{AskFault}
use Rattle.node_core.specs.Site.{site_of}
use Rattle.node_core.specs.State.{LocalState}
use Rattle.node_core.specs.Step.{taken, ticked}
use Rattle.run_model.specs.World.{World, at_pair, with_node, with_link}
use Rattle.run_model.specs.Step.{refusal, step, changed, handed_over, has_room, desk_fault, unless}
use Rattle.run_model.specs.declared.event.Event.{Event}
use Rattle.run_model.specs.declared.event.Event.TheVariants.{Send, Take, Lose, Tick, Ask, Leave}
use Rattle.run_model.specs.declared.event.EventFault.TheVariants.{Stranger}
use Rattle.node_core.specs.Deeds.{Deed, Ticks, Sends, Takes, Asks, Leaves, after_ask, Leads}
use Rattle.processes.specs.Timing.{after_deed}
use Rattle.processes.proofs.OneDeed.{IsOwn, first-deed}
use Rattle.processes.specs.Accounts.{Timed, deeds}
use Rattle.processes.specs.Links.{Act, Accepts, Gives, Loses, the_losses, Plays}
use Rattle.processes.specs.Marks.{Mark, Does, Drops, account_of, history_of}
use Rattle.processes.specs.Through.{IsDone}
use Rattle.run_model.proofs.Changed.{at-each, at-same, at_pair-each}
use Rattle.processes.proofs.OneMark.{done-here, done-there, send-here, send-there, take-here, take-there, drop-here, drop-there}

-- what holds of a world and of all marks that are to come
pub record Holds (w : World) (ms : List Mark) (last : World) : Type 0 where
  pub network : last.net ≡ w.net
  pub spares : last.spares ≡ w.spares
  pub nodes : (v : ℕ) → Leads (site_of w.net v) (deeds (account_of v ms)) (w.node v) (last.node v)
  pub nobody : (v : ℕ) → w.net.nodes ≤ v → account_of v ms ≡ []
  pub links : (u v : ℕ) → IsTrue (are_joined w.net.edges u v) → Plays w.net.capacity (w.link u v) (history_of u v ms) (last.link u v)
  pub nowhere : (u v : ℕ) → IsFalse (are_joined w.net.edges u v) → (the_losses (history_of u v ms) ≡ []) × (last.link u v ≡ w.link u v)

-- the event of a mark goes through, and leaves the network as it is
pub record GoesOn (w last : World) (e : Event) (ms : List Mark) : Type 0 where
  pub done : IsDone w e
  pub network : (step w e).net ≡ w.net
  pub holds : Holds (step w e) ms last

-- ---- what each step is

pub tick-step : (w : World) (v : ℕ) → v < w.net.nodes → (refusal w (Tick v) ≡ None) × (step w (Tick v) ≡ with_node w v (ticked (site_of w.net v) (w.node v)))
tick-step w v in-net = grind (arith, common_steps)

ask-fault : (w : World) (v t : ℕ) → v < w.net.nodes → IsTrue (is_number t) → refusal w (Ask v t) ≡ desk_fault (ask_fault t (w.node v).desk)
ask-fault w v t in-net number = grind (arith, common_steps)

with-itself : (w : World) (v : ℕ) → with_node w v (w.node v) ≡ w
with-itself w v = ap (λ f. record w { node = f }) (at-same w.node v)

pub ask-step : (w : World) (v t : ℕ) → v < w.net.nodes → IsTrue (is_number t)
    → step w (Ask v t) ≡ with_node w v (after_deed (site_of w.net v) (Asks t) (w.node v))
ask-step w v t in-net number = go (ask_fault t (w.node v).desk) refl where
  go : (r : Option AskFault) → ask_fault t (w.node v).desk ≡ r → step w (Ask v t) ≡ with_node w v (after_deed (site_of w.net v) (Asks t) (w.node v))
  go None e = let f = ask-fault w v t in-net number in grind (arith, common_steps)
  go (Some fault) e =
      let f = ask-fault w v t in-net number in
      let same : after_ask t (w.node v).desk ≡ (w.node v).desk = grind (arith, common_steps) in
      let stays : step w (Ask v t) ≡ w = grind (arith, common_steps) in
      stays ∙ sym (ap (λ d. with_node w v (record (w.node v) { desk = d })) same ∙ with-itself w v)

leave-fault : (w : World) (v t : ℕ) → v < w.net.nodes → refusal w (Leave v t) ≡ unless (not (is_stranger t (w.node v).desk)) Stranger
leave-fault w v t in-net = grind (arith, common_steps)

pub leave-step : (w : World) (v t : ℕ) → v < w.net.nodes → step w (Leave v t) ≡ with_node w v (after_deed (site_of w.net v) (Leaves t) (w.node v))
leave-step w v t in-net = go (is_stranger t (w.node v).desk) refl where
  go : (b : Bool) → is_stranger t (w.node v).desk ≡ b → step w (Leave v t) ≡ with_node w v (after_deed (site_of w.net v) (Leaves t) (w.node v))
  go false e = let f = leave-fault w v t in-net in grind (arith, common_steps)
  go true e =
      let f = leave-fault w v t in-net in
      let same : after_leave t (w.node v).desk ≡ (w.node v).desk = grind (arith, common_steps) in
      let stays : step w (Leave v t) ≡ w = grind (arith, common_steps) in
      stays ∙ sym (ap (λ d. with_node w v (record (w.node v) { desk = d })) same ∙ with-itself w v)

send-fine : (w : World) (u v : ℕ) → (u < w.net.nodes) × (v < w.net.nodes) → IsTrue (are_joined w.net.edges u v) → refusal w (Send u v) ≡ None
send-fine w u v nodes joined = grind (arith, common_steps)

pub send-step : (w : World) (u v : ℕ) → refusal w (Send u v) ≡ None → length (w.link u v) < w.net.capacity
    → IsTrue (has_room w u v) × (step w (Send u v) ≡ with_link w u v (w.link u v ++ item.Frame (frame_of ((w.node u).port v)) ∷ []))
send-step w u v fine room = grind (arith, common_steps)

pub take-fine : (w : World) (u v : ℕ) → (u < w.net.nodes) × (v < w.net.nodes) → IsTrue (are_joined w.net.edges u v) → refusal w (Take u v) ≡ None
take-fine w u v nodes joined = grind (arith, common_steps)

pub take-step : (w : World) (u v : ℕ) (x : Item) (rest : List Item) → refusal w (Take u v) ≡ None → w.link u v ≡ x ∷ rest
    → step w (Take u v) ≡ with_link (with_node w v (taken (site_of w.net v) u x (w.node v))) u v rest
take-step w u v x rest fine is =
    let changes : step w (Take u v) ≡ changed w (Take u v) = grind (arith, common_steps) in
    changes ∙ ap (handed_over w u v) is

pub lose-step : (w : World) (u v i : ℕ) → (u < w.net.nodes) × (v < w.net.nodes) → IsTrue (are_joined w.net.edges u v) → i < length (w.link u v)
    → (refusal w (Lose u v i) ≡ None) × (step w (Lose u v i) ≡ with_link w u v (remove (w.link u v) i))
lose-step w u v i nodes joined there = grind (arith, common_steps)

-- ---- one mark more

-- a mark that a node makes is of a node
pub somebody : (w last : World) (t v : ℕ) (d : Deed) (ms : List Mark) → Holds w (Does t v d ∷ ms) last → v < w.net.nodes
somebody w last t v d ms h =
    let none : w.net.nodes ≤ v → ⊥
    = λ out. let e : ◌≡◌ {A = List Timed} [] (record { instant = t; deed = d } ∷ account_of v ms) = sym (h.nobody v out) ∙ done-here t v d ms in absurd cc in
    grind (arith, none)

module _ (w last : World) (ms : List Mark) (t v : ℕ) (d : Deed) (h : Holds w (Does t v d ∷ ms) last) where
  leads-here : IsOwn (site_of w.net v) d (w.node v) × Leads (site_of w.net v) (deeds (account_of v ms)) (after_deed (site_of w.net v) d (w.node v)) (last.node v)
  leads-here = first-deed (site_of w.net v) d (deeds (account_of v ms)) (w.node v) (last.node v)
      (subst (λ xs. Leads (site_of w.net v) (deeds xs) (w.node v) (last.node v)) (done-here t v d ms) (h.nodes v))

  pub is-own : IsOwn (site_of w.net v) d (w.node v)
  is-own = leads-here.0

  leads-there : (a : ℕ) → a ≢ v → Leads (site_of w.net a) (deeds (account_of a ms)) (w.node a) (last.node a)
  leads-there a apart = subst (λ xs. Leads (site_of w.net a) (deeds xs) (w.node a) (last.node a)) (done-there t v d ms a apart) (h.nodes a)

  nobody-next : (a : ℕ) → w.net.nodes ≤ a → account_of a ms ≡ []
  nobody-next a out =
      let in-net = somebody w last t v d ms h in
      let apart : a ≢ v = λ e. absurd (omega (arith, e, out, in-net)) in
      sym (done-there t v d ms a apart) ∙ h.nobody a out

  -- each node goes on, v by its deed
  nodes-next : (a : ℕ) → Leads (site_of w.net a) (deeds (account_of a ms)) (at w.node v (after_deed (site_of w.net v) d (w.node v)) a) (last.node a)
  nodes-next = at-each (λ a s. Leads (site_of w.net a) (deeds (account_of a ms)) s (last.node a)) w.node v (after_deed (site_of w.net v) d (w.node v)) leads-here.1 leads-there

  -- a deed that changes no link
  pub inside : ((a b : ℕ) → history_of a b (Does t v d ∷ ms) ≡ history_of a b ms) → Holds (with_node w v (after_deed (site_of w.net v) d (w.node v))) ms last
  inside same = record {
    network = h.network;
    spares = h.spares;
    nodes = nodes-next;
    nobody = nobody-next;
    links = λ a b joined. subst (λ xs. Plays w.net.capacity (w.link a b) xs (last.link a b)) (same a b) (h.links a b joined);
    nowhere = λ a b apart. (ap the_losses (sym (same a b)) ∙ (h.nowhere a b apart).0, (h.nowhere a b apart).1);
  }

-- the same for the world after an event that is done
goes-on : (w last x : World) (e : Event) (ms : List Mark) → IsDone w e → step w e ≡ x → x.net ≡ w.net → Holds x ms last → GoesOn w last e ms
goes-on w last x e ms done is network holds = record {
  done = done;
  network = subst (λ y. y.net ≡ w.net) (sym is) network;
  holds = subst (λ y. Holds y ms last) (sym is) holds;
}

-- joined nodes are nodes
abbrev pub AreNodes : World → Type 0
AreNodes w = (u v : ℕ) → IsTrue (are_joined w.net.edges u v) → (u < w.net.nodes) × (v < w.net.nodes)

module _ (near : NeighboursAreJoined) (back : JoinedBack) (w last : World) (ms : List Mark) (nodes : AreNodes w) where
  -- a neighbour is joined
  joined-to : (v u : ℕ) → Contains (neighbours_of w.net v) u → IsTrue (are_joined w.net.edges v u)
  joined-to v u there = ((near w.net v u).0 there).1

  -- a mark that changes only one link leaves all others as they are, and what holds of them
  links-next : (m : Mark) (u v : ℕ) (xs : List Item) → Holds w (m ∷ ms) last → ((a b : ℕ) → ((a ≡ u) × (b ≡ v) → ⊥) → history_of a b (m ∷ ms) ≡ history_of a b ms)
      → Plays w.net.capacity xs (history_of u v ms) (last.link u v)
      → (a b : ℕ) → IsTrue (are_joined w.net.edges a b) → Plays w.net.capacity (at_pair w.link u v xs a b) (history_of a b ms) (last.link a b)
  links-next m u v xs h there here =
      at_pair-each (λ a b ys. IsTrue (are_joined w.net.edges a b) → Plays w.net.capacity ys (history_of a b ms) (last.link a b)) w.link u v xs
      (λ _. here)
      (λ a b apart is. subst (λ acts. Plays w.net.capacity (w.link a b) acts (last.link a b)) (there a b apart) (h.links a b is))

  nowhere-next : (m : Mark) (u v : ℕ) (xs : List Item) → Holds w (m ∷ ms) last → ((a b : ℕ) → ((a ≡ u) × (b ≡ v) → ⊥) → history_of a b (m ∷ ms) ≡ history_of a b ms)
      → IsTrue (are_joined w.net.edges u v)
      → (a b : ℕ) → IsFalse (are_joined w.net.edges a b) → (the_losses (history_of a b ms) ≡ []) × (last.link a b ≡ at_pair w.link u v xs a b)
  nowhere-next m u v xs h there joined =
      at_pair-each (λ a b ys. IsFalse (are_joined w.net.edges a b) → (the_losses (history_of a b ms) ≡ []) × (last.link a b ≡ ys)) w.link u v xs
      (λ out. absurd (not-apart joined out))
      (λ a b apart out. let was = h.nowhere a b out in (ap the_losses (sym (there a b apart)) ∙ was.0, was.1)) where
        not-apart : IsTrue (are_joined w.net.edges u v) → IsFalse (are_joined w.net.edges u v) → ⊥
        not-apart is out = grind (arith, common_steps)

  pub ticks : (t v : ℕ) → Holds w (Does t v Ticks ∷ ms) last → GoesOn w last (Tick v) ms
  ticks t v h =
      let now = tick-step w v (somebody w last t v Ticks ms h) in
      goes-on w last (with_node w v (ticked (site_of w.net v) (w.node v))) (Tick v) ms now.0 now.1 refl (inside w last ms t v Ticks h (λ a b. refl))

  pub asks : (t v k : ℕ) → Holds w (Does t v (Asks k) ∷ ms) last → GoesOn w last (Ask v k) ms
  asks t v k h =
      let in-net = somebody w last t v (Asks k) ms h in
      let number : IsTrue (is_number k) = is-own w last ms t v (Asks k) h in
      goes-on w last (with_node w v (after_deed (site_of w.net v) (Asks k) (w.node v))) (Ask v k) ms (ask-fault w v k in-net number) (ask-step w v k in-net number) refl
      (inside w last ms t v (Asks k) h (λ a b. refl))

  pub leaves : (t v k : ℕ) → Holds w (Does t v (Leaves k) ∷ ms) last → GoesOn w last (Leave v k) ms
  leaves t v k h =
      let in-net = somebody w last t v (Leaves k) ms h in
      goes-on w last (with_node w v (after_deed (site_of w.net v) (Leaves k) (w.node v))) (Leave v k) ms (leave-fault w v k in-net) (leave-step w v k in-net) refl
      (inside w last ms t v (Leaves k) h (λ a b. refl))

  pub sends : (t v u : ℕ) (f : Frame) → Holds w (Does t v (Sends u f) ∷ ms) last → GoesOn w last (Send v u) ms
  sends t v u f h =
      let d = Sends u f in
      let own = is-own w last ms t v d h in
      let joined = joined-to v u own.0 in
      let fine = send-fine w v u (nodes v u joined) joined in
      let here : Plays w.net.capacity (w.link v u) (Accepts t f ∷ history_of v u ms) (last.link v u)
      = subst (λ xs. Plays w.net.capacity (w.link v u) xs (last.link v u)) (send-here t v u f ms) (h.links v u joined) in
      let now = send-step w v u fine here.0 in
      let new = w.link v u ++ item.Frame (frame_of ((w.node v).port u)) ∷ [] in
      let newer : w.link v u ++ item.Frame f ∷ [] ≡ new = ap (λ g. w.link v u ++ item.Frame g ∷ []) own.1 in
      goes-on w last (with_link w v u new) (Send v u) ms (fine, now.0) now.1 refl (record {
        network = h.network;
        spares = h.spares;
        nodes = λ a. subst (λ s. Leads (site_of w.net a) (deeds (account_of a ms)) s (last.node a)) (at-same-at w.node v a) (nodes-next w last ms t v d h a);
        nobody = nobody-next w last ms t v d h;
        links = links-next (Does t v d) v u new h (send-there t v u f ms) (subst (λ xs. Plays w.net.capacity xs (history_of v u ms) (last.link v u)) newer here.1);
        nowhere = nowhere-next (Does t v d) v u new h (send-there t v u f ms) joined;
      }) where
        at-same-at : (f : ℕ → LocalState) (k i : ℕ) → at f k (f k) i ≡ f i
        at-same-at f k i = ap (λ g. g i) (at-same f k)

  pub takes : (t v u : ℕ) (f : Frame) → Holds w (Does t v (Takes u f) ∷ ms) last → GoesOn w last (Take u v) ms
  takes t v u f h =
      let d = Takes u f in
      let joined-back = joined-to v u (is-own w last ms t v d h) in
      let joined : IsTrue (are_joined w.net.edges u v) = subst IsTrue (back w.net.edges v u) joined-back in
      let fine = take-fine w u v (nodes u v joined) joined in
      let here : Plays w.net.capacity (w.link u v) (Gives t f ∷ history_of u v ms) (last.link u v)
      = subst (λ xs. Plays w.net.capacity (w.link u v) xs (last.link u v)) (take-here t v u f ms) (h.links u v joined) in
      let rest = here.0 in
      let some : 0 < length (w.link u v) = subst (λ xs. 0 < length xs) (sym here.1) (omega arith) in
      let now = take-step w u v (item.Frame f) rest fine here.1 in
      goes-on w last (with_link (with_node w v (taken (site_of w.net v) u (item.Frame f) (w.node v))) u v rest) (Take u v) ms (fine, some) now refl (record {
        network = h.network;
        spares = h.spares;
        nodes = nodes-next w last ms t v d h;
        nobody = nobody-next w last ms t v d h;
        links = links-next (Does t v d) u v rest h (take-there t v u f ms) here.2;
        nowhere = nowhere-next (Does t v d) u v rest h (take-there t v u f ms) joined;
      })

  pub drops : (t u v i : ℕ) → Holds w (Drops t u v i ∷ ms) last → GoesOn w last (Lose u v i) ms
  drops t u v i h =
      let joined : IsTrue (are_joined w.net.edges u v) = on-link (are_joined w.net.edges u v) refl in
      let here : Plays w.net.capacity (w.link u v) (Loses t i ∷ history_of u v ms) (last.link u v)
      = subst (λ xs. Plays w.net.capacity (w.link u v) xs (last.link u v)) (drop-here t u v i ms) (h.links u v joined) in
      let now = lose-step w u v i (nodes u v joined) joined here.0 in
      let new = remove (w.link u v) i in
      goes-on w last (with_link w u v new) (Lose u v i) ms now.0 now.1 refl (record {
        network = h.network;
        spares = h.spares;
        nodes = h.nodes;
        nobody = h.nobody;
        links = links-next (Drops t u v i) u v new h (drop-there t u v i ms) here.1;
        nowhere = nowhere-next (Drops t u v i) u v new h (drop-there t u v i ms) joined;
      }) where
        on-link : (b : Bool) → are_joined w.net.edges u v ≡ b → IsTrue b
        on-link true e = refl
        on-link false e =
            let out : IsFalse (are_joined w.net.edges u v) = e in
            let none : ◌≡◌ {A = List Act} (Loses t i ∷ the_losses (history_of u v ms)) [] = sym (ap the_losses (drop-here t u v i ms)) ∙ (h.nowhere u v out).0 in
            absurd cc
