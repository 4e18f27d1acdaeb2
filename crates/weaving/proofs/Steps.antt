-- One deed of a node, if the accounts match: its event is not refused, does what it says, and the
-- accounts of what is left match again.
use Rattle.std.proofs.Common.{◌≡◌, ◌≢◌, ℕ, suc, ◌<◌, ◌≤◌, List, [], ◌∷◌, ◌++◌, IsTrue, None, length, refl, ap, ◌∙◌, sym, subst, arith}
use Rattle.std.proofs.lemmas.Grind.{common_steps}
use Rattle.std.proofs.lemmas.List.{length-append}
use Rattle.std.specs.List.{AllByRecursion}
use Rattle.topology.specs.At.{at}
use Rattle.topology.specs.Network.{are_joined}
use Rattle.link_model.specs.declared.item.Item.{Item}
use Rattle.link_model.specs.declared.item.Item.TheVariants.{Frame}
use Rattle.run_model.specs.data_link.Port.{frame_of}
use Rattle.run_model.specs.node_core.Site.{site_of}
use Rattle.run_model.specs.node_core.Step.{taken, ticked}
use Rattle.run_model.specs.World.{World, with_node, with_link}
use Rattle.run_model.specs.Step.{refusal, step, changed, handed_over, has_room}
use Rattle.run_model.specs.declared.event.Event.{Event}
use Rattle.run_model.specs.declared.event.Event.TheVariants.{Send, Take, Tick}
use Rattle.weaving.specs.declared.journal.Stamped.{Stamped}
use Rattle.weaving.specs.Account.{Note, Ticked, Sent, Took, sent_to, taken_from, Leads}
use Rattle.weaving.specs.Matched.{IsLinkMatched, AreMatched, stamps}
use Rattle.weaving.specs.Laws.{HasEffect}
use Rattle.weaving.proofs.Accounts.{leads-by_send, leads-by_take}
use Rattle.run_model.proofs.Changed.{at-here, at-each, at-two, at_pair-each}
use Rattle.weaving.proofs.LinkSteps.{has-room, has-item, put, take}

-- joined nodes are nodes
abbrev pub AreNodes : World → Type 0
AreNodes w = (u v : ℕ) → IsTrue (are_joined w.net.edges u v) → (u < w.net.nodes) × (v < w.net.nodes)

-- no link holds more than its capacity
abbrev pub IsWithin : World → Type 0
IsWithin w = (u v : ℕ) → IsTrue (are_joined w.net.edges u v) → length (w.link u v) ≤ w.net.capacity

-- what an accepted event changes
step-is : (w : World) (e : Event) → refusal w e ≡ None → step w e ≡ changed w e
step-is w e fine = grind (arith, common_steps)

pub tick-fine : (w : World) (v : ℕ) → v < w.net.nodes → refusal w (Tick v) ≡ None
tick-fine w v in-net = grind (arith, common_steps)

pub send-fine : (w : World) (u v : ℕ) → (u < w.net.nodes) × (v < w.net.nodes) → IsTrue (are_joined w.net.edges u v) → refusal w (Send u v) ≡ None
send-fine w u v nodes joined = grind (arith, common_steps)

-- a world that goes on by an event
pub record GoesOn (w last : World) (e : Event) (next : ℕ → List Note) : Type 0 where
  pub fine : refusal w e ≡ None
  pub effect : HasEffect w e
  pub network : (step w e).net ≡ w.net
  pub within : IsWithin (step w e)
  pub matched : AreMatched (step w e) next last

-- the same, by what the event changes
goes-on : (w last : World) (e : Event) (next : ℕ → List Note) → refusal w e ≡ None → HasEffect w e → (changed w e).net ≡ w.net
    → IsWithin (changed w e) → AreMatched (changed w e) next last → GoesOn w last e next
goes-on w last e next fine effect network within matched =
    let same = sym (step-is w e fine) in record {
      fine = fine;
      effect = effect;
      network = subst (λ x. x.net ≡ w.net) same network;
      within = subst IsWithin same within;
      matched = subst (λ x. AreMatched x next last) same matched;
    }

not-sent : (b u : ℕ) (s : Stamped) (ds : List Note) → b ≢ u → sent_to b (Sent u s ∷ ds) ≡ sent_to b ds
not-sent b u s ds other = grind (arith, common_steps)

not-taken : (a u : ℕ) (s : Stamped) (ds : List Note) → a ≢ u → taken_from a (Took u s ∷ ds) ≡ taken_from a ds
not-taken a u s ds other = grind (arith, common_steps)

module _ (w last : World) (account : ℕ → List Note) (v : ℕ) (ds : List Note) (nodes : AreNodes w) (within : IsWithin w) (m : AreMatched w account last) where
  -- only a node has a deed
  somebody : (d : Note) → account v ≡ d ∷ ds → v < w.net.nodes
  somebody d is =
      let none : w.net.nodes ≤ v → ⊥ = λ out. let e : ◌≡◌ {A = List Note} [] (d ∷ ds) = sym (m.nobody v out) ∙ is in absurd cc in
      grind (arith, none)

  nobody-next : (d : Note) → account v ≡ d ∷ ds → (a : ℕ) → w.net.nodes ≤ a → at account v ds a ≡ []
  nobody-next d is = at-each (λ a xs. w.net.nodes ≤ a → xs ≡ []) account v ds (λ out. let in-net = somebody d is in absurd (omega arith)) (λ a _. m.nobody a)

  leads-here : (d : Note) → account v ≡ d ∷ ds → Leads w.net v (w.node v) (d ∷ ds) (last.node v)
  leads-here d is = subst (λ xs. Leads w.net v (w.node v) xs (last.node v)) is (m.nodes v)

  -- a part of an account, with one deed and without it
  part-here : (part : List Note → List Stamped) (d : Note) → account v ≡ d ∷ ds → (s : Stamped) → part (d ∷ ds) ≡ s ∷ part ds → part (account v) ≡ s ∷ part (at account v ds v)
  part-here part d is s first = ap part is ∙ (first ∙ ap (λ xs. s ∷ part xs) (sym (at-here account v ds)))

  part-there : (part : List Note → List Stamped) (d : Note) → account v ≡ d ∷ ds → (a : ℕ) → (a ≡ v → part (d ∷ ds) ≡ part ds) → part (account a) ≡ part (at account v ds a)
  part-there part d is a skip = at-each (λ i xs. (i ≡ a) → part (account i) ≡ part xs) account v ds (λ same. ap part is ∙ skip (sym same)) (λ i _ _. refl) a refl

  -- what is sent and taken
  sent-same : (d : Note) → account v ≡ d ∷ ds → (b : ℕ) → sent_to b (d ∷ ds) ≡ sent_to b ds → (a : ℕ) → sent_to b (account a) ≡ sent_to b (at account v ds a)
  sent-same d is b skip a = part-there (sent_to b) d is a (λ _. skip)

  taken-same : (d : Note) → account v ≡ d ∷ ds → (a : ℕ) → taken_from a (d ∷ ds) ≡ taken_from a ds → (b : ℕ) → taken_from a (account b) ≡ taken_from a (at account v ds b)
  taken-same d is a skip b = part-there (taken_from a) d is b (λ _. skip)

  linked : (u b : ℕ) (xs ys : List Stamped) → sent_to b (account u) ≡ xs → taken_from u (account b) ≡ ys
      → IsLinkMatched w.net.capacity (w.link u b) xs ys (last.link u b)
  linked u b xs ys sends takes =
      subst (λ zs. IsLinkMatched w.net.capacity (w.link u b) xs zs (last.link u b)) takes
      (subst (λ zs. IsLinkMatched w.net.capacity (w.link u b) zs (taken_from u (account b)) (last.link u b)) sends (m.links u b))

  pub ticks : (t : ℕ) → account v ≡ Ticked t ∷ ds → GoesOn w last (Tick v) (at account v ds)
  ticks t is =
      let d = Ticked t in
      let new = ticked (site_of w.net v) (w.node v) in
      goes-on w last (Tick v) (at account v ds) (tick-fine w v (somebody d is)) tt refl within (record {
        network = m.network;
        spares = m.spares;
        nodes = at-two (λ a state xs. Leads w.net a state xs (last.node a)) w.node account v new ds (leads-here d is) (λ a _. m.nodes a);
        nobody = nobody-next d is;
        links = λ a b. linked a b (sent_to b (at account v ds a)) (taken_from a (at account v ds b)) (sent-same d is b refl a) (taken-same d is a refl b);
      })

  -- what v sends to u, and no other link
  sent-here : (u : ℕ) (s : Stamped) → account v ≡ Sent u s ∷ ds → sent_to u (account v) ≡ s ∷ sent_to u (at account v ds v)
  sent-here u s is = part-here (sent_to u) (Sent u s) is s (grind (arith, common_steps))

  sent-there : (u : ℕ) (s : Stamped) → account v ≡ Sent u s ∷ ds → (a b : ℕ) → ((a ≡ v) × (b ≡ u) → ⊥)
      → sent_to b (account a) ≡ sent_to b (at account v ds a)
  sent-there u s is a b apart = part-there (sent_to b) (Sent u s) is a (λ same. not-sent b u s ds (λ e. apart (same, e)))

  pub sends : (u : ℕ) (s : Stamped) → account v ≡ Sent u s ∷ ds → AllByRecursion (λ t. s.stamp ≤ t) (stamps (taken_from v (at account v ds u)))
      → GoesOn w last (Send v u) (at account v ds)
  sends u s is late =
      let d = Sent u s in
      let next = at account v ds in
      let leads = leads-by_send w.net v (w.node v) u s ds (last.node v) (leads-here d is) in
      let joined = leads.0 in
      let here : IsLinkMatched w.net.capacity (w.link v u) (s ∷ sent_to u (next v)) (taken_from v (next u)) (last.link v u)
      = linked v u (s ∷ sent_to u (next v)) (taken_from v (next u)) (sent-here u s is) (taken-same d is v refl u) in
      let fits = within v u joined in
      let room = has-room w.net.capacity (w.link v u) s (sent_to u (next v)) (taken_from v (next u)) (last.link v u) here fits late in
      let roomy : IsTrue (has_room w v u) = grind (arith, common_steps) in
      let new = w.link v u ++ Frame (frame_of ((w.node v).port u)) ∷ [] in
      let newer : new ≡ w.link v u ++ s.item ∷ [] = ap (λ x. w.link v u ++ x ∷ []) (sym leads.1) in
      let longer : length new ≡ suc (length (w.link v u)) = omega (arith, length-append (w.link v u) (Frame (frame_of ((w.node v).port u)) ∷ [])) in
      let is-sent : changed w (Send v u) ≡ with_link w v u new = grind (arith, common_steps) in
      let after : GoesOn w last (Send v u) next = goes-on w last (Send v u) next (send-fine w v u (nodes v u joined) joined) roomy
      (subst (λ x. x.net ≡ w.net) (sym is-sent) refl)
      (subst IsWithin (sym is-sent)
      (λ a b. at_pair-each (λ i j xs. IsTrue (are_joined w.net.edges i j) → length xs ≤ w.net.capacity) w.link v u new (λ _. omega (arith, longer, room)) (λ i j _. within i j) a b))
      (subst (λ x. AreMatched x next last) (sym is-sent) (record {
        network = m.network;
        spares = m.spares;
        nodes = at-each (λ a xs. Leads w.net a (w.node a) xs (last.node a)) account v ds leads.2 (λ a _. m.nodes a);
        nobody = nobody-next d is;
        links = at_pair-each (λ a b xs. IsLinkMatched w.net.capacity xs (sent_to b (next a)) (taken_from a (next b)) (last.link a b)) w.link v u new
            (subst (λ xs. IsLinkMatched w.net.capacity xs (sent_to u (next v)) (taken_from v (next u)) (last.link v u)) (sym newer)
            (put w.net.capacity (w.link v u) s (sent_to u (next v)) (taken_from v (next u)) (last.link v u) room here))
            (λ a b apart. linked a b (sent_to b (next a)) (taken_from a (next b)) (sent-there u s is a b apart) (taken-same d is a refl b));
      })) in after

  taken-here : (u : ℕ) (s : Stamped) → account v ≡ Took u s ∷ ds → taken_from u (account v) ≡ s ∷ taken_from u (at account v ds v)
  taken-here u s is = part-here (taken_from u) (Took u s) is s (grind (arith, common_steps))

  taken-there : (u : ℕ) (s : Stamped) → account v ≡ Took u s ∷ ds → (a b : ℕ) → ((a ≡ u) × (b ≡ v) → ⊥)
      → taken_from a (account b) ≡ taken_from a (at account v ds b)
  taken-there u s is a b apart = part-there (taken_from a) (Took u s) is b (λ same. not-taken a u s ds (λ e. apart (e, same)))

  -- a take of a link on which this item is the oldest
  takes-first : (u : ℕ) (s : Stamped) → account v ≡ Took u s ∷ ds → (x : Item) (rest : List Item) → w.link u v ≡ x ∷ rest → GoesOn w last (Take u v) (at account v ds)
  takes-first u s is x rest link-is =
      let d = Took u s in
      let next = at account v ds in
      let leads = leads-by_take w.net v (w.node v) u s ds (last.node v) (leads-here d is) in
      let joined = leads.0 in
      let here : IsLinkMatched w.net.capacity (x ∷ rest) (sent_to v (next u)) (s ∷ taken_from u (next v)) (last.link u v)
      = subst (λ xs. IsLinkMatched w.net.capacity xs (sent_to v (next u)) (s ∷ taken_from u (next v)) (last.link u v)) link-is
      (linked u v (sent_to v (next u)) (s ∷ taken_from u (next v)) (sent-same d is v refl u) (taken-here u s is)) in
      let fits : suc (length rest) ≤ w.net.capacity = subst (λ xs. length xs ≤ w.net.capacity) link-is (within u v joined) in
      let both = take w.net.capacity x rest (sent_to v (next u)) s (taken_from u (next v)) (last.link u v) fits here in
      let new = taken (site_of w.net v) u x (w.node v) in
      let is-taken : changed w (Take u v) ≡ with_link (with_node w v new) u v rest = ap (handed_over w u v) link-is in
      goes-on w last (Take u v) next (send-fine w u v (nodes u v joined) joined) (subst (λ xs. 0 < length xs) (sym link-is) (omega arith))
      (subst (λ y. y.net ≡ w.net) (sym is-taken) refl)
      (subst IsWithin (sym is-taken)
      (λ a b. at_pair-each (λ i j xs. IsTrue (are_joined w.net.edges i j) → length xs ≤ w.net.capacity) w.link u v rest (λ _. omega (arith, fits)) (λ i j _. within i j) a b))
      (subst (λ y. AreMatched y next last) (sym is-taken) (record {
        network = m.network;
        spares = m.spares;
        nodes = at-two (λ a state xs. Leads w.net a state xs (last.node a)) w.node account v new ds
            (subst (λ y. Leads w.net v (taken (site_of w.net v) u y (w.node v)) ds (last.node v)) (sym both.0) leads.1) (λ a _. m.nodes a);
        nobody = nobody-next d is;
        links = at_pair-each (λ a b xs. IsLinkMatched w.net.capacity xs (sent_to b (next a)) (taken_from a (next b)) (last.link a b)) w.link u v rest both.1
            (λ a b apart. linked a b (sent_to b (next a)) (taken_from a (next b)) (sent-same d is b refl a) (taken-there u s is a b apart));
      }))

  pub takes : (u : ℕ) (s : Stamped) → account v ≡ Took u s ∷ ds → AllByRecursion (λ t. s.stamp ≤ t) (stamps (sent_to v (at account v ds u)))
      → GoesOn w last (Take u v) (at account v ds)
  takes u s is late =
      let d = Took u s in
      let next = at account v ds in
      let here = linked u v (sent_to v (next u)) (s ∷ taken_from u (next v)) (sent-same d is v refl u) (taken-here u s is) in
      let some : 0 < length (w.link u v) = has-item w.net.capacity (w.link u v) (sent_to v (next u)) s (taken_from u (next v)) (last.link u v) here late in
      go (w.link u v) refl some where
        go : (xs : List Item) → w.link u v ≡ xs → 0 < length xs → GoesOn w last (Take u v) (at account v ds)
        go [] e some = absurd (omega arith)
        go (x ∷ rest) e some = takes-first u s is x rest e
