-- A network that is set up to match a world matches it.
use Rattle.std.proofs.Common.{◌≡◌, ◌∙◌, ap, sym, refl, subst, arith, ℕ, zero, suc, ◌+◌, ◌<◌, ◌≤◌, ◌==◌, ◌&&◌, ◌||◌, Bool, true, false, List, [], ◌∷◌, ◌++◌, length, map, replicate, append_assoc, IsTrue, ◌⊎◌, inl, inr, nat_lt}
use Rattle.std.proofs.lemmas.Bool.{cases_eq}
use Rattle.std.proofs.lemmas.Grind.{common_steps}
use Rattle.std.proofs.lemmas.List.{append-nil, length-set, length-append, length-replicate}
use Rattle.std.proofs.lemmas.List.Elements.{recursion_from_All}
use Rattle.std.specs.List.{AllByRecursion, range_with_len}
use Rattle.std.specs.Prelude.{if◌then◌else◌, filter, slice_index_or, slice_set}
use Rattle.topology.specs.Laws.{JoinedAreNodes}
use Rattle.topology.specs.Network.{Network, IsAcceptedNetwork, Edge, is_between, are_joined, neighbours_of}
use Rattle.topology.specs.Ranges.{ranges_of}
use Rattle.topology.specs.declared.frame.Ranges.{Ranges}
use Rattle.flight_records.specs.declared.entry.Noted.TheVariants as noted
use Rattle.flight_records.specs.declared.entry.StatePart.{StatePart}
use Rattle.node_follower.specs.Following.{AreSame}
use Rattle.node_follower.specs.Parts.{state_parts}
use Rattle.configuration.specs.link_model.declared.item.Item.{Item}
use Rattle.configuration.specs.node_core.Site.{Site}
use Rattle.configuration.specs.node_core.State.{LocalState, IsNodeInRange}
use Rattle.configuration.specs.run_model.SameFrame.{IsSameFrame}
use Rattle.configuration.specs.run_model.World.{World, IsWorldInRange, item_fits, site, with_link}
use Rattle.configuration.specs.run_model.Start.{world_with_spares}
use Rattle.configuration.specs.run_model.Step.{step}
use Rattle.configuration.specs.run_model.Run.{run}
use Rattle.configuration.specs.run_model.Laws.{RunsJoin, RangesStay, FrameStays, StartIsInRange}
use Rattle.configuration.specs.run_model.declared.event.Event.TheVariants.{Damage}
use Rattle.configuration.specs.run_model.declared.event.Harm.{Harm}
use Rattle.configuration.specs.run_model.declared.event.Harm.TheVariants as harm
use Rattle.record_gathering.specs.declared.facts.Fact.{Fact}
use Rattle.record_gathering.specs.declared.facts.Fact.TheVariants.{State, Written}
use Rattle.record_gathering.specs.Accepted.{accepted}
use Rattle.record_gathering.specs.Entries.{entry_events, part_events}
use Rattle.record_gathering.specs.Facts.{edge_harm, lacking, edge_changes, edge_facts, state_facts, states_below, link_facts, links_from, links_below, fact_events, queues_with, set_events, set_queues, set_up}
use Rattle.record_gathering.specs.Queues.{queue_of, queues_after, queue_after_part}
use Rattle.record_gathering.specs.States.{parts_events, state_events}
use Rattle.record_gathering.specs.SetUps.{IsSameAs, HasEdgesOf, with_edges_of}
use Rattle.record_gathering.proofs.Accepted.{accepted-leads}
use Rattle.record_gathering.proofs.FactsJoin.{events-join}
use Rattle.record_gathering.proofs.Whole.{state-reached}

-- ---- sites

filter-same : (f g : ℕ → Bool) (xs : List ℕ) → ((x : ℕ) → f x ≡ g x) → filter f xs ≡ filter g xs
filter-same f g [] h = refl
filter-same f g (x ∷ xs) h =
    ap (λ (b : Bool). if b then x ∷ filter f xs else filter f xs) (h x)
    ∙ ap (λ (l : List ℕ). if g x then x ∷ l else l) (filter-same f g xs h)

-- a node's site by the numbers of its network
abbrev site_by : ℕ → ℕ → ℕ → ℕ → ℕ → List ℕ → Site
site_by v n root capacity lease us = record {
  id = v;
  is_root = v == root;
  ranges = ranges_of (record { nodes = n; root = root; capacity = capacity; lease = lease; edges = [] });
  lease = lease;
  neighbours = us;
}

site-same : (m w : World) (v : ℕ) → IsSameFrame w.net m.net → HasEdgesOf w m → site m v ≡ site w v
site-same m w v same edges =
    let n = m.net in
    let o = w.net in
    let near : neighbours_of n v ≡ neighbours_of o v =
    ap (λ (k : ℕ). filter (are_joined n.edges v) (range_with_len 0 k)) same.nodes
    ∙ filter-same (are_joined n.edges v) (are_joined o.edges v) (range_with_len 0 o.nodes) (edges v) in
    ap (λ (k : ℕ). site_by v k n.root n.capacity n.lease (neighbours_of n v)) same.nodes
    ∙ ap (λ (k : ℕ). site_by v o.nodes k n.capacity n.lease (neighbours_of n v)) same.root
    ∙ ap (λ (k : ℕ). site_by v o.nodes o.root k n.lease (neighbours_of n v)) same.capacity
    ∙ ap (λ (k : ℕ). site_by v o.nodes o.root o.capacity k (neighbours_of n v)) same.lease
    ∙ ap (λ (us : List ℕ). site_by v o.nodes o.root o.capacity o.lease us) near

frame-both : (a b c : Network) → IsSameFrame a b → IsSameFrame b c → IsSameFrame a c
frame-both a b c x y = record {
  nodes = y.nodes ∙ x.nodes;
  root = y.root ∙ x.root;
  capacity = y.capacity ∙ x.capacity;
  lease = y.lease ∙ x.lease;
}

frame-back : (a b : Network) → IsSameFrame a b → IsSameFrame b a
frame-back a b x = record {
  nodes = sym x.nodes;
  root = sym x.root;
  capacity = sym x.capacity;
  lease = sym x.lease;
}

-- ---- queues

queues-length : (queues : List (List ℕ)) (fs : List Fact) → length (set_queues queues fs) ≡ length queues
queues-length queues [] = refl
queues-length queues (State v p ∷ fs) = queues-length (queues_with queues (State v p)) fs ∙ length-set queues v _
queues-length queues (Written h ∷ fs) = queues-length queues fs

set-got : (xs : List (List ℕ)) (v : ℕ) (x : List ℕ) → v < length xs → slice_index_or (slice_set xs v x) v [] ≡ x
set-got [] v x l = absurd (omega (arith, l))
set-got (y ∷ ys) zero x l = refl
set-got (y ∷ ys) (suc v) x l = set-got ys v x (omega (arith, l))

is-below : (v n : ℕ) → v < n → nat_lt v n ≡ true
is-below v n l = grind (arith, common_steps)

-- ---- what is set

-- the states of the first k nodes are set
record AreStatesSet (w m : World) (k : ℕ) (new : World) : Type 0 where
  pub done : (v : ℕ) → v < k → AreSame (site w v).neighbours (new.node v) (w.node v)
  pub links : new.link ≡ m.link
  pub network : new.net ≡ m.net
  pub range : IsWorldInRange new

-- these items came after those of the link from u to v, and nothing else changed
record AreItemsSet (x : World) (u v : ℕ) (items : List Item) (new : World) : Type 0 where
  pub link : new.link u v ≡ x.link u v ++ items
  pub others : (i j : ℕ) → ((i == u) && (j == v)) ≡ false → new.link i j ≡ x.link i j
  pub node : new.node ≡ x.node
  pub network : new.net ≡ x.net

-- the link from i to j comes before that from u to k
abbrev IsBefore : ℕ → ℕ → ℕ → ℕ → Type 0
IsBefore i j u k = (i < u) ⊎ ((i ≡ u) × (j < k))

-- the links that come before that from u to k hold what they hold in w, and the others nothing
record AreLinksSet (w x : World) (u k : ℕ) (new : World) : Type 0 where
  pub set : (i j : ℕ) → IsBefore i j u k → IsTrue (are_joined w.net.edges i j) → new.link i j ≡ w.link i j
  pub free : (i j : ℕ) → (IsBefore i j u k → ⊥) → new.link i j ≡ []
  pub node : new.node ≡ x.node
  pub network : new.net ≡ x.net

apart : (i j u k : ℕ) → IsBefore i j u k → ((i == u) && (j == k)) ≡ false
apart i j u k (inl l) = grind (arith, common_steps)
apart i j u k (inr (e, l)) = grind (arith, common_steps)

more : (i j u k : ℕ) → IsBefore i j u k → IsBefore i j u (suc k)
more i j u k (inl l) = inl l
more i j u k (inr (e, l)) = inr (e, omega (arith, l))

-- the last of them is that from u to k
last : (i j u k : ℕ) → IsBefore i j u (suc k) → IsBefore i j u k ⊎ ((i ≡ u) × (j ≡ k))
last i j u k (inl l) = inl (inl l)
last i j u k (inr (e, l)) = elim (cases_eq j k) [
  | inl same ↦ inr (e, same)
  | inr other ↦ inl (inr (e, omega (arith, l, other)))
]

free-apart : (i j u k : ℕ) → (IsBefore i j u (suc k) → ⊥) → ((i == u) && (j == k)) ≡ false
free-apart i j u k never = elim (cases_eq i u) [
  | inl same ↦ elim (cases_eq j k) [
    | inl equal ↦ absurd (never (inr (same, omega (arith, equal))))
    | inr other ↦ grind (arith, common_steps)
  ]
  | inr other ↦ grind (arith, common_steps)
]

not-itself : (u k : ℕ) → IsBefore u k u k → ⊥
not-itself u k (inl l) = omega (arith, l)
not-itself u k (inr (e, l)) = omega (arith, l)

none-before : (i j : ℕ) → IsBefore i j 0 0 → ⊥
none-before i j (inl l) = omega (arith, l)
none-before i j (inr (e, l)) = omega (arith, l)

into-row : (i j u n : ℕ) → j < n → IsBefore i j (suc u) 0 → IsBefore i j u n
into-row i j u n within (inl l) = elim (cases_eq i u) [
  | inl same ↦ inr (same, within)
  | inr other ↦ inl (omega (arith, l, other))
]
into-row i j u n within (inr (e, l)) = absurd (omega (arith, l))

out-of-row : (i j u n : ℕ) → IsBefore i j u n → IsBefore i j (suc u) 0
out-of-row i j u n (inl l) = inl (omega (arith, l))
out-of-row i j u n (inr (e, l)) = inl (omega (arith, e))

not-joined : (joined : ℕ → ℕ → Bool) (i j u k : ℕ) → i ≡ u → j ≡ k → joined i j ≡ true → joined u k ≡ false → ⊥
not-joined joined i j u k p q there nowhere = cc (p, q, there, nowhere)

ranges-same : (a b : Network) → IsSameFrame a b → ranges_of b ≡ ranges_of a
ranges-same a b same =
    ap (λ (n : ℕ). ranges_of (record { nodes = n; root = b.root; capacity = b.capacity; lease = b.lease; edges = b.edges })) same.nodes
    ∙ ap (λ (c : ℕ). ranges_of (record { nodes = a.nodes; root = b.root; capacity = c; lease = b.lease; edges = b.edges })) same.capacity

-- nothing is under way
abbrev IsEmpty : World → Type 0
IsEmpty x = (i j : ℕ) → x.link i j ≡ []

-- an edge that joins or parts puts nothing under way
join-empty : (x : World) (u v : ℕ) → IsEmpty x → IsEmpty (step x (Damage (harm.Join u v)))
join-empty x u v empty i j = let here = empty i j in grind (arith, common_steps)

part-empty : (x : World) (u v : ℕ) → IsEmpty x → IsEmpty (step x (Damage (harm.Part u v)))
part-empty x u v empty i j = let here = empty i j in grind (arith, common_steps)

-- ---- the state of a node

module _ (join : RunsJoin) (frame : FrameStays) (ranges : RangesStay) (nodes : JoinedAreNodes) where
  one-first : (x : World) (queues : List (List ℕ)) (h : Harm) (fs : List Fact)
      → run x (set_events x queues (Written h ∷ fs)) ≡ run (step x (Damage h)) (set_events (step x (Damage h)) queues fs)
  one-first x queues h fs =
      let one = fact_events x queues (Written h) in
      join x one (set_events (run x one) queues fs)
      ∙ ap (λ (z : World). run z (set_events z queues fs)) (accepted-leads x (Damage h ∷ []))

  two-parts : (x : World) (queues : List (List ℕ)) (fs gs : List Fact)
      → run x (set_events x queues (fs ++ gs))
      ≡ run (run x (set_events x queues fs)) (set_events (run x (set_events x queues fs)) (set_queues queues fs) gs)
  two-parts x queues fs gs =
      let es = set_events x queues fs in
      ap (run x) (events-join join x queues fs gs) ∙ join x es (set_events (run x es) (set_queues queues fs) gs)

  state-run : (w : World) (queues : List (List ℕ)) (v : ℕ) (ps : List StatePart) → v < w.net.nodes → v < length queues
      → run w (set_events w queues (map (State v) ps)) ≡ run w (parts_events w (queue_of queues v) v ps)
  state-run w queues v [] here long = refl
  state-run w queues v (p ∷ ps) here long =
      let q = queue_of queues v in
      let raw = part_events w q v p in
      let all = entry_events w q v (noted.State p) in
      let first = accepted w all in
      let later = queues_after queues v (noted.State p) in
      let m = run w first in
      let is : all ≡ raw = ap (λ (b : Bool). if b then raw else []) (is-below v w.net.nodes here) in
      let to : m ≡ run w raw = accepted-leads w all ∙ ap (run w) is in
      let here_too : v < m.net.nodes = omega (arith, (frame w first).nodes, here) in
      let long_too : v < length later = omega (arith, length-set queues v (queue_after_part q p), long) in
      let rest = set_events m later (map (State v) ps) in
      let after = queue_after_part q p in
      join w first rest
      ∙ state-run m later v ps here_too long_too
      ∙ ap (λ (x : List ℕ). run m (parts_events m x v ps)) (set-got queues v after long)
      ∙ ap (λ (x : World). run x (parts_events x after v ps)) to
      ∙ sym (join w raw (parts_events (run w raw) after v ps))

  states-set : (network : ℕ) (w m : World) (queues : List (List ℕ)) → IsWorldInRange w → IsWorldInRange m
      → ((v : ℕ) → site m v ≡ site w v) → m.net.nodes ≡ w.net.nodes → w.net.nodes ≤ length queues
      → (k : ℕ) → k ≤ w.net.nodes → AreStatesSet w m k (run m (set_events m queues (states_below network w k)))
  states-set network w m queues range from sites number long zero le =
      record { done = λ v l. absurd (omega (arith, l)); links = refl; network = refl; range = from }
  states-set network w m queues range from sites number long (suc v) le =
      let fs = states_below network w v in
      let gs = state_facts network (site w v) (w.node v) in
      let es = set_events m queues fs in
      let x = run m es in
      let qs = set_queues queues fs in
      let s = w.node v in
      let before = states-set network w m queues range from sites number long v (omega (arith, le)) in
      let here : v < x.net.nodes = omega (arith, le, number, ap (λ (n : Network). n.nodes) before.network) in
      let long_too : v < length qs = omega (arith, le, long, queues-length queues fs) in
      let is_site : site x v ≡ site w v = ap (λ (n : Network). site (record x { net = n }) v) before.network ∙ sites v in
      let at : IsNodeInRange (site x v) s =
      subst (λ (t : Site). IsNodeInRange t s) (sym is_site) (range.nodes v (omega (arith, le))) in
      let r = state-reached join ranges nodes v s x (queue_of qs v) network before.range here at in
      let y = run x (state_events x (queue_of qs v) network v s) in
      let to : run m (set_events m queues (fs ++ gs)) ≡ run x (state_events x (queue_of qs v) v network s) =
      two-parts m queues fs gs
      ∙ state-run x qs v (state_parts network (site w v) s) here long_too
      ∙ ap (λ (t : Site). run x (parts_events x (queue_of qs v) v (state_parts network t s))) (sym is_site) in
      subst (AreStatesSet w m (suc v)) (sym to)
      (record {
        done = λ u l.
            elim (cases_eq u v) [
              | inl e ↦ subst (λ (t : ℕ). AreSame (site w t).neighbours ((run x (state_events x (queue_of qs v) v network s)).node t) (w.node t)) (sym e)
                  (subst (λ (t : Site). AreSame t.neighbours ((run x (state_events x (queue_of qs v) v network s)).node v) s) is_site r.same)
              | inr ne ↦ subst (λ (t : LocalState). AreSame (site w u).neighbours t (w.node u)) (sym (r.others u ne))
                  (before.done u (omega (arith, l, ne)))
            ];
        links = r.links ∙ before.links;
        network = r.network ∙ before.network;
        range = ranges x (state_events x (queue_of qs v) v network s) before.range;
      })

  -- ---- what is under way

  item-set : (x : World) (queues : List (List ℕ)) (u v : ℕ) (item : Item) → u < x.net.nodes → v < x.net.nodes
      → IsTrue (are_joined x.net.edges u v) → IsTrue (item_fits (ranges_of x.net) item) → length (x.link u v) < x.net.capacity
      → run x (fact_events x queues (Written (harm.Item u v item))) ≡ with_link x u v (x.link u v ++ item ∷ [])
  item-set x queues u v item first second joined fits room =
      let to : step x (Damage (harm.Item u v item)) ≡ with_link x u v (x.link u v ++ item ∷ []) = grind (arith, common_steps) in
      accepted-leads x (Damage (harm.Item u v item) ∷ []) ∙ to

  with-link : (x : World) (u v : ℕ) (items : List Item) → (with_link x u v items).link u v ≡ items
  with-link x u v items = grind (arith, common_steps)

  items-set : (items : List Item) (x : World) (queues : List (List ℕ)) (u v : ℕ) → u < x.net.nodes → v < x.net.nodes
      → IsTrue (are_joined x.net.edges u v) → AllByRecursion (λ item. IsTrue (item_fits (ranges_of x.net) item)) items
      → length (x.link u v) + length items ≤ x.net.capacity
      → AreItemsSet x u v items (run x (set_events x queues (map (λ (item : Item). Written (harm.Item u v item)) items)))
  items-set [] x queues u v first second joined fits room =
      record { link = sym (append-nil (x.link u v)); others = λ i j n. refl; node = refl; network = refl }
  items-set (item ∷ items) x queues u v first second joined fits room =
      let one = fact_events x queues (Written (harm.Item u v item)) in
      let y = with_link x u v (x.link u v ++ item ∷ []) in
      let to : run x one ≡ y = item-set x queues u v item first second joined fits.0 (omega (arith, room)) in
      let rest : List Fact = map (λ (i : Item). Written (harm.Item u v i)) items in
      let now : y.link u v ≡ x.link u v ++ item ∷ [] = with-link x u v (x.link u v ++ item ∷ []) in
      let less : length (y.link u v) + length items ≤ y.net.capacity =
      omega (arith, ap length now, length-append (x.link u v) (item ∷ []), room) in
      let more = items-set items y queues u v first second joined fits.1 less in
      let all : run x (one ++ set_events (run x one) queues rest) ≡ run y (set_events y queues rest) =
      join x one (set_events (run x one) queues rest) ∙ ap (λ (z : World). run z (set_events z queues rest)) to in
      subst (AreItemsSet x u v (item ∷ items)) (sym all)
      (record {
        link = more.link ∙ ap (λ (l : List Item). l ++ items) now ∙ append_assoc (x.link u v) (item ∷ []) items;
        others = λ i j n. more.others i j n ∙ ap (λ (b : Bool). if b then x.link u v ++ item ∷ [] else x.link i j) n;
        node = more.node;
        network = more.network;
      })

  -- an item of nodes that are not joined is refused
  item-refused : (x : World) (queues : List (List ℕ)) (u v : ℕ) (item : Item) → are_joined x.net.edges u v ≡ false
      → run x (fact_events x queues (Written (harm.Item u v item))) ≡ x
  item-refused x queues u v item apart =
      let to : step x (Damage (harm.Item u v item)) ≡ x = grind (arith, common_steps) in
      accepted-leads x (Damage (harm.Item u v item) ∷ []) ∙ to

  items-refused : (items : List Item) (x : World) (queues : List (List ℕ)) (u v : ℕ) → are_joined x.net.edges u v ≡ false
      → run x (set_events x queues (map (λ (item : Item). Written (harm.Item u v item)) items)) ≡ x
  items-refused [] x queues u v apart = refl
  items-refused (item ∷ items) x queues u v apart =
      let one = fact_events x queues (Written (harm.Item u v item)) in
      let rest : List Fact = map (λ (i : Item). Written (harm.Item u v i)) items in
      join x one (set_events (run x one) queues rest)
      ∙ ap (λ (z : World). run z (set_events z queues rest)) (item-refused x queues u v item apart)
      ∙ items-refused items x queues u v apart

  link-set : (w x : World) → IsWorldInRange w → IsSameFrame w.net x.net → HasEdgesOf w x → (queues : List (List ℕ)) (u k : ℕ) (m : World)
      → u < w.net.nodes → k < w.net.nodes → AreLinksSet w x u k m
      → AreLinksSet w x u (suc k) (run m (set_events m queues (link_facts w u k)))
  link-set w x range same edges queues u k m first second before =
      let new = run m (set_events m queues (link_facts w u k)) in
      let frame_is : IsSameFrame w.net m.net = subst (IsSameFrame w.net) (sym before.network) same in
      let nothing : m.link u k ≡ [] = before.free u k (not-itself u k) in
      let by : (b : Bool) → are_joined w.net.edges u k ≡ b → AreLinksSet w x u (suc k) new =
      elim [
        | true ↦ λ t.
            let joined : are_joined m.net.edges u k ≡ true = ap (λ (n : Network). are_joined n.edges u k) before.network ∙ edges u k ∙ t in
            let room : length (m.link u k) + length (w.link u k) ≤ m.net.capacity =
            omega (arith, ap length nothing, range.capacity u k t, frame_is.capacity) in
            let fits : AllByRecursion (λ item. IsTrue (item_fits (ranges_of m.net) item)) (w.link u k) =
            subst (λ (r : Ranges). AllByRecursion (λ item. IsTrue (item_fits r item)) (w.link u k)) (sym (ranges-same w.net m.net frame_is))
            (recursion_from_All (λ item. IsTrue (item_fits (ranges_of w.net) item)) (w.link u k) (range.items u k t)) in
            let r = items-set (w.link u k) m queues u k (omega (arith, first, frame_is.nodes)) (omega (arith, second, frame_is.nodes)) joined fits room in
            record {
              set = λ i j b e.
                  elim (last i j u k b) [
                    | inl earlier ↦ r.others i j (apart i j u k earlier) ∙ before.set i j earlier e
                    | inr (p, q) ↦ ap (λ (z : ℕ). new.link z j) p ∙ ap (λ (z : ℕ). new.link u z) q ∙ r.link
                        ∙ ap (λ (l : List Item). l ++ w.link u k) nothing
                        ∙ sym (ap (λ (z : ℕ). w.link z j) p ∙ ap (λ (z : ℕ). w.link u z) q)
                  ];
              free = λ i j never. r.others i j (free-apart i j u k never) ∙ before.free i j (λ b. never (more i j u k b));
              node = r.node ∙ before.node;
              network = r.network ∙ before.network;
            }
        | false ↦ λ t.
            let joined : are_joined m.net.edges u k ≡ false = ap (λ (n : Network). are_joined n.edges u k) before.network ∙ edges u k ∙ t in
            let stays : new ≡ m = items-refused (w.link u k) m queues u k joined in
            subst (AreLinksSet w x u (suc k)) (sym stays)
            (record {
              set = λ i j b e.
                  elim (last i j u k b) [
                    | inl earlier ↦ before.set i j earlier e
                    | inr (p, q) ↦ absurd (not-joined (are_joined w.net.edges) i j u k p q e t)
                  ];
              free = λ i j never. before.free i j (λ b. never (more i j u k b));
              node = before.node;
              network = before.network;
            })
      ] in
      by (are_joined w.net.edges u k) refl

  row-set : (w x : World) → IsWorldInRange w → IsSameFrame w.net x.net → HasEdgesOf w x → (queues : List (List ℕ)) (u : ℕ) (m : World)
      → u < w.net.nodes → AreLinksSet w x u 0 m → (k : ℕ) → k ≤ w.net.nodes
      → AreLinksSet w x u k (run m (set_events m queues (links_from w u k)))
  row-set w x range same edges queues u m first before zero le = before
  row-set w x range same edges queues u m first before (suc k) le =
      let fs = links_from w u k in
      let gs = link_facts w u k in
      let n = run m (set_events m queues fs) in
      subst (AreLinksSet w x u (suc k)) (sym (two-parts m queues fs gs))
      (link-set w x range same edges (set_queues queues fs) u k n first (omega (arith, le))
      (row-set w x range same edges queues u m first before k (omega (arith, le))))

  next-row : (w x : World) → IsWorldInRange w → (u : ℕ) (m : World) → AreLinksSet w x u w.net.nodes m → AreLinksSet w x (suc u) 0 m
  next-row w x range u m done = record {
    set = λ i j b e. done.set i j (into-row i j u w.net.nodes (nodes w.net i j range.network e).1 b) e;
    free = λ i j never. done.free i j (λ b. never (out-of-row i j u w.net.nodes b));
    node = done.node;
    network = done.network;
  }

  rows-set : (w x : World) → IsWorldInRange w → IsSameFrame w.net x.net → HasEdgesOf w x → IsEmpty x
      → (queues : List (List ℕ)) (u : ℕ) → u ≤ w.net.nodes → AreLinksSet w x u 0 (run x (set_events x queues (links_below w u)))
  rows-set w x range same edges empty queues zero le = record {
    set = λ i j b e. absurd (none-before i j b);
    free = λ i j never. empty i j;
    node = refl;
    network = refl;
  }
  rows-set w x range same edges empty queues (suc u) le =
      let fs = links_below w u in
      let gs = links_from w u w.net.nodes in
      let m = run x (set_events x queues fs) in
      subst (AreLinksSet w x (suc u) 0) (sym (two-parts x queues fs gs))
      (next-row w x range u (run m (set_events m (set_queues queues fs) gs))
      (row-set w x range same edges (set_queues queues fs) u m (omega (arith, le))
      (rows-set w x range same edges empty queues u (omega (arith, le))) w.net.nodes (omega arith)))

  -- ---- edges alone put nothing under way

  -- one of them at the front, unless it is passed over
  one-empty : (b : Bool) (x : World) (queues : List (List ℕ)) (h : Harm) (fs : List Fact) → IsEmpty x → IsEmpty (step x (Damage h))
      → ((y : World) → IsEmpty y → IsEmpty (run y (set_events y queues fs)))
      → IsEmpty (run x (set_events x queues (if b then fs else Written h ∷ fs)))
  one-empty true x queues h fs empty after rest i j = rest x empty i j
  one-empty false x queues h fs empty after rest i j =
      ap (λ (z : World). z.link i j) (one-first x queues h fs) ∙ rest (step x (Damage h)) after i j

  change-empty : (joins : Bool) (x : World) (e : Edge) → IsEmpty x → IsEmpty (step x (Damage (edge_harm joins e)))
  change-empty true x e empty = join-empty x e.0 e.1 empty
  change-empty false x e empty = part-empty x e.0 e.1 empty

  lacking-empty : (joins : Bool) (net : Network) (es : List Edge) (queues : List (List ℕ)) (x : World) → IsEmpty x
      → IsEmpty (run x (set_events x queues (lacking joins net es)))
  lacking-empty joins net [] queues x empty = empty
  lacking-empty joins net (e ∷ es) queues x empty =
      one-empty (are_joined net.edges e.0 e.1) x queues (edge_harm joins e) (lacking joins net es) empty (change-empty joins x e empty)
      (lacking-empty joins net es queues)

  -- facts in two parts, of which neither puts anything under way
  both-empty : (x : World) (queues : List (List ℕ)) (fs gs : List Fact) → IsEmpty (run x (set_events x queues fs))
      → ((qs : List (List ℕ)) (y : World) → IsEmpty y → IsEmpty (run y (set_events y qs gs)))
      → IsEmpty (run x (set_events x queues (fs ++ gs)))
  both-empty x queues fs gs first rest i j =
      let m = run x (set_events x queues fs) in
      ap (λ (z : World). z.link i j) (two-parts x queues fs gs) ∙ rest (set_queues queues fs) m first i j

  changes-empty : (net other : Network) (queues : List (List ℕ)) (x : World) → IsEmpty x
      → IsEmpty (run x (set_events x queues (edge_changes net other)))
  changes-empty net other queues x empty =
      both-empty x queues (lacking true net other.edges) (lacking false other net.edges) (lacking-empty true net other.edges queues x empty)
      (lacking-empty false other net.edges)

  edges-empty : (net other : Network) (x : World) (queues : List (List ℕ)) → IsEmpty x
      → IsEmpty (run x (set_events x queues (edge_facts net other)))
  edges-empty net other x queues empty =
      both-empty x queues (edge_changes net other) (edge_changes net other) (changes-empty net other queues x empty)
      (changes-empty net other)

  -- ---- all is set

  pub set-up-reached : StartIsInRange → (network pairs : ℕ) (net : Network) (w : World) → IsAcceptedNetwork net → IsWorldInRange w
      → IsSameFrame net w.net → HasEdgesOf w (with_edges_of net pairs w)
      → IsSameAs w (run (world_with_spares net pairs) (set_up network net pairs w))
  set-up-reached starts network pairs net w accepted_net range same edges =
      let start = world_with_spares net pairs in
      let q = replicate net.nodes [] in
      let fs = edge_facts net w.net in
      let gs = states_below network w w.net.nodes in
      let hs = links_below w w.net.nodes in
      let es = set_events start q fs in
      let e = run start es in
      let q1 = set_queues q fs in
      let q2 = set_queues q1 gs in
      let in_range : IsWorldInRange e = ranges start es (starts net pairs accepted_net) in
      let frame_is : IsSameFrame w.net e.net = frame-both w.net net e.net (frame-back net w.net same) (frame start es) in
      let long : w.net.nodes ≤ length q1 = omega (arith, queues-length q fs, length-replicate {A = List ℕ} net.nodes [], same.nodes) in
      let states = states-set network w e q1 range in_range (λ v. site-same e w v frame_is edges) frame_is.nodes long w.net.nodes (omega arith) in
      let x = run e (set_events e q1 gs) in
      let empty : IsEmpty x = λ i j.
      ap (λ (l : ℕ → ℕ → List Item). l i j) states.links ∙ edges-empty net w.net start q (λ a b. refl) i j in
      let x_frame : IsSameFrame w.net x.net = subst (IsSameFrame w.net) (sym states.network) frame_is in
      let x_edges : HasEdgesOf w x = λ a b. ap (λ (n : Network). are_joined n.edges a b) states.network ∙ edges a b in
      let links = rows-set w x range x_frame x_edges empty q2 w.net.nodes (omega arith) in
      let to : run start (set_up network net pairs w) ≡ run x (set_events x q2 hs) =
      two-parts start q fs (gs ++ hs) ∙ two-parts e q1 gs hs in
      subst (IsSameAs w) (sym to)
      (record {
        nodes = λ v l. subst (λ (s : LocalState). AreSame (site w v).neighbours s (w.node v)) (sym (ap (λ (n : ℕ → LocalState). n v) links.node))
            (states.done v l);
        links = λ u v t. links.set u v (inl (nodes w.net u v range.network t).0) t;
      })

-- ---- a world with the network's own edges

or-true : (b : Bool) → (b || true) ≡ true
or-true true = refl
or-true false = refl

in-midst : (front : List Edge) (e : Edge) (es : List Edge) → are_joined (front ++ e ∷ es) e.0 e.1 ≡ true
in-midst [] e es = grind (arith, common_steps)
in-midst (f ∷ front) e es =
    ap (λ (b : Bool). is_between e.0 e.1 f || b) (in-midst front e es) ∙ or-true (is_between e.0 e.1 f)

-- a network's own edges neither join nor part
none-lacking : (joins : Bool) (net : Network) (front es : List Edge) → net.edges ≡ front ++ es → lacking joins net es ≡ []
none-lacking joins net front [] s = refl
none-lacking joins net front (e ∷ es) s =
    let there : are_joined net.edges e.0 e.1 ≡ true = ap (λ (l : List Edge). are_joined l e.0 e.1) s ∙ in-midst front e es in
    ap (λ (b : Bool). if b then lacking joins net es else Written (edge_harm joins e) ∷ lacking joins net es) there
    ∙ none-lacking joins net (front ++ e ∷ []) es (s ∙ sym (append_assoc front (e ∷ []) es))

no-changes : (net : Network) → edge_facts net net ≡ []
no-changes net =
    let none : edge_changes net net ≡ [] = ap (λ (l : List Fact). l ++ lacking false net net.edges) (none-lacking true net [] net.edges refl)
    ∙ none-lacking false net [] net.edges refl in
    ap (λ (l : List Fact). l ++ edge_changes net net) none ∙ none

pub edges-unchanged : (pairs : ℕ) (net : Network) (w : World) → w.net ≡ net → HasEdgesOf w (with_edges_of net pairs w)
edges-unchanged pairs net w same u v =
    let start = world_with_spares net pairs in
    let q = replicate net.nodes [] in
    ap (λ (n : Network). are_joined (run start (set_events start q (edge_facts net n))).net.edges u v) same
    ∙ ap (λ (fs : List Fact). are_joined (run start (set_events start q fs)).net.edges u v) (no-changes net)
    ∙ ap (λ (n : Network). are_joined n.edges u v) (sym same)
