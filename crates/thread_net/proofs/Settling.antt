-- Rings are links again: one pair of links more, and one item more of a ring.
use Rattle.std.proofs.Common.{◌≡◌, ◌≢◌, ℕ, zero, suc, ◌<◌, ◌==◌, Bool, true, Some, None, List, [], ◌∷◌, length, refl, arith, slice_index_or, ◌+◌, if◌then◌else◌, nat_lt, IsTrue, ◌++◌, ap, ◌∙◌, drop, take, ◌⊎◌, inl, inr, ◌||◌, false}
use Rattle.std.specs.List.{position, position_or_len, remove}
use Rattle.std.proofs.lemmas.Bool.{ltb-true, lt-ltb}
use Rattle.std.proofs.lemmas.Grind.{common_steps}
use Rattle.std.proofs.lemmas.List.Quantifiers.{position-Some}
use Rattle.std.proofs.lemmas.Option.{cond_some}
use Rattle.node_runner.specs.declared.runner.RunnerPort.{RunnerPort}
use Rattle.thread_net.specs.Cables.{port_to, IsRoomFor, IsOtherPair, row, left_between, IsCableBetween, IsFlushedBetween, AreSettleable, AreCabled}
use Rattle.std.proofs.Math.Path.{fun_ext}
use Rattle.std.proofs.lemmas.List.{drop_more, length-take, length-drop, get_or-drop, take_more, get_or_default}
use Rattle.topology.specs.Network.{Network, Edge, IsAcceptedNetwork, are_joined, has_double_edge, is_between, is_same_edge}
use Rattle.topology.specs.Laws.{JoinedBack}
use Rattle.topology.specs.Ranges.{ranges_of}
use Rattle.link_model.specs.declared.item.Item.{Item}
use Rattle.judge.specs.run_model.World.{at_pair, item_fits}
use Rattle.std.proofs.lemmas.List.Folds.{list_any_at, list_any_more}

-- ---- the first port that leads to a node

module _ {A : Type 0} (v : ℕ) where
  abbrev pub leads : RunnerPort A → Bool
  leads p = p.neighbour == v

  pub not-found : (ps : List (RunnerPort A)) → position leads ps ≡ None → port_to ps v ≡ None
  not-found [] none = refl
  not-found (p ∷ ps) none = let later = not-found ps in grind (arith, common_steps)

  found : (ps : List (RunnerPort A)) (d : RunnerPort A) → position_or_len leads ps < length ps → port_to ps v ≡ Some (slice_index_or ps (position_or_len leads ps) d)
  found [] d within = absurd (omega arith)
  found (p ∷ ps) d within = let later = found ps d in grind (arith, common_steps)

  without : (ps : List (RunnerPort A)) (k j : ℕ) (d : RunnerPort A) → k < length ps → leads (slice_index_or ps k d) ≡ true → j ≢ v → port_to (remove ps k) j ≡ port_to ps j
  without [] k j d within at apart = absurd (omega arith)
  without (p ∷ ps) zero j d within at apart = grind (arith, common_steps)
  without (p ∷ ps) (suc k) j d within at apart = let later = without ps k j d (omega arith) at apart in grind (arith, common_steps)

  -- it is found at its place, and all others are found without it
  pub found-at : (ps : List (RunnerPort A)) (k : ℕ) (d : RunnerPort A) → position leads ps ≡ Some k
      → (port_to ps v ≡ Some (slice_index_or ps k d)) × ((j : ℕ) → j ≢ v → port_to (remove ps k) j ≡ port_to ps j)
  found-at ps k d is =
      let f = cond_some _ _ _ is in
      let at = position-Some leads ps k d is in
      (rw (← f.1) (found ps d (ltb-true _ _ f.0)), λ j. without ps k j d at.0 at.1)

-- ---- one item more

put-twice : {X : Type 0} (f : ℕ → ℕ → X) (u v : ℕ) (x y : X) → at_pair (at_pair f u v x) u v y ≡ at_pair f u v y
put-twice f u v x y = fun_ext (λ i. fun_ext (λ j. grind (arith, common_steps)))

-- the next of all items that go there
module _ (net : Network) (all rest : List Item) (k : ℕ) (i : Item) (next : i ∷ rest ≡ drop k all) where
  within : k < length all
  within = let long = ap length next in let left = length-drop k all in omega arith

  here : slice_index_or all k i ≡ i
  here = let at = get_or-drop k all 0 i in let first = ap (λ xs. slice_index_or xs 0 i) next in grind (arith, common_steps, at, first)

  pub rest-is : rest ≡ drop (k + 1) all
  rest-is = let more = drop_more all k i within in cc

  pub item-fits : IsRoomFor net all → IsTrue (item_fits (ranges_of net) i)
  item-fits room = rw here at (room.1 k i within)

  pub drain-step : IsRoomFor net all → (f g now : ℕ → ℕ → List Item) (u v capacity : ℕ) → capacity ≡ net.capacity → g ≡ at_pair f u v (take k all)
      → now ≡ (if nat_lt (length (g u v)) capacity then at_pair g u v (g u v ++ i ∷ []) else g) → now ≡ at_pair f u v (take (k + 1) all)
  drain-step room f g now u v capacity same is put =
      let there : g u v ≡ take k all = rw is (grind (arith, common_steps)) in
      let few : length (take k all) < capacity = let most = room.0 in let long = length-take k all in let w = within in omega arith in
      let more : take (k + 1) all ≡ take k all ++ i ∷ [] = take_more all k i within ∙ ap (λ x. take k all ++ x ∷ []) here in
      rw more (rw (there, lt-ltb (length (take k all)) capacity few, is, put-twice) at put)

-- ---- one pair of links more

-- an edge stands once
first-time : (edges : List Edge) (k : ℕ) (e : Edge) → has_double_edge edges ≡ false → k < length edges → slice_index_or edges k e ≡ e → are_joined (take k edges) e.0 e.1 ≡ false
first-time [] k e once within at = absurd (omega arith)
first-time (f ∷ es) zero e once within at = refl
first-time (f ∷ es) (suc k) e once within at =
    let here = list_any_at (is_same_edge f) es k e in
    let later = first-time es k e in
    grind (arith, common_steps, here, later)

-- The next edge of a network's joins two nodes. Their pair is not past before it, and no other pair
-- is past with it.
pub record IsNextEdge (net : Network) (past after : ℕ → ℕ → Bool) (u v : ℕ) : Type 0 where
  pub apart : u ≢ v
  pub joined : (are_joined net.edges u v ≡ true) × (are_joined net.edges v u ≡ true)
  pub first : (past u v ≡ false) × (past v u ≡ false)
  pub grows : (i j : ℕ) → after i j ≡ (past i j || is_between i j (u, v))

pub next-edge : (net : Network) → IsAcceptedNetwork net → JoinedBack → (es : List Edge) → es ≡ net.edges → (k : ℕ) → k < length net.edges
    → IsNextEdge net (are_joined (take k net.edges)) (are_joined (take (k + 1) net.edges)) (slice_index_or es k (0, 0)).0 (slice_index_or es k (0, 0)).1
next-edge net accepted law es same k within = rw same (go (slice_index_or net.edges k (0, 0)) refl)
  where
    go : (e : Edge) → slice_index_or net.edges k (0, 0) ≡ e → IsNextEdge net (are_joined (take k net.edges)) (are_joined (take (k + 1) net.edges)) e.0 e.1
    go e at =
        let joined = list_any_at (is_between e.0 e.1) net.edges k (0, 0) within (rw at (grind (arith, common_steps))) in
        let first = first-time net.edges k e accepted.limits.no_double within (get_or_default net.edges k e (0, 0) within ∙ at) in
        record {
          apart = (rw at at (accepted.limits.edges_in k (0, 0) within)).no_loop;
          joined = (joined, law net.edges e.1 e.0 ∙ joined);
          first = (first, law (take k net.edges) e.1 e.0 ∙ first);
          grows = λ i j. rw at at (list_any_more (is_between i j) net.edges k (0, 0) within);
        }

-- The links of the pairs that are past have what was left in their rings. The ports of all other
-- pairs are as they were.
pub record IsSettling {A : Type 0} (net : Network) (past : ℕ → ℕ → Bool) (old rows : List (List (RunnerPort A))) (was link : ℕ → ℕ → List Item) : Type 0 where
  pub flushed : (i j : ℕ) → past i j ≡ true → IsFlushedBetween old i j
  pub left : AreSettleable net old → (i j : ℕ) → link i j ≡ (if past i j then left_between old i j else was i j)
  pub same : (i j : ℕ) → past i j ≡ false → port_to (row rows i) j ≡ port_to (row old i) j

-- one pair more
module _ {net : Network} {past after : ℕ → ℕ → Bool} {u v : ℕ} (it : IsNextEdge net past after u v) where
  newly-past : (i j : ℕ) → after i j ≡ true → (past i j ≡ true) ⊎ (((i ≡ u) × (j ≡ v)) ⊎ ((i ≡ v) × (j ≡ u)))
  newly-past i j is = let all = it.grows i j in grind (arith, common_steps)

  still-open : (i j : ℕ) → after i j ≡ false → IsOtherPair i j u v × IsOtherPair i j v u × (past i j ≡ false)
  still-open i j is = let all = it.grows i j in (grind (arith, common_steps), grind (arith, common_steps), grind (arith, common_steps))

  next-at : {X : Type 0} (left link was : ℕ → ℕ → X) (i j : ℕ) → link i j ≡ (if past i j then left i j else was i j)
      → at_pair (at_pair link u v (left u v)) v u (left v u) i j ≡ (if after i j then left i j else was i j)
  next-at left link was i j ago = let all = it.grows i j in let apart = it.apart in grind (arith, common_steps, apart, ago)

  module _ {A : Type 0} {old rows : List (List (RunnerPort A))} {was link : ℕ → ℕ → List Item} (before : IsSettling net past old rows was link) where
    pub still-cabled : AreCabled net old → IsCableBetween rows u v
    still-cabled cabled = rw (before.same u v it.first.0, before.same v u it.first.1) (cabled u v it.joined.0)

    pub settling-more : (now : List (List (RunnerPort A))) (next : ℕ → ℕ → List Item) → IsFlushedBetween rows u v → IsFlushedBetween rows v u
        → (IsRoomFor net (left_between rows u v) → IsRoomFor net (left_between rows v u) → next ≡ at_pair (at_pair link u v (left_between rows u v)) v u (left_between rows v u))
        → ((i j : ℕ) → IsOtherPair i j u v → IsOtherPair i j v u → port_to (row now i) j ≡ port_to (row rows i) j) → IsSettling net after old now was next
    settling-more now next there here left others =
        let at-u = before.same u v it.first.0 in
        let at-v = before.same v u it.first.1 in
        record {
          flushed = λ i j is. elim (newly-past i j is) [
            | inl ago ↦ before.flushed i j ago
            | inr (inl (is-u, is-v)) ↦ rw (is-u, is-v) (rw (at-u, at-v) at there)
            | inr (inr (is-v, is-u)) ↦ rw (is-v, is-u) (rw (at-v, at-u) at here)
          ];
          left = λ able i j.
              let next-is = rw (at-u, at-v) at left (able u v it.joined.0) (able v u it.joined.1) in
              rw next-is (next-at (left_between old) link was i j (before.left able i j));
          same = λ i j is. let away = still-open i j is in others i j away.0 away.1 ∙ before.same i j away.2;
        }
