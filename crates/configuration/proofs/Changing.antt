-- What becomes of the links if an edge joins or goes.
use Rattle.std.proofs.Common.{◌≡◌, ◌≢◌, ◌*◌, ◌/◌, take, ◌∙◌, sym, ap, subst, ℕ, ◌+◌, ◌-◌, ◌<◌, ◌≤◌, ◌⊎◌, inl, inr, ◌&&◌, not, Bool, true, false, arith, refl, IsTrue, IfErr, OnOk, Option, Some, None, Result, Ok, Err, List, [], ◌∷◌, ◌++◌, All, length, slice_index_or, slice_set}
use Rattle.std.proofs.Math.Path.{fun_ext}
use Rattle.std.proofs.lemmas.Grind.{common_steps}
use Rattle.std.proofs.lemmas.Nat.{div-add-mod'}
use Rattle.std.proofs.Math.Nat.{add-div_right, add-mul-div_left}
use Rattle.std.proofs.lemmas.List.{length-append}
use Rattle.std.proofs.lemmas.List.Elements.{All-from_get_or, All-nil}
use Rattle.topology.specs.Network.{Edge, Network, IsAcceptedNetwork, are_joined, is_between, edges_without, joined_net, parted_net}
use Rattle.topology.specs.Change.{join_fault}
use Rattle.topology.specs.Laws.{OneEdgeLess, WhoIsParted}
use Rattle.topology.specs.Ranges.{ranges_of}
use Rattle.run_model.specs.link_model.Link.{LinkView, link}
use Rattle.run_model.specs.link_model.declared.item.Item.{Item}
use Rattle.run_model.specs.World.{at_pair, item_fits}
use Rattle.configuration.specs.PairTable.{PairTableView, value_at}
use Rattle.configuration.specs.Placed.{ArePlaced, AreStocked, joined_too}
use Rattle.configuration.specs.LinksView.{LinksView, IsLinks, spare_pairs, under_way}
use Rattle.configuration.proofs.LinkMoves.{IsAt, clear-links, clear-under}
use Rattle.configuration.proofs.LinkPlaces.{first-empty}
use Rattle.configuration.proofs.JoinedPairs.{joined_but}
use Rattle.configuration.proofs.Placing.{given-one, laid-one, placed-edge, two-less}

-- an answer that is no refusal keeps its promise
pub must-ok : {T E P : Type 0} (r : Result T E) (fault : Option E) → fault ≡ None → IfErr r (λ x. fault ≡ Some x) → OnOk r P → P
must-ok (Ok x) fault none err ok = ok
must-ok (Err x) fault none err ok = absurd cc

-- the places of links do not depend on how the edges are listed
pub placed-again : (net : Network) (edges : List Edge) (is_joined : ℕ → ℕ → Bool) (places : PairTableView) (links : List LinkView) (spares : List ℕ)
    → ArePlaced net is_joined places links spares → ArePlaced (record net { edges = edges }) is_joined places links spares
placed-again net edges is_joined places links spares placed = record {
  table = placed.table;
  inside = placed.inside;
  apart = placed.apart;
  none = placed.none;
  capacity = placed.capacity;
  spare = λ k kn. record { there = (placed.spare k kn).there; empty = (placed.spare k kn).empty };
  free = placed.free;
  distinct = placed.distinct;
}

-- one pair has another link, an empty one
under-one : (l new : LinksView) (a b x i j : ℕ) → l.places.nodes ≡ l.net.nodes → new.net.nodes ≡ l.net.nodes → new.links ≡ l.links → a < l.net.nodes → b < l.net.nodes
    → ((u v : ℕ) → v < l.places.nodes → value_at new.places u v ≡ at_pair (value_at l.places) a b x u v)
    → (slice_index_or l.links x (link 0 [])).items ≡ [] → under_way new i j ≡ at_pair (under_way l) a b [] i j
under-one l new a b x i j table nodes links an bn values empty =
    let cases : ((i < l.net.nodes) × (j < l.net.nodes)) ⊎ ((l.net.nodes ≤ i) ⊎ (l.net.nodes ≤ j)) = grind arith in
    elim cases [
      | inl ends ↦ inside ends.0 ends.1 (values i j (subst (λ n. j < n) (sym table) ends.1))
      | inr (inl past) ↦ grind (arith, common_steps, past, nodes, an)
      | inr (inr past) ↦ grind (arith, common_steps, past, nodes, bn)
    ]
  where
    inside : i < l.net.nodes → j < l.net.nodes → value_at new.places i j ≡ at_pair (value_at l.places) a b x i j → under_way new i j ≡ at_pair (under_way l) a b [] i j
    inside im jn is = grind (arith, common_steps, im, jn, is, nodes, links, empty)

pub under-written : (l new : LinksView) (a b x : ℕ) → l.places.nodes ≡ l.net.nodes → new.net.nodes ≡ l.net.nodes → new.links ≡ l.links → a < l.net.nodes → b < l.net.nodes
    → ((u v : ℕ) → v < l.places.nodes → value_at new.places u v ≡ at_pair (value_at l.places) a b x u v)
    → (slice_index_or l.links x (link 0 [])).items ≡ [] → under_way new ≡ at_pair (under_way l) a b []
under-written l new a b x table nodes links an bn values empty = fun_ext (λ i. fun_ext (λ j. under-one l new a b x i j table nodes links an bn values empty))

-- ---- all links of a new network

module _ (net : Network) (places : PairTableView) (links : List LinkView) (spares : List ℕ) (count : ℕ) (ok : IsAcceptedNetwork net)
    (stocked : AreStocked net.capacity count links spares) (left : List ℕ)
    (placed : ArePlaced net (are_joined net.edges) places links left) (rest : length left + 2 * length net.edges ≡ count) where
  abbrev pub start : LinksView
  start = record { net = net; places = places; links = links; spares = left }

  made : (p : ℕ) → p < length links → (slice_index_or links p (link 0 []) ≡ link 0 []) ⊎ (slice_index_or links p (link 0 []) ≡ link net.capacity [])
  made p there =
      let l = stocked.all_links in
      let cases : (p ≡ 0) ⊎ ((p ≡ p - 1 + 1) × (p - 1 < count)) = grind (arith, there, l) in
      elim cases [
        | inl zero ↦ inl (ap (λ k. slice_index_or links k (link 0 [])) zero ∙ stocked.first)
        | inr more ↦ inr (ap (λ k. slice_index_or links k (link 0 [])) more.0 ∙ stocked.empty (p - 1) more.1)
      ]

  each : (P : LinkView → Type 0) → P (link 0 []) → P (link net.capacity []) → All P links
  each P first other = All-from_get_or P links (link 0 []) (λ p there. elim (made p there) [
    | inl is ↦ subst P (sym is) first
    | inr is ↦ subst P (sym is) other
  ])

  pub start-links : IsLinks start
  start-links = record {
    network = ok;
    placed = placed;
    count = (let l = stocked.all_links in omega (arith, l, rest));
    within = each (λ link. length link.items ≤ link.capacity) (omega arith) (omega arith);
    fits = each (λ link. All (λ item. IsTrue (item_fits (ranges_of net) item)) link.items) (All-nil (λ item. IsTrue (item_fits (ranges_of net) item)))
        (All-nil (λ item. IsTrue (item_fits (ranges_of net) item)));
  }

  nothing : (p : ℕ) → p < length links → (slice_index_or links p (link 0 [])).items ≡ []
  nothing p there = elim (made p there) [
    | inl is ↦ ap (λ k. k.items) is
    | inr is ↦ ap (λ k. k.items) is
  ]

  start-one : (u v : ℕ) → under_way start u v ≡ []
  start-one u v =
      let cases : ((u < net.nodes) × (v < net.nodes)) ⊎ ((net.nodes ≤ u) ⊎ (net.nodes ≤ v)) = grind arith in
      elim cases [
        | inl ends ↦ (let none = nothing (value_at places u v) (placed.inside u v ends.0 ends.1) in let a = ends.0 in let b = ends.1 in grind (arith, common_steps, none, a, b))
        | inr (inl past) ↦ grind (arith, common_steps, past)
        | inr (inr past) ↦ grind (arith, common_steps, past)
      ]

  pub start-under : under_way start ≡ λ u v. []
  start-under = fun_ext (λ u. fun_ext (λ v. start-one u v))

pub half-is : (n p : ℕ) → n ≡ 2 * p → n / 2 ≡ p
half-is n p is =
    let whole : n ≡ 0 + 2 * p = omega (arith, is) in
    ap (λ k. k / 2) whole ∙ add-mul-div_left 0 p (omega arith) ∙ omega arith

-- ---- an edge joins

can-join : (net : Network) (u v : ℕ) → join_fault net u v ≡ None → (u < net.nodes) × (v < net.nodes) × (u ≢ v) × (are_joined net.edges u v ≡ false)
can-join net u v none = (grind (arith, common_steps, none), grind (arith, common_steps, none), grind (arith, common_steps, none), grind (arith, common_steps, none))

module _ (l : LinksView) (u v : ℕ) (second third : PairTableView) (one two : List ℕ) (ok : IsLinks l) (allowed : join_fault l.net u v ≡ None)
    (some : 0 < spare_pairs l) (accepted : IsAcceptedNetwork (joined_net l.net u v))
    (same : second.nodes ≡ l.places.nodes) (also : third.nodes ≡ second.nodes)
    (out : (i j : ℕ) → j < l.places.nodes → value_at second i j ≡ at_pair (value_at l.places) u v (slice_index_or l.spares (length l.spares - 1) 0) i j)
    (one-is : one ≡ take (length l.spares - 1) l.spares)
    (back : (i j : ℕ) → j < second.nodes → value_at third i j ≡ at_pair (value_at second) v u (slice_index_or one (length one - 1) 0) i j)
    (two-is : two ≡ take (length one - 1) one) where
  ends : (u < l.net.nodes) × (v < l.net.nodes) × (u ≢ v) × (are_joined l.net.edges u v ≡ false)
  ends = can-join l.net u v allowed

  enough : 2 ≤ length l.spares
  enough = let whole = div-add-mod' (length l.spares) 2 in omega (arith, whole, some)

  gone : length two + 2 ≡ length l.spares
  gone = two-less l.spares one two enough one-is two-is

  half : ArePlaced l.net (joined_too (are_joined l.net.edges) u v) second l.links one
  half = rw one-is (laid-one l.net (are_joined l.net.edges) l.places second l.links l.spares u v (slice_index_or l.spares (length l.spares - 1) 0) ok.placed same out (omega (arith, enough)) refl)

  some-one : 0 < length one
  some-one = rw one-is (let e = enough in grind (arith, common_steps, e))

  abbrev pub with-edge : LinksView
  with-edge = record { net = joined_net l.net u v; places = third; links = l.links; spares = two }

  pub joined-links : IsLinks with-edge
  joined-links = record {
    network = accepted;
    placed = placed-again l.net (l.net.edges ++ (u, v) ∷ []) (are_joined (l.net.edges ++ (u, v) ∷ [])) third l.links two
        (placed-edge l.net l.net.edges u v l.places second third l.links l.spares one two ok.placed enough same also out one-is back two-is);
    count = (let c = ok.count in let g = gone in let e = length-append l.net.edges ((u, v) ∷ []) in omega (arith, c, g, e));
    within = ok.within;
    fits = ok.fits;
  }

  pub joined-spares : spare_pairs with-edge ≡ spare_pairs l - 1
  joined-spares =
      let g : length l.spares ≡ length two + 2 = sym gone in
      let more : length l.spares / 2 ≡ length two / 2 + 1 = ap (λ n. n / 2) g ∙ add-div_right (length two) (omega arith) in
      omega (arith, more)

  abbrev between : LinksView
  between = record { net = l.net; places = second; links = l.links; spares = one }

  pub joined-under : under_way with-edge ≡ at_pair (at_pair (under_way l) u v []) v u []
  joined-under =
      let less : length l.spares - 1 < length l.spares = (let e = enough in omega (arith, e)) in
      let less-one : length one - 1 < length one = (let s = some-one in omega (arith, s)) in
      under-written between with-edge v u (slice_index_or one (length one - 1) 0) half.table refl refl ends.1 ends.0 back (ap (λ k. k.items) (half.spare (length one - 1) less-one).empty)
      ∙ ap (λ f. at_pair f v u [])
      (under-written l between u v (slice_index_or l.spares (length l.spares - 1) 0) ok.placed.table refl refl ends.0 ends.1 out
      (ap (λ k. k.items) (ok.placed.spare (length l.spares - 1) less).empty))

-- ---- an edge goes

-- writing what is there already changes nothing
same-one : (f : ℕ → ℕ → List Item) (a b i j : ℕ) → f a b ≡ [] → at_pair f a b [] i j ≡ f i j
same-one f a b i j empty = grind (arith, common_steps, empty)

same-under : (f : ℕ → ℕ → List Item) (a b : ℕ) → f a b ≡ [] → at_pair f a b [] ≡ f
same-under f a b empty = fun_ext (λ i. fun_ext (λ j. same-one f a b i j empty))

but-both : (J : ℕ → ℕ → Bool) (u v i j : ℕ) → joined_but (joined_but J u v) v u i j ≡ (J i j && not (is_between u v (i, j)))
but-both J u v i j = grind (arith, common_steps)

module _ (l : LinksView) (u v : ℕ) (second third : PairTableView) (one two : List ℕ) (ok : IsLinks l) (un : u < l.net.nodes) (vn : v < l.net.nodes)
    (joined : IsTrue (are_joined l.net.edges u v)) (joined-back : IsTrue (are_joined l.net.edges v u)) (no-loop : u ≢ v)
    (empty : under_way l u v ≡ []) (empty-back : under_way l v u ≡ []) (who : WhoIsParted) (one-less : OneEdgeLess)
    (accepted : IsAcceptedNetwork (parted_net l.net u v))
    (same : second.nodes ≡ l.places.nodes) (also : third.nodes ≡ second.nodes)
    (out : (i j : ℕ) → j < l.places.nodes → value_at second i j ≡ at_pair (value_at l.places) u v 0 i j)
    (one-is : one ≡ l.spares ++ value_at l.places u v ∷ [])
    (back : (i j : ℕ) → j < second.nodes → value_at third i j ≡ at_pair (value_at second) v u 0 i j)
    (two-is : two ≡ one ++ value_at second v u ∷ []) where
  wide : 1 ≤ l.net.capacity
  wide = ok.network.limits.some_capacity

  items-at : (i j : ℕ) → i < l.net.nodes → j < l.net.nodes → under_way l i j ≡ [] → (slice_index_or l.links (value_at l.places i j) (link 0 [])).items ≡ []
  items-at i j im jn none = grind (arith, common_steps, im, jn, none)

  given : ArePlaced l.net (joined_but (are_joined l.net.edges) u v) second l.links one
  given = rw one-is (given-one l.net (are_joined l.net.edges) l.places second l.links l.spares u v 0 ok.placed same out refl un vn wide joined (items-at u v un vn empty))

  other-way : value_at second v u ≡ value_at l.places v u
  other-way =
      let is = out v u (subst (λ n. u < n) (sym ok.placed.table) un) in
      grind (arith, common_steps, is, no-loop)

  still : joined_but (are_joined l.net.edges) u v v u ≡ true
  still = let j = joined-back in grind (arith, common_steps, j, no-loop)

  whole : ArePlaced l.net (joined_but (joined_but (are_joined l.net.edges) u v) v u) third l.links two
  whole = rw two-is (given-one l.net (joined_but (are_joined l.net.edges) u v) second third l.links one v u 0 given also back refl vn un wide still
      (ap (λ p. (slice_index_or l.links p (link 0 [])).items) other-way ∙ items-at v u vn un empty-back))

  abbrev pub without-edge : LinksView
  without-edge = record { net = parted_net l.net u v; places = third; links = l.links; spares = two }

  more : length two ≡ length l.spares + 2
  more =
      let a = ap length one-is ∙ length-append l.spares (value_at l.places u v ∷ []) in
      let b = ap length two-is ∙ length-append one (value_at second v u ∷ []) in
      omega (arith, a, b)

  pub parted-links : IsLinks without-edge
  parted-links = record {
    network = accepted;
    placed = placed-again l.net (edges_without l.net.edges u v) (are_joined (edges_without l.net.edges u v)) third l.links two
        (subst (λ j. ArePlaced l.net j third l.links two) (fun_ext (λ i. fun_ext (λ j. but-both (are_joined l.net.edges) u v i j ∙ sym (who l.net u v i j)))) whole);
    count = (let c = ok.count in let m = more in let e = one-less l.net u v ok.network joined in omega (arith, c, m, e));
    within = ok.within;
    fits = ok.fits;
  }

  pub parted-spares : spare_pairs without-edge ≡ spare_pairs l + 1
  parted-spares = ap (λ n. n / 2) more ∙ add-div_right (length l.spares) (omega arith)

  abbrev between-part : LinksView
  between-part = record { net = l.net; places = second; links = l.links; spares = one }

  first : (slice_index_or l.links 0 (link 0 [])).items ≡ []
  first = first-empty l.links (let t = ok.placed.inside u v un vn in omega (arith, t)) ok.placed.none ok.within

  pub parted-under : under_way without-edge ≡ under_way l
  parted-under =
      under-written between-part without-edge v u 0 given.table refl refl vn un back first
      ∙ ap (λ f. at_pair f v u []) (under-written l between-part u v 0 ok.placed.table refl refl un vn out first ∙ same-under (under_way l) u v empty)
      ∙ same-under (under_way l) v u empty-back

-- ---- both links of the edge are emptied first

-- the links after that: nothing is under way on these two, and nothing else has changed
pub record AreEmptied (l : LinksView) (u v : ℕ) (now : LinksView) : Type 0 where
  pub links : IsLinks now
  pub under : under_way now ≡ at_pair (at_pair (under_way l) u v []) v u []
  pub out : under_way now u v ≡ []
  pub back : under_way now v u ≡ []

module _ (l : LinksView) (u v p q : ℕ) (old new old-back new-back : LinkView) (h : IsAt l u v p old) (cleared : new ≡ link old.capacity [])
    (place : q ≡ value_at l.places v u) (value : old-back ≡ slice_index_or (slice_set l.links p new) q old-back) (cleared-back : new-back ≡ link old-back.capacity []) where
  abbrev one-empty : LinksView
  one-empty = record l { links = slice_set l.links p new }

  abbrev pub both-empty : LinksView
  both-empty = record l { links = slice_set (slice_set l.links p new) q new-back }

  back-at : IsAt one-empty v u q old-back
  back-at = record { links = clear-links h new cleared; from_in = h.to_in; to_in = h.from_in; place = place; value = value }

  empty-links : IsLinks both-empty
  empty-links = clear-links back-at new-back cleared-back

  empty-under : under_way both-empty ≡ at_pair (at_pair (under_way l) u v []) v u []
  empty-under = clear-under back-at new-back cleared-back ∙ ap (λ f. at_pair f v u []) (clear-under h new cleared)

  there : (f : ℕ → ℕ → List Item) → at_pair (at_pair f u v []) v u [] u v ≡ []
  there f = grind (arith, common_steps)

  there-back : (f : ℕ → ℕ → List Item) → at_pair (at_pair f u v []) v u [] v u ≡ []
  there-back f = grind (arith, common_steps)

  pub emptied : AreEmptied l u v both-empty
  emptied = record {
    links = empty-links;
    under = empty-under;
    out = ap (λ f. f u v) empty-under ∙ there (under_way l);
    back = ap (λ f. f v u) empty-under ∙ there-back (under_way l);
  }
