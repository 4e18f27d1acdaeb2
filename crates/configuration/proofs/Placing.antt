-- The places of links: a spare link is laid between two nodes, or becomes spare again.
use Rattle.std.proofs.Common.{◌≡◌, ◌≢◌, ◌*◌, take, ◌∙◌, sym, ap, subst, ℕ, ◌+◌, ◌-◌, ◌<◌, ◌≤◌, ◌⊎◌, inl, inr, Bool, true, arith, refl, List, [], ◌∷◌, ◌++◌, length, slice_index_or, slice_set, if◌then◌else◌}
use Rattle.std.proofs.Math.Path.{fun_ext}
use Rattle.std.proofs.lemmas.Grind.{common_steps}
use Rattle.std.proofs.lemmas.List.{get_or_append_left, get_or-take, length-append, length-set, take_more}
use Rattle.std.proofs.Math.Seq.{get_or-append_seam}
use Rattle.topology.specs.Network.{Edge, Network, are_joined}
use Rattle.run_model.specs.link_model.Link.{LinkView, link}
use Rattle.run_model.specs.World.{at_pair}
use Rattle.configuration.specs.PairTable.{PairTableView, value_at}
use Rattle.configuration.specs.Placed.{ArePlaced, AreStocked, IsSpare, joined_too}
use Rattle.configuration.proofs.JoinedPairs.{joined_but, two-ways}

-- ---- the number of one pair is written

module _ (net : Network) (is_joined : ℕ → ℕ → Bool) (old new : PairTableView) (links : List LinkView) (spares : List ℕ) (a b x : ℕ)
    (placed : ArePlaced net is_joined old links spares) (nodes : new.nodes ≡ old.nodes)
    (values : (u v : ℕ) → v < old.nodes → value_at new u v ≡ at_pair (value_at old) a b x u v) where
  value-is : (u v : ℕ) → v < net.nodes → value_at new u v ≡ at_pair (value_at old) a b x u v
  value-is u v vn = values u v (subst (λ n. v < n) (sym placed.table) vn)

  -- a pair has the new number, or its old one
  which : (u v : ℕ) → v < net.nodes → ((u ≡ a) × (v ≡ b) × (value_at new u v ≡ x)) ⊎ (value_at new u v ≡ value_at old u v)
  which u v vn = let is = value-is u v vn in grind (arith, common_steps, is)

  -- ---- the newest of the spare links is laid

  module _ (some : 0 < length spares) (newest : x ≡ slice_index_or spares (length spares - 1) 0) where
    less : length spares - 1 < length spares
    less = omega (arith, some)

    there : x < length links
    there = rw newest (placed.spare (length spares - 1) less).there

    full : (slice_index_or links x (link 0 [])).capacity ≡ net.capacity
    full = ap (λ p. (slice_index_or links p (link 0 [])).capacity) newest ∙ ap (λ k. k.capacity) (placed.spare (length spares - 1) less).empty

    other : (u v : ℕ) → u < net.nodes → v < net.nodes → value_at old u v ≢ x
    other u v un vn same = placed.free (length spares - 1) u v less un vn (same ∙ newest)

    few : length (take (length spares - 1) spares) ≡ length spares - 1
    few = grind (arith, common_steps)

    within : (k : ℕ) → k < length (take (length spares - 1) spares) → k < length spares - 1
    within k kn = let f = few in omega (arith, kn, f)

    before : (k : ℕ) → k < length (take (length spares - 1) spares) → k < length spares
    before k kn = let w = within k kn in omega (arith, w)

    spare-is : (k : ℕ) → k < length (take (length spares - 1) spares) → slice_index_or (take (length spares - 1) spares) k 0 ≡ slice_index_or spares k 0
    spare-is k kn = get_or-take (length spares - 1) spares k 0 (within k kn)

    not-newest : (k : ℕ) → k < length (take (length spares - 1) spares) → slice_index_or spares k 0 ≢ x
    not-newest k kn same =
        let one = placed.distinct k (length spares - 1) (before k kn) less (same ∙ newest) in
        let w = within k kn in
        absurd (omega (arith, one, w))

    laid-apart : (u v i j : ℕ) → u < net.nodes → v < net.nodes → i < net.nodes → j < net.nodes
        → value_at new u v ≡ value_at new i j → ((u ≡ i) × (v ≡ j)) ⊎ (value_at new u v ≡ 0)
    laid-apart u v i j un vn im jn same =
        elim (which u v vn) [
          | inl p ↦ elim (which i j jn) [
            | inl q ↦ inl (p.0 ∙ sym q.0, p.1 ∙ sym q.1)
            | inr q ↦ absurd (other i j im jn (sym q ∙ sym same ∙ p.2))
          ]
          | inr p ↦ elim (which i j jn) [
            | inl q ↦ absurd (other u v un vn (sym p ∙ same ∙ q.2))
            | inr q ↦ elim (placed.apart u v i j un vn im jn (sym p ∙ same ∙ q)) [
              | inl z ↦ inl z
              | inr z ↦ inr (p ∙ z)
            ]
          ]
        ]

    pub laid-one : ArePlaced net (joined_too is_joined a b) new links (take (length spares - 1) spares)
    laid-one = record {
      table = nodes ∙ placed.table;
      inside = λ u v un vn.
          let is = value-is u v vn in
          let was = placed.inside u v un vn in
          let t = there in
          grind (arith, common_steps, is, was, t);
      apart = laid-apart;
      none = placed.none;
      capacity = λ u v un vn.
          let is = value-is u v vn in
          let was = placed.capacity u v un vn in
          let f = full in
          grind (arith, common_steps, is, was, f);
      spare = λ k kn. rw (spare-is k kn) (placed.spare k (before k kn));
      free = λ k u v kn un vn same.
          elim (which u v vn) [
            | inl p ↦ not-newest k kn (sym (spare-is k kn) ∙ sym same ∙ p.2)
            | inr p ↦ placed.free k u v (before k kn) un vn (sym p ∙ same ∙ spare-is k kn)
          ];
      distinct = λ j k jn kn same. placed.distinct j k (before j jn) (before k kn) (sym (spare-is j jn) ∙ same ∙ spare-is k kn);
    }

  -- ---- the link of a pair is spare again

  module _ (nothing : x ≡ 0) (an : a < net.nodes) (bn : b < net.nodes) (some : 1 ≤ net.capacity) (joined : is_joined a b ≡ true)
      (empty : (slice_index_or links (value_at old a b) (link 0 [])).items ≡ []) where
    abbrev more : List ℕ
    more = spares ++ value_at old a b ∷ []

    grown : length more ≡ length spares + 1
    grown = length-append spares (value_at old a b ∷ [])

    older : (k : ℕ) → k < length spares → slice_index_or more k 0 ≡ slice_index_or spares k 0
    older k kn = get_or_append_left spares (value_at old a b ∷ []) 0 k kn

    newest-is : slice_index_or more (length spares) 0 ≡ value_at old a b
    newest-is = get_or-append_seam spares (value_at old a b) [] 0

    -- each of their places is an older one, or the newest
    place-of : (k : ℕ) → k < length more → ((k < length spares) × (slice_index_or more k 0 ≡ slice_index_or spares k 0)) ⊎ ((k ≡ length spares) × (slice_index_or more k 0 ≡ value_at old a b))
    place-of k kn =
        let g = grown in
        let cases : (k < length spares) ⊎ (k ≡ length spares) = grind (arith, kn, g) in
        elim cases [
          | inl earlier ↦ inl (earlier, older k earlier)
          | inr same ↦ inr (same, ap (λ i. slice_index_or more i 0) same ∙ newest-is)
        ]

    wide : (slice_index_or links (value_at old a b) (link 0 [])).capacity ≡ net.capacity
    wide = placed.capacity a b an bn ∙ ap (λ test. if test then net.capacity else 0) joined

    -- the first link has no places
    not-first : (p : ℕ) → (slice_index_or links p (link 0 [])).capacity ≡ net.capacity → p ≢ 0
    not-first p is zero = let none = ap (λ q. (slice_index_or links q (link 0 [])).capacity) zero ∙ placed.none in absurd (omega (arith, some, is, none))

    spare-not-first : (k : ℕ) → k < length spares → slice_index_or spares k 0 ≢ 0
    spare-not-first k kn = not-first (slice_index_or spares k 0) (ap (λ q. q.capacity) (placed.spare k kn).empty)

    not-back : (u v : ℕ) → u < net.nodes → v < net.nodes → value_at new u v ≢ value_at old a b
    not-back u v un vn same =
        let first = not-first (value_at old a b) wide in
        elim (which u v vn) [
          | inl p ↦ first (sym same ∙ p.2 ∙ nothing)
          | inr p ↦ elim (placed.apart u v a b un vn an bn (sym p ∙ same)) [
            | inl z ↦ here u v z vn same
            | inr z ↦ first (sym same ∙ p ∙ z)
          ]
        ]
      where
        here : (u v : ℕ) → (u ≡ a) × (v ≡ b) → v < net.nodes → value_at new u v ≢ value_at old a b
        here u v both vn same =
            let is = value-is u v vn in
            let first = not-first (value_at old a b) wide in
            let p = both.0 in
            let q = both.1 in
            let zero : value_at new u v ≡ 0 = grind (arith, common_steps, is, p, q, nothing) in
            first (sym same ∙ zero)

    spare-whole : (l : LinkView) → l.capacity ≡ net.capacity → l.items ≡ [] → l ≡ link net.capacity []
    spare-whole l c i = rw (sym c, sym i) refl

    spare-one : (k : ℕ) → k < length more → IsSpare net links (slice_index_or more k 0)
    spare-one k kn = elim (place-of k kn) [
      | inl p ↦ rw p.1 (placed.spare k p.0)
      | inr p ↦ rw p.1 (record { there = placed.inside a b an bn; empty = spare-whole (slice_index_or links (value_at old a b) (link 0 [])) wide empty })
    ]

    free-one : (k u v : ℕ) → k < length more → u < net.nodes → v < net.nodes → value_at new u v ≢ slice_index_or more k 0
    free-one k u v kn un vn same = elim (place-of k kn) [
      | inl p ↦ elim (which u v vn) [
        | inl q ↦ spare-not-first k p.0 (sym p.1 ∙ sym same ∙ q.2 ∙ nothing)
        | inr q ↦ placed.free k u v p.0 un vn (sym q ∙ same ∙ p.1)
      ]
      | inr p ↦ not-back u v un vn (same ∙ p.1)
    ]

    distinct-one : (j k : ℕ) → j < length more → k < length more → slice_index_or more j 0 ≡ slice_index_or more k 0 → j ≡ k
    distinct-one j k jn kn same = elim (place-of j jn) [
      | inl p ↦ elim (place-of k kn) [
        | inl q ↦ placed.distinct j k p.0 q.0 (sym p.1 ∙ same ∙ q.1)
        | inr q ↦ absurd (placed.free j a b p.0 an bn (sym q.1 ∙ sym same ∙ p.1))
      ]
      | inr p ↦ elim (place-of k kn) [
        | inl q ↦ absurd (placed.free k a b q.0 an bn (sym p.1 ∙ same ∙ q.1))
        | inr q ↦ p.0 ∙ sym q.0
      ]
    ]

    given-apart : (u v i j : ℕ) → u < net.nodes → v < net.nodes → i < net.nodes → j < net.nodes
        → value_at new u v ≡ value_at new i j → ((u ≡ i) × (v ≡ j)) ⊎ (value_at new u v ≡ 0)
    given-apart u v i j un vn im jn same =
        elim (which u v vn) [
          | inl p ↦ inr (p.2 ∙ nothing)
          | inr p ↦ elim (which i j jn) [
            | inl q ↦ inr (same ∙ q.2 ∙ nothing)
            | inr q ↦ elim (placed.apart u v i j un vn im jn (sym p ∙ same ∙ q)) [
              | inl z ↦ inl z
              | inr z ↦ inr (p ∙ z)
            ]
          ]
        ]

    pub given-one : ArePlaced net (joined_but is_joined a b) new links more
    given-one = record {
      table = nodes ∙ placed.table;
      inside = λ u v un vn.
          let is = value-is u v vn in
          let was = placed.inside u v un vn in
          grind (arith, common_steps, is, was, nothing);
      apart = given-apart;
      none = placed.none;
      capacity = λ u v un vn.
          let is = value-is u v vn in
          let was = placed.capacity u v un vn in
          let first = placed.none in
          grind (arith, common_steps, is, was, first, nothing);
      spare = spare-one;
      free = free-one;
      distinct = distinct-one;
    }

-- ---- one link is written

pub placed-set : (net : Network) (is_joined : ℕ → ℕ → Bool) (places : PairTableView) (links : List LinkView) (spares : List ℕ) (u v : ℕ) (new : LinkView)
    → ArePlaced net is_joined places links spares → u < net.nodes → v < net.nodes
    → new.capacity ≡ (slice_index_or links (value_at places u v) (link 0 [])).capacity
    → ArePlaced net is_joined places (slice_set links (value_at places u v) new) spares
placed-set net is_joined places links spares u v new placed un vn same = record {
  table = placed.table;
  inside = λ i j im jn. rw (length-set links (value_at places u v) new) (placed.inside i j im jn);
  apart = placed.apart;
  none = capacity-one 0 ∙ placed.none;
  capacity = λ i j im jn. capacity-one (value_at places i j) ∙ placed.capacity i j im jn;
  spare = λ k kn. record {
    there = rw (length-set links (value_at places u v) new) (placed.spare k kn).there;
    empty = unwritten (slice_index_or spares k 0) (λ is. placed.free k u v kn un vn (sym is)) ∙ (placed.spare k kn).empty;
  };
  free = placed.free;
  distinct = placed.distinct;
}
  where
    there : value_at places u v < length links
    there = placed.inside u v un vn

    capacity-one : (p : ℕ) → (slice_index_or (slice_set links (value_at places u v) new) p (link 0 [])).capacity ≡ (slice_index_or links p (link 0 [])).capacity
    capacity-one p = let t = there in grind (arith, common_steps, t, same)

    unwritten : (p : ℕ) → p ≢ value_at places u v → slice_index_or (slice_set links (value_at places u v) new) p (link 0 []) ≡ slice_index_or links p (link 0 [])
    unwritten p other = let t = there in grind (arith, common_steps, t, other)

-- ---- all links at once

-- both links of one more edge are laid
pub placed-edge : (net : Network) (edges : List Edge) (a b : ℕ) (first second third : PairTableView) (links : List LinkView) (spares one two : List ℕ)
    → ArePlaced net (are_joined edges) first links spares → 2 ≤ length spares → second.nodes ≡ first.nodes → third.nodes ≡ second.nodes
    → ((u v : ℕ) → v < first.nodes → value_at second u v ≡ at_pair (value_at first) a b (slice_index_or spares (length spares - 1) 0) u v)
    → one ≡ take (length spares - 1) spares
    → ((u v : ℕ) → v < second.nodes → value_at third u v ≡ at_pair (value_at second) b a (slice_index_or one (length one - 1) 0) u v)
    → two ≡ take (length one - 1) one
    → ArePlaced net (are_joined (edges ++ (a, b) ∷ [])) third links two
placed-edge net edges a b first second third links spares one two placed enough same also out one-is back two-is =
    let half : ArePlaced net (joined_too (are_joined edges) a b) second links one =
    rw one-is (laid-one net (are_joined edges) first second links spares a b (slice_index_or spares (length spares - 1) 0) placed same out (omega (arith, enough)) refl) in
    let some : 0 < length one = rw one-is (grind (arith, common_steps, enough)) in
    let whole : ArePlaced net (joined_too (joined_too (are_joined edges) a b) b a) third links two =
    rw two-is (laid-one net (joined_too (are_joined edges) a b) second third links one b a (slice_index_or one (length one - 1) 0) half also back some refl) in
    subst (λ j. ArePlaced net j third links two) (fun_ext (λ u. fun_ext (λ v. two-ways edges (a, b) u v))) whole

-- two spare links fewer
pub two-less : (spares one two : List ℕ) → 2 ≤ length spares → one ≡ take (length spares - 1) spares → two ≡ take (length one - 1) one → length two + 2 ≡ length spares
two-less spares one two enough one-is two-is =
    let a : length one ≡ length spares - 1 = rw one-is (grind (arith, common_steps)) in
    let b : length two ≡ length one - 1 = rw two-is (grind (arith, common_steps)) in
    omega (arith, a, b, enough)

-- ---- the links of a network, edge by edge

-- the links of the first k edges are laid
pub record IsLaying (net : Network) (k : ℕ) (places : PairTableView) (start spares : List ℕ) : Type 0 where
  pub nodes : places.nodes ≡ net.nodes
  pub left : length spares + 2 * k ≡ length start
  pub laid : (links : List LinkView) → AreStocked net.capacity (length start) links start → ArePlaced net (are_joined (take k net.edges)) places links spares

-- at first no pair is joined, and all links are spare
pub placed-none : (net : Network) (places : PairTableView) (links : List LinkView) (spares : List ℕ) → places.nodes ≡ net.nodes → ((u v : ℕ) → value_at places u v ≡ 0)
    → AreStocked net.capacity (length spares) links spares → ArePlaced net (are_joined []) places links spares
placed-none net places links spares nodes zeros stocked = record {
  table = nodes;
  inside = λ u v un vn. let z = zeros u v in let l = stocked.all_links in omega (arith, z, l);
  apart = λ u v i j un vn im jn same. inr (zeros u v);
  none = ap (λ k. k.capacity) stocked.first;
  capacity = λ u v un vn. rw (zeros u v, stocked.first) refl;
  spare = λ k kn. rw (stocked.places k kn) (record { there = (let l = stocked.all_links in omega (arith, kn, l)); empty = stocked.empty k kn });
  free = λ k u v kn un vn same. let z = zeros u v in let p = stocked.places k kn in omega (arith, z, p, same);
  distinct = λ j k jn kn same. let p = stocked.places j jn in let q = stocked.places k kn in omega (arith, p, q, same);
}

pub laying-none : (net : Network) (places : PairTableView) (start : List ℕ) → places.nodes ≡ net.nodes → ((u v : ℕ) → value_at places u v ≡ 0)
    → IsLaying net 0 places start start
laying-none net places start nodes zeros = record {
  nodes = nodes;
  left = omega arith;
  laid = λ links stocked. placed-none net places links start nodes zeros stocked;
}

pub laying-next : (net : Network) (es : List Edge) (k : ℕ) (d : Edge) (first second third : PairTableView) (start spares one two : List ℕ)
    → es ≡ net.edges → IsLaying net k first start spares → k < length es → 2 * length net.edges ≤ length start
    → second.nodes ≡ first.nodes → third.nodes ≡ second.nodes
    → ((u v : ℕ) → v < first.nodes
    → value_at second u v ≡ at_pair (value_at first) (slice_index_or es k d).0 (slice_index_or es k d).1 (slice_index_or spares (length spares - 1) 0) u v)
    → one ≡ take (length spares - 1) spares
    → ((u v : ℕ) → v < second.nodes
    → value_at third u v ≡ at_pair (value_at second) (slice_index_or es k d).1 (slice_index_or es k d).0 (slice_index_or one (length one - 1) 0) u v)
    → two ≡ take (length one - 1) one
    → IsLaying net (k + 1) third start two
laying-next net es k d first second third start spares one two read laying less enough same also out one-is back two-is =
    let left = laying.left in
    let there : k < length net.edges = subst (λ l. k < length l) read less in
    let some : 2 ≤ length spares = omega (arith, left, there, enough) in
    let gone = two-less spares one two some one-is two-is in
    record {
      nodes = also ∙ same ∙ laying.nodes;
      left = omega (arith, left, gone);
      laid = λ links stocked.
          subst (λ l. ArePlaced net (are_joined l) third links two) (ap (λ e. take k net.edges ++ e ∷ []) (ap (λ l. slice_index_or l k d) read) ∙ sym (take_more net.edges k d there))
          (placed-edge net (take k net.edges) (slice_index_or es k d).0 (slice_index_or es k d).1 first second third links spares one two (laying.laid links stocked) some same also out one-is back two-is);
    }

-- ---- links are made

-- one more link is made, and its place becomes the newest of the spare ones
pub stocked-more : (capacity k : ℕ) (x : LinkView) (links more : List LinkView) (spares places : List ℕ) → AreStocked capacity k links spares → x ≡ link capacity []
    → more ≡ links ++ x ∷ [] → places ≡ spares ++ (k + 1) ∷ [] → AreStocked capacity (k + 1) more places
stocked-more capacity k x links more spares places stocked is more-is places-is = record {
  all_links = ap length more-is ∙ length-append links (x ∷ []) ∙ (let l = stocked.all_links in omega (arith, l));
  all_spares = ap length places-is ∙ length-append spares ((k + 1) ∷ []) ∙ (let l = stocked.all_spares in omega (arith, l));
  first = read 0 (let l = stocked.all_links in omega (arith, l)) ∙ stocked.first;
  empty = λ i less. elim (which i less) [
    | inl earlier ↦ read (i + 1) (let l = stocked.all_links in omega (arith, l, earlier)) ∙ stocked.empty i earlier
    | inr newest ↦ ap (λ p. slice_index_or more p (link 0 [])) (let l = stocked.all_links in omega (arith, l, newest)) ∙ ap (λ xs. slice_index_or xs (length links) (link 0 [])) more-is
        ∙ get_or-append_seam links x [] (link 0 []) ∙ is
  ];
  places = λ i less. elim (which i less) [
    | inl earlier ↦ ap (λ xs. slice_index_or xs i 0) places-is ∙ get_or_append_left spares ((k + 1) ∷ []) 0 i (let l = stocked.all_spares in omega (arith, l, earlier)) ∙ stocked.places i earlier
    | inr newest ↦ ap (λ p. slice_index_or places p 0) (let l = stocked.all_spares in omega (arith, l, newest)) ∙ ap (λ xs. slice_index_or xs (length spares) 0) places-is
        ∙ get_or-append_seam spares (k + 1) [] 0 ∙ ap (λ j. j + 1) (sym newest)
  ];
}
  where
    which : (i : ℕ) → i < k + 1 → (i < k) ⊎ (i ≡ k)
    which i less = grind (arith, less)

    read : (p : ℕ) → p < length links → slice_index_or more p (link 0 []) ≡ slice_index_or links p (link 0 [])
    read p there = ap (λ xs. slice_index_or xs p (link 0 [])) more-is ∙ get_or_append_left links (x ∷ []) (link 0 []) p there

pub stocked-as : (capacity other count : ℕ) (links : List LinkView) (spares : List ℕ) → capacity ≡ other → AreStocked capacity count links spares
    → AreStocked other (length spares) links spares
stocked-as capacity other count links spares same stocked =
    subst (λ k. AreStocked other k links spares) (sym stocked.all_spares) (subst (λ c. AreStocked c count links spares) same stocked)
