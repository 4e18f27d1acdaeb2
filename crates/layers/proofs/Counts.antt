-- How many items of a list are such, and the links of a network one by one.
use Rattle.std.proofs.Common.{◌≡◌, ◌∙◌, ap, sym, refl, subst, ℕ, ◌+◌, ◌<◌, ◌≤◌, ◌↔◌, zero, suc, IsTrue, List, [], ◌∷◌, ◌++◌, length, take, map, get_or, Contains, arith, count_by}
use Rattle.std.specs.List.{AllByRecursion, All, flat_map, range_with_len}
use Rattle.std.proofs.lemmas.Grind.{common_steps, flat_map-append}
use Rattle.std.proofs.Math.Seq.{take-length}
use Rattle.std.proofs.lemmas.List.{append-nil, length-append, length-map, map-append}
use Rattle.std.proofs.lemmas.List.Elements.{All-from_recursion, recursion_from_All, All-from_get_or, All-contains, Contains-get_or}
use Rattle.std.proofs.lemmas.List.FromFn.{get_or-range_with_len, length-range_with_len}
use Rattle.std.proofs.lemmas.List.Sums.{length-filter, count_by-le-length}
use Rattle.topology.specs.Network.{Network, IsAcceptedNetwork, are_joined, neighbours_of}
use Rattle.topology.specs.Laws.{NeighboursAreJoined, JoinedAreNodes}
use Rattle.layers.specs.Links.{AreSuch, Nothing_left, One_more, Not_this, links_from, links_of}

-- ---- counts

pub such-join : {X : Type 0} (P : X → Type 0) {xs ys : List X} {m n : ℕ} → AreSuch P xs m → AreSuch P ys n → AreSuch P (xs ++ ys) (m + n)
such-join P {ys = ys} {n = n} Nothing_left b = subst (λ k. AreSuch P ys k) (omega arith) b
such-join P {ys = ys} {n = n} (One_more {x = x} {xs = xs} {n = m} p a) b =
    subst (λ k. AreSuch P (x ∷ xs ++ ys) k) (omega arith) (One_more p (such-join P a b))
such-join P (Not_this fails a) b = Not_this fails (such-join P a b)

pub one-such : {X : Type 0} (P : X → Type 0) (xs : List X) (m : ℕ) (x : X) → AreSuch P xs m → P x → AreSuch P (xs ++ x ∷ []) (m + 1)
one-such P xs m x a p = such-join P a (One_more p Nothing_left)

pub none-such : {X : Type 0} (P : X → Type 0) (xs : List X) (m : ℕ) (x : X) → AreSuch P xs m → (P x → ⊥) → AreSuch P (xs ++ x ∷ []) m
none-such P xs m x a fails = subst (λ k. AreSuch P (xs ++ x ∷ []) k) (omega arith) (such-join P a (Not_this fails Nothing_left))

pub such-within : {X : Type 0} (P : X → Type 0) {xs : List X} {n : ℕ} → AreSuch P xs n → n ≤ length xs
such-within P Nothing_left = omega arith
such-within P (One_more p a) = omega (arith, such-within P a)
such-within P (Not_this fails a) = omega (arith, such-within P a)

-- if as many are such as there are, all are
pub such-all : {X : Type 0} (P : X → Type 0) {xs : List X} {n : ℕ} → AreSuch P xs n → n ≡ length xs → AllByRecursion P xs
such-all P Nothing_left e = tt
such-all P (One_more p a) e = (p, such-all P a (omega (arith, e)))
such-all P (Not_this fails a) e = absurd (omega (arith, e, such-within P a))

-- and if all are, as many are as there are
pub all-such : {X : Type 0} (P : X → Type 0) {xs : List X} {n : ℕ} → AreSuch P xs n → AllByRecursion P xs → n ≡ length xs
all-such P Nothing_left all = omega arith
all-such P (One_more p a) all = omega (arith, all-such P a all.1)
all-such P (Not_this fails a) all = absurd (fails all.0)

-- one link more is counted, or not
more-taken : (f : ℕ → ℕ × ℕ) (xs : List ℕ) (i : ℕ) → i < length xs → map f (take (i + 1) xs) ≡ map f (take i xs) ++ f (get_or xs i 0) ∷ []
more-taken f xs i there =
    let one : take (i + 1) xs ≡ take i xs ++ get_or xs i 0 ∷ [] = grind (arith, common_steps) in
    ap (map f) one ∙ map-append f (take i xs) (get_or xs i 0 ∷ [])

pub counted-yes : (P : ℕ × ℕ → Type 0) (f : ℕ → ℕ × ℕ) (xs : List ℕ) (i m : ℕ) → i < length xs → AreSuch P (map f (take i xs)) m → P (f (get_or xs i 0))
    → AreSuch P (map f (take (i + 1) xs)) (m + 1)
counted-yes P f xs i m there a p =
    subst (λ ys. AreSuch P ys (m + 1)) (sym (more-taken f xs i there)) (one-such P (map f (take i xs)) m (f (get_or xs i 0)) a p)

pub counted-no : (P : ℕ × ℕ → Type 0) (f : ℕ → ℕ × ℕ) (xs : List ℕ) (i m : ℕ) → i < length xs → AreSuch P (map f (take i xs)) m → (P (f (get_or xs i 0)) → ⊥)
    → AreSuch P (map f (take (i + 1) xs)) m
counted-no P f xs i m there a fails =
    subst (λ ys. AreSuch P ys m) (sym (more-taken f xs i there)) (none-such P (map f (take i xs)) m (f (get_or xs i 0)) a fails)

-- ---- all links

all-join : {X : Type 0} (P : X → Type 0) (xs ys : List X) → AllByRecursion P xs → AllByRecursion P ys → AllByRecursion P (xs ++ ys)
all-join P [] ys a b = b
all-join P (x ∷ xs) ys a b = (a.0, all-join P xs ys a.1 b)

all-parts : {X : Type 0} (P : X → Type 0) (xs ys : List X) → AllByRecursion P (xs ++ ys) → AllByRecursion P xs × AllByRecursion P ys
all-parts P [] ys a = (tt, a)
all-parts P (x ∷ xs) ys a = let parts = all-parts P xs ys a.1 in ((a.0, parts.0), parts.1)

flat-all : {X Y : Type 0} (P : Y → Type 0) (f : X → List Y) (xs : List X) → AllByRecursion (λ x. AllByRecursion P (f x)) xs → AllByRecursion P (flat_map f xs)
flat-all P f [] a = tt
flat-all P f (x ∷ xs) a = all-join P (f x) (flat_map f xs) a.0 (flat-all P f xs a.1)

all-flat : {X Y : Type 0} (P : Y → Type 0) (f : X → List Y) (xs : List X) → AllByRecursion P (flat_map f xs) → AllByRecursion (λ x. AllByRecursion P (f x)) xs
all-flat P f [] a = tt
all-flat P f (x ∷ xs) a = let parts = all-parts P (f x) (flat_map f xs) a in (parts.0, all-flat P f xs parts.1)

map-all : {X Y : Type 0} (P : Y → Type 0) (f : X → Y) (xs : List X) → AllByRecursion (λ x. P (f x)) xs → AllByRecursion P (map f xs)
map-all P f [] a = tt
map-all P f (x ∷ xs) a = (a.0, map-all P f xs a.1)

all-map : {X Y : Type 0} (P : Y → Type 0) (f : X → Y) (xs : List X) → AllByRecursion P (map f xs) → AllByRecursion (λ x. P (f x)) xs
all-map P f [] a = tt
all-map P f (x ∷ xs) a = (a.0, all-map P f xs a.1)

-- the number at a place of the numbers below n
pub number-at : (n v : ℕ) → v < n → get_or (range_with_len 0 n) v 0 ≡ v
number-at n v below = let from_v : 0 + v ≡ v = omega arith in get_or-range_with_len 0 n v 0 below ∙ from_v

module _ (joined : NeighboursAreJoined) (ends : JoinedAreNodes) (net : Network) (accepted : IsAcceptedNetwork net) (P : ℕ × ℕ → Type 0) where
  pub links-each : AllByRecursion P (links_of net) → (u v : ℕ) → IsTrue (are_joined net.edges u v) → P (u, v)
  links-each all u v are =
      let nodes = range_with_len 0 net.nodes in
      let e = ends net u v accepted are in
      let below : u < length nodes = rw (length-range_with_len 0 net.nodes) e.0 in
      let has : Contains nodes u = subst (λ x. Contains nodes x) (number-at net.nodes u e.0) (Contains-get_or nodes u 0 below) in
      let from = All-contains (λ x. AllByRecursion P (links_from net x)) nodes u
      (All-from_recursion (λ x. AllByRecursion P (links_from net x)) nodes (all-flat P (links_from net) nodes all)) has in
      let to = all-map P (λ w. (u, w)) (neighbours_of net u) from in
      All-contains (λ w. P (u, w)) (neighbours_of net u) v (All-from_recursion (λ w. P (u, w)) (neighbours_of net u) to) ((joined net u v).1 (e.1, are))

  pub each-links : ((u v : ℕ) → IsTrue (are_joined net.edges u v) → P (u, v)) → AllByRecursion P (links_of net)
  each-links each =
      let nodes = range_with_len 0 net.nodes in
      flat-all P (links_from net) nodes (recursion_from_All (λ x. AllByRecursion P (links_from net x)) nodes
      (All-from_get_or (λ x. AllByRecursion P (links_from net x)) nodes 0 (λ i below. from (get_or nodes i 0))))
    where
      from : (u : ℕ) → AllByRecursion P (links_from net u)
      from u = map-all P (λ w. (u, w)) (neighbours_of net u) (recursion_from_All (λ w. P (u, w)) (neighbours_of net u)
          (All-from_get_or (λ w. P (u, w)) (neighbours_of net u) 0
          (λ i below. each u (get_or (neighbours_of net u) i 0) ((joined net u (get_or (neighbours_of net u) i 0)).0 (Contains-get_or (neighbours_of net u) i 0 below)).1)))

-- a node has at most as many neighbours as there are nodes
pub few-neighbours : (net : Network) (u : ℕ) → length (neighbours_of net u) ≤ net.nodes
few-neighbours net u =
    let nodes = range_with_len 0 net.nodes in
    omega (arith, length-filter (are_joined net.edges u) nodes, count_by-le-length (are_joined net.edges u) nodes, length-range_with_len 0 net.nodes)

-- the links of one node more
pub links-more : (net : Network) (u : ℕ) → u < net.nodes
    → flat_map (links_from net) (take (u + 1) (range_with_len 0 net.nodes)) ≡ flat_map (links_from net) (take u (range_with_len 0 net.nodes)) ++ links_from net u
links-more net u below =
    let nodes = range_with_len 0 net.nodes in
    let f = links_from net in
    let there : u < length nodes = rw (length-range_with_len 0 net.nodes) below in
    let one : take (u + 1) nodes ≡ take u nodes ++ get_or nodes u 0 ∷ [] = grind (arith, common_steps) in
    ap (flat_map f) one ∙ flat_map-append f (take u nodes) (get_or nodes u 0 ∷ []) ∙ ap (λ ys. flat_map f (take u nodes) ++ ys) (append-nil (f (get_or nodes u 0)))
    ∙ ap (λ v. flat_map f (take u nodes) ++ f v) (number-at net.nodes u below)

-- those of all nodes
pub links-whole : (net : Network) (n : ℕ) → n ≡ net.nodes → flat_map (links_from net) (take n (range_with_len 0 net.nodes)) ≡ links_of net
links-whole net n all =
    let nodes = range_with_len 0 net.nodes in
    ap (λ k. flat_map (links_from net) (take k nodes)) (all ∙ sym (length-range_with_len 0 net.nodes)) ∙ ap (flat_map (links_from net)) (take-length nodes)

pair-length : (f : ℕ → ℕ × ℕ) (xs : List ℕ) → length (map f xs) ≡ length xs
pair-length f xs = length-map xs f

links-length : (net : Network) (u : ℕ) → length (links_from net u) ≡ length (neighbours_of net u)
links-length net u = pair-length (λ v. (u, v)) (neighbours_of net u)

join-length : (xs ys : List (ℕ × ℕ)) → length (xs ++ ys) ≡ length xs + length ys
join-length xs ys = length-append xs ys

-- and how many these are
pub more-links : (net : Network) (u count len : ℕ) → u < net.nodes → count ≡ length (flat_map (links_from net) (take u (range_with_len 0 net.nodes)))
    → len ≡ length (neighbours_of net u)
    → count + len ≡ length (flat_map (links_from net) (take (u + 1) (range_with_len 0 net.nodes)))
more-links net u count len below counted is =
    let before = flat_map (links_from net) (take u (range_with_len 0 net.nodes)) in
    let sum : length before + length (links_from net u) ≡ count + len = omega (arith, counted, is, links-length net u) in
    sym (ap length (links-more net u below) ∙ join-length before (links_from net u) ∙ sum)
