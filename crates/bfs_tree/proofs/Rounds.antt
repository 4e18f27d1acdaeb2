-- One step from copies that are right so far.
use Rattle.std.proofs.Common.{◌≡◌, ◌≢◌, ℕ, ◌+◌, ◌<◌, ◌≤◌, zero, suc, min, Bool, true, false, List, [], ◌∷◌, ◌⊎◌, inl, inr, None, refl, sym, ◌∙◌, ap, arith, length, get_or, nat_le, IsTrue, Contains}
use Rattle.std.specs.Prelude.{find, ◌↔◌}
use Rattle.std.specs.List.{list_all}
use Rattle.std.proofs.lemmas.Bool.{cases_eq, cases_lt}
use Rattle.std.proofs.lemmas.Bool.Decides.{nat_tests}
use Rattle.topology.specs.Network.{Network, are_joined, neighbours_of}
use Rattle.topology.specs.Tree.{distance_of, parent_of, is_one_nearer}
use Rattle.topology.specs.Laws.{IsTree}
use Rattle.bfs_tree.specs.Stage.{is_of_stage}
use Rattle.bfs_tree.specs.Step.{least, has_least_copy}
use Rattle.bfs_tree.specs.Laws.{AreOfStage, AreExact, stepped_distance, stepped_parent}

-- ---- stages

pub stage-below : (k real d : ℕ) → is_of_stage k real d ≡ true → real < k → d ≡ real
stage-below k real d h l = grind (arith, nat_tests)

pub stage-above : (k real d : ℕ) → is_of_stage k real d ≡ true → k ≤ real → k ≤ d
stage-above k real d h l = grind (arith, nat_tests)

pub stage-from : (k real d : ℕ) → (real < k → d ≡ real) → (k ≤ real → k ≤ d) → is_of_stage k real d ≡ true
stage-from k real d a b = grind (arith, nat_tests)

pub stage_includes : (k real d : ℕ) → is_of_stage (k + 1) real d ≡ true → is_of_stage k real d ≡ true
stage_includes k real d h = grind (arith, nat_tests)

-- ---- the least copy

-- w is among the ws
abbrev pub IsAmong : ℕ → List ℕ → Type 0
IsAmong w [] = ⊥
IsAmong w (u ∷ us) = (w ≡ u) ⊎ IsAmong w us

among : (w : ℕ) (ws : List ℕ) (k : ℕ) → k < length ws → get_or ws k w ≡ w → IsAmong w ws
among w [] k l e = absurd (omega arith)
among w (u ∷ us) zero l e = inl (sym e)
among w (u ∷ us) (suc k) l e = inr (among w us k (omega arith) e)

contained : (w : ℕ) (ws : List ℕ) → IsAmong w ws → Contains ws w
contained w [] h = absurd h
contained w (u ∷ us) (inl e) = (0, omega arith, sym e)
contained w (u ∷ us) (inr h) = let rest = contained w us h in (suc rest.0, omega (arith, rest.1), rest.2)

least-above : (n m : ℕ) (copied : ℕ → ℕ) (ws : List ℕ) → m ≤ n → ((w : ℕ) → IsAmong w ws → m ≤ copied w) → m ≤ least n copied ws
least-above n m copied [] l h = l
least-above n m copied (w ∷ ws) l h = omega (arith, h w (inl refl), least-above n m copied ws l (λ u i. h u (inr i)))

least-below : (n w : ℕ) (copied : ℕ → ℕ) (ws : List ℕ) → IsAmong w ws → least n copied ws ≤ copied w
least-below n w copied [] i = absurd i
least-below n w copied (u ∷ us) (inl e) = omega (arith, ap copied e)
least-below n w copied (u ∷ us) (inr i) = omega (arith, least-below n w copied us i)

-- tests that agree on a list find the same
find-agree : (p q : ℕ → Bool) (ws : List ℕ) → ((w : ℕ) → IsAmong w ws → p w ≡ q w) → find p ws ≡ find q ws
find-agree p q [] h = refl
find-agree p q (w ∷ ws) h = rw (h w (inl refl), find-agree p q ws (λ u i. h u (inr i))) refl

all-pass : (test : ℕ → Bool) (ws : List ℕ) → ((w : ℕ) → IsAmong w ws → test w ≡ true) → list_all test ws ≡ true
all-pass test [] h = refl
all-pass test (w ∷ ws) h = rw (h w (inl refl), all-pass test ws (λ u i. h u (inr i))) refl

one-fails : (test : ℕ → Bool) (ws : List ℕ) (w : ℕ) → IsAmong w ws → test w ≡ false → list_all test ws ≡ false
one-fails test [] w i f = absurd i
one-fails test (u ∷ us) w (inl e) f = let g : test u ≡ false = ap test (sym e) ∙ f in grind arith
one-fails test (u ∷ us) w (inr i) f = let rest = one-fails test us w i f in grind arith

module _ (net : Network) (tree : IsTree net) (near : (v w : ℕ) → Contains (neighbours_of net v) w ↔ ((w < net.nodes) × IsTrue (are_joined net.edges v w)))
    (nodes : (v w : ℕ) → IsTrue (are_joined net.edges v w) → (v < net.nodes) × (w < net.nodes)) where
  joined : (v w : ℕ) → IsAmong w (neighbours_of net v) → IsTrue (are_joined net.edges v w)
  joined v w i = ((near v w).0 (contained w (neighbours_of net v) i)).1

  neighbour : (v w : ℕ) → IsTrue (are_joined net.edges v w) → IsAmong w (neighbours_of net v)
  neighbour v w j = let h = (near v w).1 ((nodes v w j).1, j) in among w (neighbours_of net v) h.0 h.1 h.2

  other : (v : ℕ) (copied : ℕ → ℕ) → v ≢ net.root → stepped_distance net copied v ≡ min net.nodes (least net.nodes copied (neighbours_of net v) + 1)
  other v copied ne = grind (arith, nat_tests)

  -- a neighbour's distance is not below the node's less one
  no-nearer : (v w : ℕ) → IsAmong w (neighbours_of net v) → distance_of net v ≤ distance_of net w + 1
  no-nearer v w i = tree.joined v w (joined v w i)

  pub rises : (k v : ℕ) (copied : ℕ → ℕ) → v < net.nodes → AreOfStage net k copied v → is_of_stage (k + 1) (distance_of net v) (stepped_distance net copied v) ≡ true
  rises k v copied l h = elim (cases_eq v net.root) [
    | inl e ↦ (
        let z : distance_of net v ≡ 0 = ap (distance_of net) e ∙ tree.root in
        let d : stepped_distance net copied v ≡ 0 = grind (arith, nat_tests) in
        stage-from (k + 1) (distance_of net v) (stepped_distance net copied v) (λ low. d ∙ sym z) (λ high. absurd (omega (arith, z, high))))
    | inr ne ↦ (
        let d = other v copied ne in
        let (p, is_parent) = tree.parent v l ne in
        let j = tree.parent_joined v p is_parent in
        let one = tree.parent_nearer v p is_parent in
        let up = least-below net.nodes p copied (neighbours_of net v) (neighbour v p j) in
        let small = tree.below v l in
        stage-from (k + 1) (distance_of net v) (stepped_distance net copied v)
        (λ low.
        let exact = stage-below k (distance_of net p) (copied p) (h p j) (omega (arith, one, low)) in
        let lo = least-above net.nodes (distance_of net p) copied (neighbours_of net v) (omega (arith, one, small)) (λ w i. elim (cases_lt (distance_of net w) k) [
          | inl less ↦ omega (arith, stage-below k (distance_of net w) (copied w) (h w (joined v w i)) less, no-nearer v w i, one)
          | inr more ↦ omega (arith, stage-above k (distance_of net w) (copied w) (h w (joined v w i)) more, one, low)
        ]) in
        omega (arith, d, up, lo, exact, one, small))
        (λ high.
        let lo = least-above net.nodes k copied (neighbours_of net v) (omega (arith, high, small)) (λ w i. stage-above k (distance_of net w) (copied w) (h w (joined v w i)) (omega (arith, high, no-nearer v w i))) in
        omega (arith, d, lo, high, small)))
  ]

  pub last_stage : (v d : ℕ) → v < net.nodes → is_of_stage net.nodes (distance_of net v) d ≡ true → d ≡ distance_of net v
  last_stage v d l h = stage-below net.nodes (distance_of net v) d h (tree.below v l)

  exact_stage : (v : ℕ) (copied : ℕ → ℕ) → AreExact net copied v → (k : ℕ) → AreOfStage net k copied v
  exact_stage v copied h k = λ w j. stage-from k (distance_of net w) (copied w) (λ low. h w j) (λ high. omega (arith, h w j, high))

  pub exact_distance : (v : ℕ) (copied : ℕ → ℕ) → v < net.nodes → AreExact net copied v → stepped_distance net copied v ≡ distance_of net v
  exact_distance v copied l h =
      let stage = rises net.nodes v copied l (exact_stage v copied h net.nodes) in
      stage-below (net.nodes + 1) (distance_of net v) (stepped_distance net copied v) stage (omega (arith, tree.below v l))

  -- a neighbour has the least copy if it is one nearer, and not else
  nearer-is-least : (v p w : ℕ) (copied : ℕ → ℕ) → AreExact net copied v → IsAmong p (neighbours_of net v) → distance_of net v ≡ distance_of net p + 1 → IsAmong w (neighbours_of net v) →
      has_least_copy copied (neighbours_of net v) w ≡ is_one_nearer net v w
  nearer-is-least v p w copied h j one i = elim (cases_eq (distance_of net w + 1) (distance_of net v)) [
    | inl nearer ↦ (
        let passes = all-pass (λ u. nat_le (copied w) (copied u)) (neighbours_of net v) (λ u k.
        let less : copied w ≤ copied u = omega (arith, nearer, h w (joined v w i), h u (joined v u k), no-nearer v u k) in
        grind (arith, nat_tests)) in
        let is : is_one_nearer net v w ≡ true = grind (arith, nat_tests) in
        passes ∙ sym is)
    | inr further ↦ (
        let more : copied p < copied w = omega (arith, further, one, h w (joined v w i), h p (joined v p j), no-nearer v w i) in
        let fails = one-fails (λ u. nat_le (copied w) (copied u)) (neighbours_of net v) p j (grind (arith, nat_tests)) in
        let is : is_one_nearer net v w ≡ false = grind (arith, nat_tests) in
        fails ∙ sym is)
  ]

  pub exact_parent : (v : ℕ) (copied : ℕ → ℕ) → v < net.nodes → AreExact net copied v → stepped_parent net copied v ≡ parent_of net v
  exact_parent v copied l h = elim (cases_eq v net.root) [
    | inl e ↦ (
        let none : parent_of net v ≡ None = ap (parent_of net) e ∙ tree.root_parent in
        let d : stepped_parent net copied v ≡ None = grind (arith, nat_tests) in
        d ∙ sym none)
    | inr ne ↦ (
        let d : stepped_parent net copied v ≡ find (has_least_copy copied (neighbours_of net v)) (neighbours_of net v) = grind (arith, nat_tests) in
        let (p, is_parent) = tree.parent v l ne in
        let j = neighbour v p (tree.parent_joined v p is_parent) in
        let one = tree.parent_nearer v p is_parent in
        d ∙ find-agree (has_least_copy copied (neighbours_of net v)) (is_one_nearer net v) (neighbours_of net v) (λ w i. nearer-is-least v p w copied h j one i))
  ]
