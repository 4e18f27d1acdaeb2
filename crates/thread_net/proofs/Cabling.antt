-- One cable more: it joins two nodes, and each has a port to the other.
use Rattle.std.proofs.Common.{◌≡◌, ℕ, zero, suc, IsTrue, ◌+◌, ◌<◌, ◌==◌, Bool, true, false, if◌then◌else◌, nat_lt, Option, Some, None, List, [], ◌∷◌, ◌++◌, filter, ap, refl, sym, subst, ◌∙◌, arith, All}
use Rattle.std.specs.List.{Contains, range_with_len}
use Rattle.std.proofs.lemmas.Grind.{common_steps}
use Rattle.std.proofs.lemmas.List.{map-append, map-id}
use Rattle.std.proofs.lemmas.List.FromFn.{filter_of_map_range_with_len_more}
use Rattle.std.proofs.lemmas.List.Elements.{All-append, All-nil}
use Rattle.topology.specs.Network.{are_joined, neighbours_in, neighbours_of}
use Rattle.judge.specs.run_model.World.{World}
use Rattle.judge.specs.configuration.LinksView.{LinksView}
use Rattle.node_runner.specs.declared.runner.RunnerPort.{RunnerPort}
use Rattle.node_runner.specs.Runner.{IsPortNoted}
use Rattle.thread_net.specs.Cables.{IsOver, IsCable, IsCableOn, IsCabledOnce, AreFurnished, ends_at, ids_in, row, port_to}

-- ---- pairs of nodes, gone through by their smaller node, and then by the other

-- if the pair of u and v comes next, x has had its pairs with the nodes below this bound
abbrev pub reach : ℕ → ℕ → ℕ → ℕ → ℕ
reach n u v x = if nat_lt x u then n else (if x == u then v else (if nat_lt x v then u + 1 else u))

below-more : (p : ℕ → Bool) (b : ℕ) → filter p (range_with_len 0 (b + 1)) ≡ filter p (range_with_len 0 b) ++ (if p b then b ∷ [] else [])
below-more p b = simp map-id at (filter_of_map_range_with_len_more p (λ x. x) 0 b b (omega arith))

module _ (f : ℕ → ℕ → Bool) (n u : ℕ) where
  abbrev reached : ℕ → ℕ → List ℕ
  reached v x = filter (f x) (range_with_len 0 (reach n u v x))

  one-more : (v : ℕ) → u < v → f v u ≡ f u v → (x : ℕ) → reached (v + 1) x ≡ reached v x ++ (if f u v then ends_at u v v u x else [])
  one-more v order back x = let at-u = below-more (f u) v in let at-v = below-more (f v) u in grind (arith, common_steps, order, back, at-u, at-v)

  pub skips : (v : ℕ) → u < v → f v u ≡ f u v → f u v ≡ false → (x : ℕ) → reached v x ≡ reached (v + 1) x
  skips v order back isnt x = let next = one-more v order back x in grind (arith, common_steps, isnt, next)

  -- no node is paired with itself
  pub begins : f u u ≡ false → (x : ℕ) → reached u x ≡ reached (u + 1) x
  begins isnt x = let next = below-more (f u) u in grind (arith, common_steps, isnt, next)

pub ends : (n u x : ℕ) → x < n → reach n u n x ≡ reach n (u + 1) (u + 1) x
ends n u x within = grind (arith, common_steps)

-- ---- ports that are found

abbrev or_else : {X : Type 0} → Option X → Option X → Option X
or_else (Some x) other = Some x
or_else None other = other

-- both are there, and are the ends of the same links, or neither is there
abbrev IsMutual : {A : Type 0} → Option (RunnerPort A) → Option (RunnerPort A) → Type 0
IsMutual (Some p) (Some q) = IsCable p q
IsMutual (Some p) None = ⊥
IsMutual None (Some q) = ⊥
IsMutual None None = Unit {0}

module _ {A : Type 0} where
  found-append : (ps qs : List (RunnerPort A)) (j : ℕ) → port_to (ps ++ qs) j ≡ or_else (port_to ps j) (port_to qs j)
  found-append [] qs j = refl
  found-append (p ∷ ps) qs j = let later = found-append ps qs j in grind (arith, common_steps)

  mutual-or : (a b c d : Option (RunnerPort A)) → IsMutual a b → IsMutual c d → IsMutual (or_else a c) (or_else b d)
  mutual-or a b c d first second = grind (arith, common_steps, first, second)

  mutual-cabled : (a b : Option (RunnerPort A)) → IsMutual a b → (a ≡ None → ⊥) → IsCableOn a b
  mutual-cabled a b is some = grind (arith, common_steps, is, some)

  has-port : (ps : List (RunnerPort A)) (v : ℕ) → Contains (ids_in ps) v → port_to ps v ≡ None → ⊥
  has-port [] v (k, within, at) none = absurd (omega arith)
  has-port (p ∷ ps) v (zero, within, at) none = grind (arith, common_steps, at, none)
  has-port (p ∷ ps) v (suc k, within, at) none = let later = has-port ps v (k, omega arith, at) in grind (arith, common_steps, later, none)

  mutual-ends : (u v : ℕ) (p q : RunnerPort A) → u < v → p.neighbour ≡ v → q.neighbour ≡ u → IsCable p q → (i j : ℕ) → IsMutual (port_to (ends_at u p v q i) j) (port_to (ends_at u p v q j) i)
  mutual-ends u v p q order to-v to-u cable i j = grind (arith, common_steps, order, to-v, to-u, cable)

  new-ids : (u v : ℕ) (p q : RunnerPort A) → p.neighbour ≡ v → q.neighbour ≡ u → (x : ℕ) → ids_in (ends_at u p v q x) ≡ ends_at u v v u x
  new-ids u v p q to-v to-u x = grind (arith, common_steps, to-v, to-u)

  all-ends : (P : ℕ → RunnerPort A → Type 0) (u v : ℕ) (p q : RunnerPort A) → P u p → P v q → (x : ℕ) → All (P x) (ends_at u p v q x)
  all-ends P u v p q at-u at-v x = grind (arith, common_steps, at-u, at-v)

-- ---- what has been laid

-- Each node has a port to each of its neighbours below its bound, ascending, as a run from this world
-- begins, and ports that lead to each other are the ends of the same links.
pub record IsLaid {A : Type 0} (w : World) (bound : ℕ → ℕ) (rows : List (List (RunnerPort A))) : Type 0 where
  pub ids : (x : ℕ) → x < w.net.nodes → ids_in (row rows x) ≡ neighbours_in (bound x) w.net.edges x
  pub said : (x : ℕ) → x < w.net.nodes → All (IsPortNoted w x []) (row rows x)
  pub joint : (i j : ℕ) → IsMutual (port_to (row rows i) j) (port_to (row rows j) i)

module _ {A : Type 0} (w : World) (rows : List (List (RunnerPort A))) where
  pub laid-more : (l : LinksView) (more : List (List (RunnerPort A))) (n u v : ℕ) → IsOver w l → u < v → are_joined w.net.edges v u ≡ are_joined w.net.edges u v → are_joined w.net.edges u v ≡ true
      → IsCabledOnce l u v rows more → IsLaid w (reach n u v) rows → IsLaid w (reach n u (v + 1)) more
  laid-more l more n u v over order back joined it laid =
      let ends = ends_at u it.near v it.far in
      record {
        ids = λ x xn.
            let next = one-more (are_joined w.net.edges) n u v order back x in
            let was = laid.ids x xn in
            let new = new-ids u v it.near it.far it.to_far it.to_near x in
            rw (it.grown x, map-append) (grind (arith, common_steps, joined, next, was, new));
        said = λ x xn. subst (All (IsPortNoted w x [])) (sym (it.grown x)) (All-append (IsPortNoted w x []) (row rows x) (ends x) (laid.said x xn) (all-ends (λ x. IsPortNoted w x []) u v it.near it.far (it.said w over).0 (it.said w over).1 x));
        joint = λ i j. rw (it.grown i, it.grown j, found-append, found-append) (mutual-or _ _ _ _ (laid.joint i j) (mutual-ends u v it.near it.far order it.to_far it.to_near it.cable i j));
      }

  -- the same ports, if no other neighbour is below the bound
  pub laid-as : (f g : ℕ → ℕ) → ((x : ℕ) → x < w.net.nodes → neighbours_in (f x) w.net.edges x ≡ neighbours_in (g x) w.net.edges x) → IsLaid w f rows → IsLaid w g rows
  laid-as f g same laid = record { ids = λ x xn. laid.ids x xn ∙ same x xn; said = laid.said; joint = laid.joint }

  -- at first there is no port
  pub laid-nothing : (n : ℕ) → ((x : ℕ) → row rows x ≡ []) → IsLaid w (reach n 0 0) rows
  laid-nothing n none = record {
    ids = λ x xn. ap ids_in (none x) ∙ grind (arith, common_steps);
    said = λ x xn. rw (none x) (All-nil (IsPortNoted w x []));
    joint = λ i j. rw (none i, none j) tt;
  }

  -- at last each has all of its own
  pub laid-all : ((i j : ℕ) → IsTrue (are_joined w.net.edges i j) → (i < w.net.nodes) × Contains (neighbours_of w.net i) j) → IsLaid w (reach w.net.nodes w.net.nodes w.net.nodes) rows → AreFurnished w rows
  laid-all has laid = record {
    ids = all-ids;
    said = laid.said;
    cabled = λ i j joined. let at = has i j joined in mutual-cabled _ _ (laid.joint i j) (has-port (row rows i) j (subst (λ xs. Contains xs j) (sym (all-ids i at.0)) at.1));
  }
    where
      all-ids : (x : ℕ) → x < w.net.nodes → ids_in (row rows x) ≡ neighbours_of w.net x
      all-ids x xn = let at : reach w.net.nodes w.net.nodes w.net.nodes x ≡ w.net.nodes = grind (arith, common_steps) in rw at at (laid.ids x xn)
