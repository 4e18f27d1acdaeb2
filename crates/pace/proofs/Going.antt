-- Going over the ports of a node, one after the other.
use Rattle.std.proofs.Common.{◌≡◌, ◌≢◌, ◌⊎◌, ◌<◌, ◌≤◌, ◌+◌, ◌&&◌, ℕ, Bool, false, List, Option, length, replicate, slice_index_or, slice_set, refl, inl, inr, sym, arith}
use Rattle.std.specs.Prelude.{min}
use Rattle.std.proofs.lemmas.Grind.{common_steps}
use Rattle.std.proofs.lemmas.Bool.Decides.{nat_tests}
use Rattle.std.proofs.lemmas.List.{get_or-set_same, get_or-set_other, get_or-replicate, get_or_past, length-set, length-replicate}
use Rattle.std.proofs.lemmas.Bool.{cases_lt}
use Rattle.pace.specs.declared.node.Outlook.{Outlook}
use Rattle.pace.specs.declared.node.NodePace.{NodePace}
use Rattle.pace.specs.declared.pace.Manner.{Manner}
use Rattle.pace.specs.declared.port.PortPace.{PortPace}
use Rattle.pace.specs.Ports.{fresh_port}
use Rattle.pace.specs.Plans.{port_of, called_port, is_tree, is_other, node_rest}

apart : (p i : ℕ) → p < i → p ≡ i → ⊥
apart p i less same = omega arith

past : (p i : ℕ) → i + 1 ≤ p → p ≡ i → ⊥
past p i from same = omega arith

-- each place of a list of equal values has that value, and so has each beyond its end
all-same : {X : Type 0} (n p : ℕ) (x : X) → slice_index_or (replicate n x) p x ≡ x
all-same n p x =
    elim (cases_lt p n) [
      | inl before ↦ get_or-replicate n p x x before
      | inr from ↦ get_or_past (replicate n x) p x (rw (length-replicate n x) from)
    ]

-- the least so far: it is what it was at the start, or what one of the ports says
pub record IsLeast (f : ℕ → ℕ) (start rest i : ℕ) : Type 0 where
  pub most : rest ≤ start
  pub ports : (p : ℕ) → p < i → rest ≤ f p
  pub reached : (rest ≡ start) ⊎ ((p : ℕ) × (p < i) × (rest ≡ f p))

none-below : (p : ℕ) → p < 0 → ⊥
none-below p below = omega arith

pub least-start : (f : ℕ → ℕ) (start : ℕ) → IsLeast f start start 0
least-start f start = record { most = omega arith; ports = λ p below. elim (none-below p below) [ ]; reached = inl refl }

below-or-last : (p i : ℕ) → p < i + 1 → (p < i) ⊎ (p ≡ i)
below-or-last p i below = grind arith

least-of : (a b : ℕ) → (min a b ≡ a) ⊎ (min a b ≡ b)
least-of a b = grind (arith, common_steps, nat_tests)

least-below : (f : ℕ → ℕ) (rest i p : ℕ) → ((q : ℕ) → q < i → rest ≤ f q) → p < i + 1 → min rest (f i) ≤ f p
least-below f rest i p ports below =
    let by : (p < i) ⊎ (p ≡ i) → min rest (f i) ≤ f p =
    λ o. elim o [
      | inl less ↦ (let r : rest ≤ f p = ports p less in grind (arith, common_steps, nat_tests))
      | inr same ↦ rw same (grind (arith, common_steps, nat_tests))
    ] in
    by (below-or-last p i below)

least-reached : (f : ℕ → ℕ) (start rest i : ℕ) → (rest ≡ start) ⊎ ((p : ℕ) × (p < i) × (rest ≡ f p))
    → (min rest (f i) ≡ start) ⊎ ((p : ℕ) × (p < i + 1) × (min rest (f i) ≡ f p))
least-reached f start rest i (inl same) =
    elim (least-of rest (f i)) [ inl r ↦ inl (rw r same) | inr r ↦ inr (i, omega arith, r) ]
least-reached f start rest i (inr (p, below, same)) =
    elim (least-of rest (f i)) [ inl r ↦ inr (p, omega arith, rw r same) | inr r ↦ inr (i, omega arith, r) ]

pub least-next : (f : ℕ → ℕ) (start rest i : ℕ) → IsLeast f start rest i → IsLeast f start (min rest (f i)) (i + 1)
least-next f start rest i l = record {
  most = let m : _ = l.most in grind (arith, common_steps, nat_tests);
  ports = λ p below. least-below f rest i p l.ports below;
  reached = least-reached f start rest i l.reached;
}

-- the plan so far: what the ports below say, and no at all others
pub record IsPlanned (f : ℕ → Bool) (offers : List Bool) (i : ℕ) : Type 0 where
  pub size : length offers ≡ 64
  pub below : (p : ℕ) → p < i → slice_index_or offers p false ≡ f p
  pub above : (p : ℕ) → i ≤ p → slice_index_or offers p false ≡ false

no-offers : (p : ℕ) → slice_index_or (replicate 64 false) p false ≡ false
no-offers p = all-same 64 p false

pub planned-start : (f : ℕ → Bool) → IsPlanned f (replicate 64 false) 0
planned-start f = record { size = refl; below = λ p below. elim (none-below p below) [ ]; above = λ p from. no-offers p }

planned-below : (f : ℕ → Bool) (offers : List Bool) (i p : ℕ) → i < length offers
    → ((q : ℕ) → q < i → slice_index_or offers q false ≡ f q) → p < i + 1 → slice_index_or (slice_set offers i (f i)) p false ≡ f p
planned-below f offers i p here below less =
    elim (below-or-last p i less) [
      | inl before ↦ (let other : p ≢ i = λ same. elim (apart p i before same) [ ] in
          rw (get_or-set_other offers i p (f i) false other) (below p before))
      | inr same ↦ rw same (get_or-set_same offers i (f i) false here)
    ]

pub planned-next : (f : ℕ → Bool) (offers : List Bool) (i : ℕ) (x : Bool) → i < 64 → x ≡ f i → IsPlanned f offers i
    → IsPlanned f (slice_set offers i x) (i + 1)
planned-next f offers i x here same l = rw same record {
  size = rw (length-set offers i (f i)) l.size;
  below = λ p less. planned-below f offers i p (rw l.size here) l.below less;
  above = λ p from. rw (get_or-set_other offers i p (f i) false (λ same. elim (past p i from same) [ ])) (l.above p (omega arith));
}

-- the calls so far: each port below is as it must be, and all others as before
pub record IsPassed (f : ℕ → PortPace) (old ports : List PortPace) (i : ℕ) : Type 0 where
  pub size : length ports ≡ length old
  pub below : (p : ℕ) → p < i → port_of ports p ≡ f p
  pub above : (p : ℕ) → i ≤ p → port_of ports p ≡ port_of old p

pub passed-start : (f : ℕ → PortPace) (old : List PortPace) → IsPassed f old old 0
passed-start f old = record { size = refl; below = λ p below. elim (none-below p below) [ ]; above = λ p from. refl }

passed-below : (f : ℕ → PortPace) (ports : List PortPace) (i p : ℕ) → i < length ports
    → ((q : ℕ) → q < i → port_of ports q ≡ f q) → p < i + 1 → port_of (slice_set ports i (f i)) p ≡ f p
passed-below f ports i p here below less =
    elim (below-or-last p i less) [
      | inl before ↦ rw (get_or-set_other ports i p (f i) fresh_port (λ same. elim (apart p i before same) [ ])) (below p before)
      | inr same ↦ rw same (get_or-set_same ports i (f i) fresh_port here)
    ]

pub passed-next : (f : ℕ → PortPace) (old ports : List PortPace) (i : ℕ) (x : PortPace) → i < length old → x ≡ f i → IsPassed f old ports i
    → IsPassed f old (slice_set ports i x) (i + 1)
passed-next f old ports i x here same l = rw same record {
  size = rw (length-set ports i (f i)) l.size;
  below = λ p less. passed-below f ports i p (rw l.size here) l.below less;
  above = λ p from. rw (get_or-set_other ports i p (f i) fresh_port (λ same. elim (past p i from same) [ ])) (l.above p (omega arith));
}

-- past the last port there is no tree neighbour
no-tree : (trees : List Bool) (p : ℕ) → length trees ≤ p → is_tree trees p ≡ false
no-tree trees p past = get_or_past trees p false past

not-called : (tree other : Bool) (port : PortPace) → tree ≡ false → called_port (tree && other) port ≡ port
not-called tree other port none = grind (arith, common_steps)

pub passed-end : (trees : List Bool) (but : Option ℕ) (old ports : List PortPace) (i : ℕ) → length trees ≤ i
    → IsPassed (λ p. called_port (is_tree trees p && is_other but p) (port_of old p)) old ports i
    → (p : ℕ) → port_of ports p ≡ called_port (is_tree trees p && is_other but p) (port_of old p)
passed-end trees but old ports i end l p =
    elim (cases_lt p i) [
      | inl before ↦ l.below p before
      | inr from ↦ rw (l.above p from) (sym (not-called (is_tree trees p) (is_other but p) (port_of old p) (no-tree trees p (omega arith))))
    ]

-- every port of a new node is a fresh one
pub all_fresh : (p : ℕ) → port_of (replicate 64 fresh_port) p ≡ fresh_port
all_fresh p = all-same 64 p fresh_port

-- a node rests 2 milliseconds at most
pub short : (outlook : Outlook) (manner : Manner) (now : ℕ) (node : NodePace) → node_rest outlook manner now node ≤ 2000
short outlook manner now node = grind (arith, common_steps, nat_tests)

pub least-end : (f : ℕ → ℕ) (start rest i n : ℕ) → i ≤ n → (rest ≡ start) ⊎ ((p : ℕ) × (p < i) × (rest ≡ f p))
    → (rest ≡ start) ⊎ ((p : ℕ) × (p < n) × (rest ≡ f p))
least-end f start rest i n most (inl same) = inl same
least-end f start rest i n most (inr (p, below, same)) = inr (p, omega arith, same)
