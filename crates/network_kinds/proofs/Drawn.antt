-- Edges that are drawn, one after the other.
use Rattle.std.proofs.Common.{◌≡◌, ◌∙◌, ℕ, zero, suc, ◌+◌, ◌-◌, ◌<◌, List, [], ◌∷◌, ◌++◌, length, get_or, refl, sym, ap, arith, append_assoc}
use Rattle.std.specs.List.{remove}
use Rattle.std.proofs.Math.Numerals.{add-one}
use Rattle.std.proofs.lemmas.List.{append-nil, get_or_default}
use Rattle.rand_pcg.specs.Lcg.{Lcg}
use Rattle.topology.specs.Network.{Edge}
use Rattle.network_kinds.specs.Random.{draw, tree_edges, further_edges}

-- one edge more of the tree
pub tree_more : (k earlier : ℕ) (tree : List Edge) (now after start : Lcg) → (tree, now) ≡ tree_edges k start
    → earlier ≡ (draw (k + 1) now).0 → after ≡ (draw (k + 1) now).1
    → (tree ++ (earlier, k + 1) ∷ [], after) ≡ tree_edges (k + 1) start
tree_more k earlier tree now after start done drawn then =
    rw (drawn, then, add-one k) (ap (λ (before : List Edge × Lcg). (before.0 ++ ((draw (suc k) before.1).0, suc k) ∷ [], (draw (suc k) before.1).1)) done)

-- without pairs that are left there are no further edges
pub further_stop : (n : ℕ) (left : List Edge) (g : Lcg) → length left ≡ 0 → further_edges n left g ≡ []
further_stop zero left g none = refl
further_stop (suc n) [] g none = refl
further_stop (suc n) (e ∷ es) g none = absurd (omega arith)

pub further_ends : (n : ℕ) (edges left whole : List Edge) (g : Lcg) → edges ++ further_edges n left g ≡ whole → length left ≡ 0 → edges ≡ whole
further_ends n edges left whole g e none = sym (append-nil edges) ∙ (ap (λ es. edges ++ es) (sym (further_stop n left g none)) ∙ e)

-- one further edge
further_one : (n : ℕ) (left : List Edge) (g : Lcg) → 0 < length left
    → further_edges (suc n) left g ≡ get_or left (draw (length left) g).0 (0, 0) ∷ further_edges n (remove left (draw (length left) g).0) (draw (length left) g).1
further_one n [] g some = absurd (omega arith)
further_one n (e ∷ es) g some = refl

pub further_more : (i count n at : ℕ) (edges later left rest whole : List Edge) (g after : Lcg) → i < count → 0 < length left → n ≡ length left
    → at ≡ (draw n g).0 → after ≡ (draw n g).1 → later ≡ edges ++ get_or left at (0, 0) ∷ [] → rest ≡ remove left at
    → edges ++ further_edges (count - i) left g ≡ whole
    → later ++ further_edges (count - (i + 1)) rest after ≡ whole
further_more i count n at edges later left rest whole g after more some long drawn then put removed e =
    let one : count - i ≡ suc (count - (i + 1)) = omega arith in
    let place : at ≡ (draw (length left) g).0 = drawn ∙ ap (λ m. (draw m g).0) long in
    let next : after ≡ (draw (length left) g).1 = then ∙ ap (λ m. (draw m g).1) long in
    let first : further_edges (count - i) left g ≡ get_or left at (0, 0) ∷ further_edges (count - (i + 1)) rest after =
    ap (λ k. further_edges k left g) one ∙ (further_one (count - (i + 1)) left g some ∙ rw (removed, place, next) refl) in
    rw put (append_assoc edges (get_or left at (0, 0) ∷ []) (further_edges (count - (i + 1)) rest after) ∙ (ap (λ es. edges ++ es) (sym first) ∙ e))

-- the edge that was removed is put last
pub moved_is : (edges later left : List Edge) (at : ℕ) (edge : Edge) → later ≡ edges ++ edge ∷ [] → edge ≡ get_or left at edge → at < length left
    → later ≡ edges ++ get_or left at (0, 0) ∷ []
moved_is edges later left at edge put is there = put ∙ ap (λ e. edges ++ e ∷ []) (is ∙ get_or_default left at edge (0, 0) there)
