-- Places of tallies, laid one after the other.
use Rattle.std.proofs.Common.{◌≡◌, ◌*◌, take, ◌∙◌, sym, ap, subst, ℕ, ◌+◌, ◌<◌, ◌≤◌, ◌⊎◌, inl, inr, Bool, false, arith, List, [], ◌∷◌, ◌++◌, length, replicate, slice_index_or}
use Rattle.std.proofs.Math.Path.{fun_ext}
use Rattle.std.proofs.lemmas.Grind.{common_steps}
use Rattle.std.proofs.lemmas.List.{length-replicate, take_more}
use Rattle.std.proofs.lemmas.List.Folds.{list_any-append}
use Rattle.topology.specs.Network.{Edge, Network, IsAcceptedNetwork, are_joined, is_between}
use Rattle.configuration.specs.run_model.World.{at_pair}
use Rattle.configuration.specs.PairTable.{PairTableView, value_at}
use Rattle.configuration.specs.Placed.{joined_too}
use Rattle.judge.specs.declared.tallies.Tally.{Tally}
use Rattle.judge.specs.Tallies.{IsTallied, most_tallies, no_tally, unrenewed_in}
use Rattle.judge.specs.Laid.{IsLaid}
use Rattle.judge.proofs.TallyCounts.{none-there, none-unrenewed}

module _ (nodes : ℕ) (is_joined : ℕ → ℕ → Bool) (old new : PairTableView) (next a b : ℕ) (some : 0 < next)
    (laid : IsLaid nodes is_joined old next) (same_nodes : new.nodes ≡ old.nodes)
    (values : (u v : ℕ) → v < old.nodes → value_at new u v ≡ at_pair (value_at old) a b next u v) where
  value-is : (u v : ℕ) → v < nodes → value_at new u v ≡ at_pair (value_at old) a b next u v
  value-is u v vn = values u v (subst (λ n. v < n) (sym laid.nodes_are) vn)

  -- a pair has the new place, or its old one
  which : (u v : ℕ) → v < nodes → ((u ≡ a) × (v ≡ b) × (value_at new u v ≡ next)) ⊎ (value_at new u v ≡ value_at old u v)
  which u v vn = let is = value-is u v vn in grind (arith, common_steps, is)

  apart-one : (u v i j : ℕ) → v < nodes → j < nodes
      → value_at new u v ≡ value_at new i j → ((u ≡ i) × (v ≡ j)) ⊎ (value_at new u v ≡ 0)
  apart-one u v i j vn jn same =
      let one = laid.inside u v vn in
      let two = laid.inside i j jn in
      elim (which u v vn) [
        | inl x ↦ elim (which i j jn) [
          | inl y ↦ inl (x.0 ∙ sym y.0, x.1 ∙ sym y.1)
          | inr y ↦ absurd (omega (arith, x.2, y, same, two))
        ]
        | inr x ↦ elim (which i j jn) [
          | inl y ↦ absurd (omega (arith, x, y.2, same, one))
          | inr y ↦ elim (laid.apart u v i j vn jn (sym x ∙ same ∙ y)) [
            | inl z ↦ inl z
            | inr z ↦ inr (x ∙ z)
          ]
        ]
      ]

  laid-one : IsLaid nodes (joined_too is_joined a b) new (next + 1)
  laid-one = record {
    nodes_are = same_nodes ∙ laid.nodes_are;
    inside = λ u v vn.
        let is = value-is u v vn in
        let before = laid.inside u v vn in
        grind (arith, common_steps, is, before);
    apart = apart-one;
    placed = λ u v vn joined.
        let is = value-is u v vn in
        let before = laid.placed u v vn in
        grind (arith, common_steps, is, before, some, joined);
  }

-- an edge joins its two ends both ways
both-ways : (edges : List Edge) (e : Edge) (u v : ℕ) → joined_too (joined_too (are_joined edges) e.0 e.1) e.1 e.0 u v ≡ are_joined (edges ++ e ∷ []) u v
both-ways edges e u v = let one = list_any-append (is_between u v) edges (e ∷ []) in grind (arith, common_steps, one)

-- both links of an edge have a place
pub laid-edge : (nodes : ℕ) (all es : List Edge) (k : ℕ) (d : Edge) (first second third : PairTableView) (next : ℕ)
    → es ≡ all → IsLaid nodes (are_joined (take k all)) first next → next ≡ 2 * k + 1 → k < length es
    → second.nodes ≡ first.nodes → third.nodes ≡ second.nodes
    → ((u v : ℕ) → v < first.nodes → value_at second u v ≡ at_pair (value_at first) (slice_index_or es k d).0 (slice_index_or es k d).1 next u v)
    → ((u v : ℕ) → v < second.nodes → value_at third u v ≡ at_pair (value_at second) (slice_index_or es k d).1 (slice_index_or es k d).0 (next + 1) u v)
    → IsLaid nodes (are_joined (take (k + 1) all)) third (next + 2)
laid-edge nodes all es k d first second third next read laid count less same also out back =
    let e : Edge = slice_index_or es k d in
    let before : IsLaid nodes (are_joined (take k es)) first next = rw read laid in
    let forth : IsLaid nodes (joined_too (are_joined (take k es)) e.0 e.1) second (next + 1) =
    laid-one nodes (are_joined (take k es)) first second next e.0 e.1 (omega (arith, count)) before same out in
    let both : IsLaid nodes (joined_too (joined_too (are_joined (take k es)) e.0 e.1) e.1 e.0) third (next + 1 + 1) =
    laid-one nodes (joined_too (are_joined (take k es)) e.0 e.1) second third (next + 1) e.1 e.0 (omega (arith, count)) forth also back in
    let ways : joined_too (joined_too (are_joined (take k es)) e.0 e.1) e.1 e.0 ≡ are_joined (take k es ++ e ∷ []) =
    fun_ext (λ u. fun_ext (λ v. both-ways (take k es) e u v)) in
    let edges : take k es ++ e ∷ [] ≡ take (k + 1) all = sym (take_more es k d less) ∙ ap (take (k + 1)) read in
    let two : next + 1 + 1 ≡ next + 2 = omega arith in
    subst (λ n. IsLaid nodes (are_joined (take (k + 1) all)) third n) two
    (subst (λ es. IsLaid nodes (are_joined es) third (next + 1 + 1)) edges (subst (λ j. IsLaid nodes j third (next + 1 + 1)) ways both))

-- at first no pair is joined
pub laid-none : (nodes : ℕ) (table : PairTableView) → table.nodes ≡ nodes → ((u v : ℕ) → value_at table u v ≡ 0) → IsLaid nodes (λ u v. false) table 1
laid-none nodes table same zeros = record {
  nodes_are = same;
  inside = λ u v vn. let z = zeros u v in omega (arith, z);
  apart = λ u v i j vn jn same. inr (zeros u v);
  placed = λ u v vn joined. absurd cc;
}

-- there is a tally for each place, and none lacks anything
pub laid-tallied : (nodes : ℕ) (is_joined : ℕ → ℕ → Bool) (table : PairTableView) (next count : ℕ) (places : List Tally) → IsLaid nodes is_joined table next → next ≤ count
    → count ≡ most_tallies → places ≡ replicate count no_tally → IsTallied table places 0
laid-tallied nodes is_joined table next count places laid few most is =
    let long : length places ≡ count = ap length is ∙ length-replicate count no_tally in
    record {
      inside = λ u v vn. let below = laid.inside u v (subst (λ n. v < n) laid.nodes_are vn) in omega (arith, below, few, long);
      apart = λ u v i j vn jn. laid.apart u v i j (subst (λ n. v < n) laid.nodes_are vn) (subst (λ n. j < n) laid.nodes_are jn);
      all = long ∙ most;
      own = λ p. inr (ap (λ ts. (slice_index_or ts p no_tally).renewed) is ∙ ap (λ t. t.renewed) (none-there count p));
      few = sym (ap unrenewed_in is ∙ none-unrenewed count);
    }

-- no more places than there are for a network's edges
pub few-places : (net : Network) → IsAcceptedNetwork net → 2 * length net.edges + 1 ≤ most_tallies
few-places net ok = let few = ok.limits.few_edges in omega (arith, few)
