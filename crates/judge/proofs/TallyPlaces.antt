-- A tally is read at its own place.
use Rattle.std.proofs.Common.{◌≡◌, ℕ, ◌<◌, ◌⊎◌, inl, inr, true, IsTrue, arith, slice_set, slice_index_or}
use Rattle.std.proofs.lemmas.Grind.{common_steps}
use Rattle.configuration.specs.run_model.World.{at_pair}
use Rattle.configuration.specs.PairTable.{value_at}
use Rattle.judge.specs.declared.tallies.Tally.{Tally}
use Rattle.judge.specs.Tallies.{TalliesView, IsTallied, IsOfNodes, has_place, no_tally, tally_of}

module _ (t : TalliesView) (n : ℕ) (ok : IsTallied t.table t.places n) (u v : ℕ) (new : Tally) (un : u < t.table.nodes) (vn : v < t.table.nodes)
    (placed : IsTrue (has_place t.table u v)) where
  pub tally-set : (looked i j : ℕ) → j < t.table.nodes
      → tally_of (record t { places = slice_set t.places (value_at t.table u v) new; looked = looked }) i j ≡ at_pair (tally_of t) u v new i j
  tally-set looked i j jn =
      let apart = ok.apart u v i j vn jn in
      let there = ok.inside u v vn in
      grind (arith, common_steps, apart, there, placed)

  pub own-set : (p : ℕ) → IsOfNodes t.table p ⊎ ((slice_index_or (slice_set t.places (value_at t.table u v) new) p no_tally).renewed ≡ true)
  own-set p =
      let cases : (value_at t.table u v ≡ p) ⊎ (slice_index_or (slice_set t.places (value_at t.table u v) new) p no_tally ≡ slice_index_or t.places p no_tally) =
      (let there = ok.inside u v vn in grind (arith, common_steps, there)) in
      elim cases [
        | inl here ↦ inl (u, v, un, vn, here)
        | inr other ↦ elim (ok.own p) [
          | inl nodes ↦ inl nodes
          | inr renewed ↦ inr (rw other renewed)
        ]
      ]
