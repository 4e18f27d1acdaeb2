use Rattle.std.proofs.Common.{◌≡◌, ℕ, ◌+◌, ◌<◌, ◌⊎◌, sym, subst, inl, inr, arith}
use Rattle.configuration.specs.ConfigurationView.{world_of}
use Rattle.layers.specs.Links.{AreStableFrom}
use Rattle.layers.proofs.links.are_links_stable.Goals as goal

below-or-same : (u n : ℕ) → u < n + 1 → (u < n) ⊎ (u ≡ n)
below-or-same u n below = grind arith

pub loop-from-preserved : goal.loop-from-preserved
loop-from-preserved g c =
    λ u below.
    elim (below-or-same u c.loop-from.from below) [
      | inl less ↦ c.loop-from.invariant u less
      | inr same ↦
          subst (λ x. AreStableFrom (world_of c.args.configuration.now) x) (sym same) (c.are_stable_from.ensures.0 c.if-not-are_stable_from.false)
    ]
