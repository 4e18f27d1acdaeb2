-- Small examples of lanes of what has settled, with some that fail.
use Rattle.std.proofs.Common.{◌≡◌, ◌≢◌, false, true, refl, arith}
use Rattle.std.proofs.lemmas.Grind.{common_steps}
use Rattle.run_recording.specs.layers.declared.whole.Layers.{Layers}
use Rattle.run_picture.specs.declared.layout.settled.Layer.TheVariants.{Links, Tree, Ring, Loans}
use Rattle.run_picture.specs.Settled.{level_in, share}

-- one of four links is stable, all distances are right, but not all parents; the ring is good
abbrev early : Layers
early = record { links = 4; stable = 1; last_stage = 3; stage = 3; tree = false; ring = true; loans = false; legitimate = false }

levels-links : level_in Links early ≡ 2
levels-links = refl

levels-tree : level_in Tree early ≡ 7
levels-tree = refl

levels-reached : level_in Tree (record early { tree = true }) ≡ 8
levels-reached = refl

levels-ring : level_in Ring early ≡ 8
levels-ring = refl

levels-loans : level_in Loans early ≡ 0
levels-loans = refl

share-all : share 6 6 ≡ 8
share-all = refl

share_not-more : share 5 6 ≢ 8
share_not-more same = absurd (grind (arith, common_steps, same))
