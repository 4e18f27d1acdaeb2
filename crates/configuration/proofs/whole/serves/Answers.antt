use Rattle.std.proofs.Common.{◌∙◌, sym, arith}
use Rattle.configuration.specs.ConfigurationView.{world_of}
use Rattle.configuration.proofs.Serving.{shown-serves, serving-shows, serving-counts}
use Rattle.configuration.proofs.whole.serves.Goals as goal

pub returns-then-has_few : goal.returns-then-has_few
returns-then-has_few g c =
    let w = world_of c.args.configuration.now in
    let d = c.tree.ensures.distance in
    let p = c.tree.ensures.parent in
    let k = c.tree.ensures.known in
    let ok = c.ranges_hold.ensures in
    let few = c.has_few.ensures.0 c.if-has_few.true in (
      λ passes. shown-serves d p k w ok (c.shows_tree.ensures.0 passes) few.0 few.1,
      λ serving. c.shows_tree.ensures.1 (serving-shows d p k w ok serving),
    )

pub returns-else-has_few : goal.returns-else-has_few
returns-else-has_few g c =
    let w = world_of c.args.configuration.now in
    let counts = serving-counts c.tree.ensures.distance c.tree.ensures.parent c.tree.ensures.known w c.ranges_hold.ensures in (
      λ passes. absurd (grind arith),
      λ serving. absurd (let e = sym (c.has_few.ensures.1 (counts serving)) ∙ c.if-has_few.false in grind arith),
    )
