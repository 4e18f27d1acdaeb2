use Rattle.std.proofs.Common.{ℕ, ◌≡◌, ◌∙◌, ap, sym, subst, ◌<◌, ◌≤◌, length, get_or, arith, Contains}
use Rattle.std.proofs.lemmas.List.Elements.{Contains-get_or}
use Rattle.topology.specs.Network.{neighbours_of}
use Rattle.configuration.specs.ConfigurationView.{world_of}
use Rattle.layers.specs.Links.{AreSuch, Nothing_left, IsLinkStable}
use Rattle.layers.proofs.Counts.{counted-yes, counted-no, few-neighbours}
use Rattle.layers.proofs.links.stable_count_from.Goals as goal
use Rattle.layers.proofs.links.stable_count_from.Goals.{then-is_stable, else-is_stable}

pub loop-to-init : goal.loop-to-init
loop-to-init g c = (Nothing_left, omega arith)

pub is_stable-requires-clause-to_in : goal.is_stable-requires-clause-to_in
is_stable-requires-clause-to_in g c =
    let net = (world_of c.args.configuration.now).net in
    let near = neighbours_of net c.args.from in
    let same : c.neighbours-to-items.result.now ≡ near = c.neighbours-to-items.ensures ∙ ap (λ n. neighbours_of n c.args.from) c.net.ensures in
    let there : c.loop-to.to-index < length near = rw same at c.loop-to-test.true in
    let holds : Contains near (get_or c.neighbours-to-items.result.now c.loop-to.to-index 0) = rw same (Contains-get_or near c.loop-to.to-index 0 there) in
    ((c.neighbours.ensures.joined net c.args.from (get_or c.neighbours-to-items.result.now c.loop-to.to-index 0)).0 holds).0

pub loop-to-preserved : goal.loop-to-preserved
loop-to-preserved g c =
    let w = world_of c.args.configuration.now in
    let P : ℕ × ℕ → Type 0 = IsLinkStable w in
    let f : ℕ → ℕ × ℕ = λ v. (c.args.from, v) in
    let near = neighbours_of w.net c.args.from in
    let same : c.neighbours-to-items.result.now ≡ near = c.neighbours-to-items.ensures ∙ ap (λ n. neighbours_of n c.args.from) c.net.ensures in
    let i = c.loop-to.to-index in
    let there : i < length near = rw same at c.loop-to-test.true in
    let few = c.loop-to.invariant.1 in
    elim c.if-is_stable.branch [
      | then-is_stable k ↦
          let stable : P (f (get_or near i 0)) = subst (λ xs. P (f (get_or xs i 0))) same (c.is_stable.ensures.0 k.if-is_stable.true) in
          rw k.count-is (counted-yes P f near i c.loop-to.count there c.loop-to.invariant.0 stable, omega (arith, few))
      | else-is_stable k ↦
          rw k.count-is (
            counted-no P f near i c.loop-to.count there c.loop-to.invariant.0
                (λ s. let e = sym (c.is_stable.ensures.1 (subst (λ xs. P (f (get_or xs i 0))) (sym same) s)) ∙ k.if-is_stable.false in grind (arith, e)),
            omega (arith, few),
          )
    ]

pub returns-clause-few : goal.returns-clause-few
returns-clause-few g c =
    let net = (world_of c.args.configuration.now).net in
    let same : c.neighbours-to-items.result.now ≡ neighbours_of net c.args.from = c.neighbours-to-items.ensures ∙ ap (λ n. neighbours_of n c.args.from) c.net.ensures in
    omega (arith, c.loop-to.invariant.1, c.loop-to.auto.to-index-end, ap length same, few-neighbours net c.args.from)
