use Rattle.std.proofs.Common.{◌≡◌, ◌∙◌, ◌↔◌, ap, sym, refl, subst, ℕ, ◌+◌, ◌-◌, List, ◌++◌, length, take, arith}
use Rattle.std.proofs.Math.Seq.{take-length}
use Rattle.configuration.specs.ConfigurationView.{world_of}
use Rattle.configuration.specs.data_link.Edge.{newest_first}
use Rattle.layers.specs.Numbers.{number_of}
use Rattle.layers.specs.RingReading.{MayFollow}
use Rattle.layers.proofs.Rings.{numbers-go_on}
use Rattle.layers.proofs.items.after_numbers.Goals as goal

pub loop-left-init : goal.loop-left-init
loop-left-init g c =
    let items = (world_of c.args.configuration.now).link c.args.from c.args.to in
    let f = number_of c.args.number in
    let all : take c.under_way-left.result items ≡ items = ap (λ k. take k items) c.under_way-left.ensures.items ∙ take-length items in (
      omega (arith, c.under_way-left.ensures.items),
      refl,
      λ rest. subst (λ ys. MayFollow c.args.start (newest_first f ys ++ rest) ↔ MayFollow c.args.start (newest_first f items ++ rest)) (sym all) (λ a. a, λ a. a),
    )

pub loop-left-preserved : goal.loop-left-preserved
loop-left-preserved g c =
    let items = (world_of c.args.configuration.now).link c.args.from c.args.to in
    let f = number_of c.args.number in
    let left = c.loop-left.left - 1 in
    let some = c.loop-left-test.true in
    let next : left + 1 ≡ c.loop-left.left = grind (arith, some) in
    let most = c.loop-left.invariant.0 in (
      grind (arith, some, most),
      c.after_number-reading.ensures.modulus ∙ c.loop-left.invariant.1,
      numbers-go_on f items left c.item-item.result c.args.start c.loop-left.reading c.after_number-reading.result c.item-item.ensures c.after_number-reading.ensures.follows
          (subst (λ k. (rest : List ℕ) → MayFollow c.loop-left.reading (newest_first f (take k items) ++ rest) ↔ MayFollow c.args.start (newest_first f items ++ rest))
          (sym next) c.loop-left.invariant.2),
    )

pub returns-clause-follows : goal.returns-clause-follows
returns-clause-follows g c = λ rest.
    let items = (world_of c.args.configuration.now).link c.args.from c.args.to in
    let f = number_of c.args.number in
    let none : c.loop-left.left ≡ 0 = grind (arith, c.loop-left-test.false) in
    subst (λ k. MayFollow c.loop-left.reading (newest_first f (take k items) ++ rest) ↔ MayFollow c.args.start (newest_first f items ++ rest)) none (c.loop-left.invariant.2 rest)
