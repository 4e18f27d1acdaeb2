use Rattle.std.proofs.Common.{◌<◌, ◌≤◌, length, take, refl, slice_set, slice_index_or, subst, sym, Contains}
use Rattle.std.proofs.lemmas.List.{take_all}
use Rattle.node_core.specs.View.{site_in, state_of}
use Rattle.node_loop.proofs.Sights.{AreSeen, NoneElse, none-next, none-start, seen-next, seen-start, take-next}
use Rattle.node_loop.proofs.sight.values.Goals as goal

pub loop-w-init : goal.loop-w-init
loop-w-init g c = (seen-start (state_of c.args.node.now).value 0 _ refl, none-start)

pub bounds-values-w : goal.bounds-values-w
bounds-values-w g c = (c.neighbours-w-items.ensures.within c.loop-w.w-index c.loop-w-test.true).0

pub loop-w-preserved : goal.loop-w-preserved
loop-w-preserved g c =
    let value = (state_of c.args.node.now).value in
    let ws = (site_in c.args.node.now).neighbours in
    let i = c.loop-w.w-index in
    let w = slice_index_or c.neighbours-w-items.result.now i 0 in
    let there : i < length ws = subst (λ xs. i < length xs) c.neighbours-w-items.ensures.neighbours c.loop-w-test.true in
    let next = slice_set c.loop-w.values w c.value.result in
    subst (λ vs. AreSeen value 0 vs next × NoneElse vs next) (sym (take-next c.neighbours-w-items.result.now ws c.neighbours-w-items.ensures.neighbours i there)) (
      seen-next value 0 (take i ws) c.loop-w.values w c.value.result (bounds-values-w g c) c.value.ensures c.loop-w.invariant.0,
      none-next (take i ws) c.loop-w.values w c.value.result c.loop-w.invariant.1,
    )

pub returns-clause-neighbours : goal.returns-clause-neighbours
returns-clause-neighbours g c w below has =
    let past = subst (λ xs. length xs ≤ c.loop-w.w-index) c.neighbours-w-items.ensures.neighbours c.loop-w-test.false in
    c.loop-w.invariant.0.seen w (subst (λ vs. Contains vs w) (sym (take_all c.loop-w.w-index (site_in c.args.node.now).neighbours past)) has)

pub returns-clause-others : goal.returns-clause-others
returns-clause-others g c w stranger =
    let past = subst (λ xs. length xs ≤ c.loop-w.w-index) c.neighbours-w-items.ensures.neighbours c.loop-w-test.false in
    c.loop-w.invariant.1 w (subst (λ vs. ¬ Contains vs w) (sym (take_all c.loop-w.w-index (site_in c.args.node.now).neighbours past)) stranger)
