use Rattle.std.proofs.Common.{◌≡◌, ◌<◌, ◌∙◌, length, take, refl, ap, true, false, slice_set, slice_index_or, subst, sym, rules}
use Rattle.std.proofs.lemmas.List.{take_all}
use Rattle.euler_ring.specs.Cycle.{is_on}
use Rattle.node_core.specs.Machines.{tree_of}
use Rattle.node_core.specs.View.{site_in, state_of}
use Rattle.node_loop.proofs.Sights.{AreSeen, OnlyTrue, only-next, only-start, seen-all, seen-next, seen-start, take-next}
use Rattle.node_loop.proofs.sight.trees.Goals as goal

pub loop-w-init : goal.loop-w-init
loop-w-init g c =
    let on = is_on (tree_of (site_in c.args.node.now) (state_of c.args.node.now)) in
    (seen-start on false _ refl, only-start on)

pub bounds-trees-w : goal.bounds-trees-w
bounds-trees-w g c = (c.neighbours-w-items.ensures.within c.loop-w.w-index c.loop-w-test.true).0

pub loop-w-preserved : goal.loop-w-preserved
loop-w-preserved g c =
    let site = site_in c.args.node.now in
    let on = is_on (tree_of site (state_of c.args.node.now)) in
    let ws = site.neighbours in
    let i = c.loop-w.w-index in
    let w = slice_index_or c.neighbours-w-items.result.now i 0 in
    let there : i < length ws = search rules in
    let few : w < 64 = bounds-trees-w g c in
    let same : c.contains.result ≡ on w = c.contains.ensures ∙ ap (λ tree. is_on tree w) c.tree-tree.ensures.tree in
    let next = slice_set c.loop-w.trees w c.contains.result in
    subst (λ vs. AreSeen on false vs next × OnlyTrue on next) (sym (take-next c.neighbours-w-items.result.now ws c.neighbours-w-items.ensures.neighbours i there)) (
      seen-next on false (take i ws) c.loop-w.trees w c.contains.result few same c.loop-w.invariant.0,
      only-next on c.loop-w.trees w c.contains.result (rw c.loop-w.invariant.0.size few) same c.loop-w.invariant.1,
    )

pub returns : goal.returns
returns g c w below =
    let site = site_in c.args.node.now in
    let on = is_on (tree_of site (state_of c.args.node.now)) in
    let seen = subst (λ vs. AreSeen on false vs c.loop-w.trees) (take_all c.loop-w.w-index site.neighbours (search rules)) c.loop-w.invariant.0 in
    let all : _ = λ v is. c.tree-tree.ensures.neighbours v (subst (λ tree. is_on tree v ≡ true) (sym c.tree-tree.ensures.tree) is) in
    seen-all on site.neighbours c.loop-w.trees seen c.loop-w.invariant.1 all w
