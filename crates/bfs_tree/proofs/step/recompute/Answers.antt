use Rattle.std.proofs.Common.{arith}
use Rattle.bfs_tree.proofs.Nearest.{contains_first, contains_rest, turned_nearer, turned_no_nearer, alone, searched}
use Rattle.bfs_tree.proofs.step.recompute.Goals as goal
use Rattle.bfs_tree.proofs.step.recompute.Goals.{then-distance-least, else-distance-least}

pub loop-neighbour-init : goal.loop-neighbour-init
loop-neighbour-init g c = λ copied keeps. (alone copied _, keeps _ _ (contains_first _ _ _ c.in-Some.ensures.cases.0) c.copied-least.ensures)

pub copied-distance-requires : goal.copied-distance-requires
copied-distance-requires g c = c.requires.readable _ (contains_rest _ _ _ _ c.in-Some.ensures.cases.0 c.loop-neighbour-test.true)

pub loop-neighbour-preserved : goal.loop-neighbour-preserved
loop-neighbour-preserved g c = λ copied keeps.
    let h = c.loop-neighbour.invariant copied keeps in
    let read = keeps _ _ (contains_rest _ _ _ _ c.in-Some.ensures.cases.0 c.loop-neighbour-test.true) c.copied-distance.ensures in
    elim c.if-distance-least.branch [
      | then-distance-least w ↦ rw (w.parent-is, w.least-is) (turned_nearer copied _ _ _ _ _ c.loop-neighbour-test.true h.0 read (omega (arith, h.1, w.if-distance-least.true)), read)
      | else-distance-least w ↦ rw (w.parent-is, w.least-is) (turned_no_nearer copied _ _ _ _ _ c.loop-neighbour-test.true h.0 read (omega (arith, h.1, w.if-distance-least.false)), h.1)
    ]

pub returns : goal.returns
returns g c = λ copied keeps.
    let h = c.loop-neighbour.invariant copied keeps in
    let result = searched copied c.args.n _ _ _ _ _ _ _ c.in-Some.ensures.cases.0 c.loop-neighbour-test.false h.0 h.1 (omega arith) (rw c.saturating_add.ensures at c.min.ensures) in
    rw (c.if-is_root.false, ← result.0, ← result.1)
