use Rattle.std.proofs.Common.{◌≡◌, ◌<◌, take}
use Rattle.std.proofs.lemmas.List.{take_all}
use Rattle.std.proofs.lemmas.List.Elements.{Contains-get_or, All-filter}
use Rattle.euler_ring.specs.Cycle.{tree_neighbours}
use Rattle.euler_ring.proofs.Ascending.{from_increasing, from-filter}
use Rattle.euler_ring.proofs.Masks.{has_none, ids_are}
use Rattle.euler_ring.proofs.Growing.{passed_more, passed_over, none_among, among_more, on_among, passes, fails}
use Rattle.euler_ring.proofs.neighbours.tree_neighbours.Goals as goal
use Rattle.euler_ring.proofs.neighbours.tree_neighbours.Goals.{then-is_parent, else-is_parent+else-is_child}

pub loop-neighbour-init : goal.loop-neighbour-init
loop-neighbour-init g c = record { passed = λ copied keeps i less. has_none i; among = none_among c.args.neighbours.now }

pub loop-neighbour-preserved : goal.loop-neighbour-preserved
loop-neighbour-preserved g c =
    let so_far = c.loop-neighbour.invariant in
    let inside = c.loop-neighbour-test.true in
    let there = Contains-get_or c.args.neighbours.now c.loop-neighbour.neighbour-index 0 inside in
    elim c.if-is_parent.branch [
      | then-is_parent k ↦ rw k.ids-is (record {
        passed = λ copied keeps. passed_more _ _ _ _ _ inside (so_far.passed copied keeps)
            (passes _ _ copied _ _ _ _ c.is_named-is_parent.ensures c.is_named-is_child.ensures (keeps _ _ there c.copied_parent.ensures) k.then-is_parent.either)
            k.with-ids.ensures.same k.with-ids.ensures.others;
        among = among_more _ _ _ _ inside so_far.among k.with-ids.ensures.others;
      })
      | else-is_parent+else-is_child k ↦ rw k.ids-is (record {
        passed = λ copied keeps. passed_over _ _ _ _ inside (so_far.passed copied keeps)
            (fails _ _ copied _ _ _ _ c.is_named-is_parent.ensures c.is_named-is_child.ensures (keeps _ _ there c.copied_parent.ensures) k.if-is_parent.false k.if-is_child.false);
        among = so_far.among;
      })
    ]

pub returns-clause-found : goal.returns-clause-found
returns-clause-found g c = λ copied keeps.
    let all : take c.loop-neighbour.neighbour-index c.args.neighbours.now ≡ c.args.neighbours.now = take_all _ _ c.loop-neighbour-test.false in
    ids_are c.loop-neighbour.ids (tree_neighbours c.args.parent c.args.id c.args.neighbours.now copied)
    (from-filter _ 0 _ (from_increasing _ c.requires.ascending)) (All-filter _ (λ t. t < 64) _ c.requires.few) (rw all at (c.loop-neighbour.invariant.passed copied keeps))

pub returns-clause-neighbours : goal.returns-clause-neighbours
returns-clause-neighbours g c = on_among c.loop-neighbour.ids c.args.neighbours.now c.loop-neighbour.invariant.among
