use Rattle.std.proofs.Common.{◌≡◌, ◌∙◌, sym, get_or, None, Some}
use Rattle.toml.specs.View.{view, items_view}
use Rattle.network_hints.specs.Reading.{ends_in, ends_of}
use Rattle.network_hints.proofs.EdgesRead.{none_in_front, in_front-end, in_front-none, in_front-some}
use Rattle.network_hints.proofs.reading.ends_in.Goals as goal

pub loop-place-init : goal.loop-place-init
loop-place-init c = rw c.new-edges.ensures.items (none_in_front (ends_in 0 (items_view c.args.values.now)))

pub loop-place-preserved : goal.loop-place-preserved
loop-place-preserved c =
    let edge : ends_of (view (get_or c.args.values.now c.loop-place.place c.index-values-place.result)) ≡ Some c.in-Some.edge = cc in
    rw c.in_ok-push-in-Some.ensures.items (c.loop-place.invariant ∙ in_front-some c.loop-place.edges.items c.in-Some.edge
    c.args.values.now c.loop-place.place c.index-values-place.result c.loop-place-test.true edge)

pub returns : goal.returns
returns c = sym (c.loop-place.invariant
    ∙ in_front-end c.loop-place.edges.items c.args.values.now c.loop-place.place c.loop-place-test.false)

pub returns-in-None : goal.returns-in-None
returns-in-None c =
    let none : ends_of (view (get_or c.args.values.now c.loop-place.place c.index-values-place.result)) ≡ None = cc in
    sym (c.loop-place.invariant ∙ in_front-none c.loop-place.edges.items c.args.values.now c.loop-place.place
    c.index-values-place.result c.loop-place-test.true none)
