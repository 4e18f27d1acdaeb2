use Rattle.std.proofs.Common.{◌+◌, arith, refl}
use Rattle.node_runner.proofs.Receiving.{takes-one}
use Rattle.node_runner.proofs.Stamps.{given-back-more, given-back-same}
use Rattle.node_runner.proofs.ports.Incoming.take.Goals as goal

pub returns-then-stamp-le-LAST_PLACE-clause-taken : goal.returns-then-stamp-le-LAST_PLACE-clause-taken
returns-then-stamp-le-LAST_PLACE-clause-taken g c = λ capacity old takes was.
    let it = c.in-Ok.ensures.ok in
    let later = c.max-stamp.ensures in
    let looked = c.is_full.ensures.looked in
    let pushed = c.push_reserved.ensures.sent in
    takes-one capacity old takes c.args.self.now _ c.in-Ok.came (c.max-stamp.result + 1) was it.0 it.1 (omega (arith, later))
    (let back = looked.1 in rw (pushed.0, back, was.returned, given-back-more takes (record { stamp = c.max-stamp.result + 1; item = c.in-Ok.came.item }) (omega arith)) refl) (let free = pushed.1 in let place = looked.2 in omega (arith, free, place))

pub returns-else-stamp-le-LAST_PLACE-clause-taken : goal.returns-else-stamp-le-LAST_PLACE-clause-taken
returns-else-stamp-le-LAST_PLACE-clause-taken g c = λ capacity old takes was.
    let it = c.in-Ok.ensures.ok in
    let later = c.max-stamp.ensures in
    let looked = c.is_full.ensures.looked in
    takes-one capacity old takes c.args.self.now _ c.in-Ok.came (c.max-stamp.result + 1) was it.0 it.1 (omega (arith, later))
    (let back = looked.1 in rw (back, was.returned, given-back-same takes (record { stamp = c.max-stamp.result + 1; item = c.in-Ok.came.item }) (omega arith)) refl) (let place = looked.2 in omega (arith, place))
