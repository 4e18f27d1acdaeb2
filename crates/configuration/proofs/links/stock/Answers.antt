use Rattle.std.proofs.Common.{◌≡◌, arith, subst}
use Rattle.configuration.specs.Placed.{AreStocked}
use Rattle.configuration.proofs.Placing.{stocked-more}
use Rattle.configuration.proofs.links.stock.Goals as goal

pub loop-place-preserved : goal.loop-place-preserved
loop-place-preserved g c =
    let less = c.loop-place-test.true in
    let room = c.loop-place.invariant.1 in
    let same = c.push_reserved.ensures.capacity in (
      stocked-more c.args.capacity c.loop-place.place c.in_ok-new-2.field-0 c.loop-place.links.items c.push-in-loop-place.new.self.items c.loop-place.spares.items
          c.push_reserved.new.self.items c.loop-place.invariant.0 c.in_ok-new-2.ensures c.in_ok-push-2.ensures.items c.push_reserved.ensures.items,
      omega (arith, room, same),
      omega (arith, less),
    )

pub returns-clause-stocked : goal.returns-clause-stocked
returns-clause-stocked g c =
    let end = c.loop-place-test.false in
    let within = c.loop-place.invariant.2 in
    let all : c.loop-place.place ≡ c.args.count = omega (arith, end, within) in
    subst (λ n. AreStocked c.args.capacity n c.loop-place.links.items c.loop-place.spares.items) all c.loop-place.invariant.0
