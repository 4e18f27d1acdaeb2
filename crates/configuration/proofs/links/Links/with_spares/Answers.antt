use Rattle.std.proofs.Common.{◌∙◌, arith, length}
use Rattle.configuration.specs.Placed.{AreStocked}
use Rattle.configuration.proofs.Changing.{half-is, start-links, start-under}
use Rattle.configuration.proofs.Placing.{stocked-as}
use Rattle.configuration.proofs.links.Links.with_spares.Goals as goal

pub lay_all-requires : goal.lay_all-requires
lay_all-requires g c =
    let all = c.in_ok-links.ensures.stocked.all_spares in
    let count = c.link_count-count.ensures.count in
    record { enough = omega (arith, all, count) }

pub invariant_of-result : goal.invariant_of-result
invariant_of-result g c =
    let stocked : AreStocked c.in_ok-net.net.capacity (length c.in_ok-links.spares.items) c.in_ok-links.links.items c.in_ok-links.spares.items =
    stocked-as _ _ _ c.in_ok-links.links.items c.in_ok-links.spares.items (c.from.ensures ∙ c.capacity.ensures.capacity) c.in_ok-links.ensures.stocked in
    let long = stocked.all_links in
    let made = c.in_ok-links.ensures.stocked.all_spares in
    let room = c.in_ok-links.ensures.room in
    let same = c.in_ok-places.ensures.capacity in (
      start-links c.in_ok-net.net c.in_ok-places.places c.in_ok-links.links.items c.in_ok-links.spares.items (length c.in_ok-links.spares.items) c.lay_all.ensures.network stocked
          c.lay_all.new.spares.items (c.in_ok-places.ensures.laid c.in_ok-links.links.items stocked) c.in_ok-places.ensures.left,
      omega (arith, long, made, room, same),
    )

pub returns-clause-spares : goal.returns-clause-spares
returns-clause-spares g c =
    let made = c.in_ok-links.ensures.stocked.all_spares in
    let count = c.link_count-count.ensures.count in
    let left = c.in_ok-places.ensures.left in
    half-is (length c.lay_all.new.spares.items) c.args.pairs (omega (arith, made, count, left))

pub returns-clause-empty : goal.returns-clause-empty
returns-clause-empty g c =
    let stocked : AreStocked c.in_ok-net.net.capacity (length c.in_ok-links.spares.items) c.in_ok-links.links.items c.in_ok-links.spares.items =
    stocked-as _ _ _ c.in_ok-links.links.items c.in_ok-links.spares.items (c.from.ensures ∙ c.capacity.ensures.capacity) c.in_ok-links.ensures.stocked in
    start-under c.in_ok-net.net c.in_ok-places.places c.in_ok-links.links.items c.in_ok-links.spares.items (length c.in_ok-links.spares.items) c.lay_all.ensures.network stocked
    c.lay_all.new.spares.items (c.in_ok-places.ensures.laid c.in_ok-links.links.items stocked) c.in_ok-places.ensures.left
