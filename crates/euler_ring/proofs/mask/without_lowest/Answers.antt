use Rattle.std.proofs.Common.{sym, ◌∙◌}
use Rattle.euler_ring.proofs.Masks.{lowest_below, ids_without_lowest, ids_no_lowest}
use Rattle.euler_ring.proofs.mask.without_lowest.Goals as goal

pub above-requires : goal.above-requires
above-requires c = lowest_below c.args.ids _ (sym c.in-Some.ensures)

pub returns-in-Some : goal.returns-in-Some
returns-in-Some c = c.above.ensures ∙ ids_without_lowest c.args.ids _ (sym c.in-Some.ensures)

pub returns-in-None : goal.returns-in-None
returns-in-None c = ids_no_lowest c.args.ids (sym c.in-None.ensures)
