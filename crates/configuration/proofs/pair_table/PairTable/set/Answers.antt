use Rattle.std.proofs.Common.{◌≡◌, ◌<◌, length}
use Rattle.configuration.specs.PairTable.{PairTableView, place_of}
use Rattle.configuration.proofs.PairTables.{value-set}
use Rattle.configuration.proofs.pair_table.PairTable.set.Goals as goal

pub returns-clause-values : goal.returns-clause-values
returns-clause-values g c u v vn =
    let t : PairTableView = record { nodes = c.self.inside.nodes; values = c.self.inside.values.items } in
    let place : c.place-place.result ≡ place_of t.nodes c.args.first c.args.second = rw (← c.self.view_is) at c.place-place.ensures.place in
    let there : c.place-place.result < length t.values = rw (← c.self.view_is) at c.place-place.ensures.there in
    let second : c.args.second < t.nodes = rw (← c.self.view_is) at c.requires.second in
    let inside : v < t.nodes = rw (← c.self.view_is) at vn in
    rw (← c.self.view_is) (value-set t c.args.first c.args.second c.place-place.result c.args.value u v second inside place there)
