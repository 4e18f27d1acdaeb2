use Rattle.std.proofs.Common.{◌≡◌, ◌∙◌, ap, sym, rules}
use Rattle.std.specs.Prelude.{max}
use Rattle.std.specs.List.{reduce}
use Rattle.std.proofs.lemmas.Iterator.{YieldsList-from_slice}
use Rattle.std.proofs.lemmas.Iterator.Adapters.{option_map_id}
use Rattle.std.proofs.lemmas.Iterator.Consumers.{YieldsList-from_copied, max_from_yields_List}
use Rattle.topology.specs.Layout.{network_of}
use Rattle.topology.specs.Eccentricity.{eccentricity_of}
use Rattle.topology.proofs.Eccentricity.{greatest-kept, eccentricity-is}
use Rattle.topology.proofs.net.Net.eccentricity.Given.{Over}
use Rattle.topology.proofs.net.Net.eccentricity.Goals as goal

-- the greatest of the kept distances is the greatest of all
computed : (g : Over) (c : goal.After-unwrap_or g) → c.unwrap_or.result ≡ eccentricity_of (network_of c.self.inside)
computed g c =
    let kept = c.self.inside.layout.distances.items in
    let read : c.max.result ≡ reduce max c.deref.result.now =
    sym (option_map_id _) ∙ max_from_yields_List _ _ c.max.ensures.ran (YieldsList-from_copied (YieldsList-from_slice c.deref.result.now cc)) in
    let found : c.max.result ≡ reduce max kept = read ∙ ap (reduce max) (search rules) in
    greatest-kept (network_of c.self.inside) kept c.max.result c.unwrap_or.result c.self.invariant.0.network c.self.invariant.0.all_distances
    c.self.invariant.0.distances_are found c.unwrap_or.ensures

pub returns-clause-greatest : goal.returns-clause-greatest
returns-clause-greatest g c =
    rw (← c.self.view_is) ((eccentricity-is (network_of c.self.inside) c.unwrap_or.result c.self.invariant.0.network).0 (sym (computed g c)))

pub returns-clause-computed : goal.returns-clause-computed
returns-clause-computed g c = rw (← c.self.view_is) (computed g c)
