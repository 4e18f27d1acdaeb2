use Rattle.std.proofs.Common.{◌≡◌, ◌++◌, drop}
use Rattle.serde_json.specs.View.{items_view}
use Rattle.status_readings.specs.LookSaid.{links_in}
use Rattle.status_readings.proofs.looks.links_in.Given as goal

-- what is there, and the links of the values that are left, are all
abbrev pub invariant-loop-value : goal.invariant-loop-value
invariant-loop-value l = links_in (items_view l.list)
    ≡ l.links.items ++ links_in (items_view (drop l.value-index l.list))
