use Rattle.std.proofs.Common.{◌≡◌, drop}
use Rattle.toml.specs.View.{items_view}
use Rattle.network_hints.specs.Reading.{ends_in}
use Rattle.network_hints.proofs.EdgesRead.{in_front}
use Rattle.network_hints.proofs.reading.ends_in.Given as goal

abbrev pub invariant-loop-place : goal.invariant-loop-place
invariant-loop-place l = ends_in 0 (items_view l.values) ≡ in_front l.edges.items (ends_in l.place (items_view (drop l.place l.values)))
