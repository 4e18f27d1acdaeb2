-- The text of a search for a run that serves late.
use Rattle.std.specs.Prelude.{◌≡◌, ◌≤◌, ℕ, List, ◌++◌, Some, codes}
use Rattle.topology.specs.Network.{Network, bound_of}
use Rattle.topology.specs.Eccentricity.{sharp_of}
use Rattle.experiments.specs.Delays.{IsReplayed}
use Rattle.experiments.specs.declared.delay.Delay.{Delay}
use Rattle.network_commands.specs.Bound.{number_line}
use Rattle.subcommands.specs.declared.worst.Extent.{Extent}
use Rattle.subcommands.specs.declared.worst.Extent.TheVariants.{Searches, Minutes}
use Rattle.subcommands.specs.declared.worst.LatestRun.{LatestRun}

-- how many searches there were, the seed of the one that found the latest run, after how many sweeps that run served, and both bounds
abbrev pub worst_text : Network → ℕ → ℕ → Delay → List ℕ
worst_text net searches seed delay =
    number_line (codes "searches") searches
    ++ (number_line (codes "seed") seed
    ++ (number_line (codes "sweeps") delay.sweeps
    ++ (number_line (codes "sharp") (sharp_of net) ++ number_line (codes "sweeps-bound") (bound_of net))))

-- the delay of a run that was found is that of its events, judged from their start
abbrev pub IsJudged : Network → LatestRun → Type 0
IsJudged net found = IsReplayed net found.run.harms.items found.run.events.items (Some found.run.delay)

-- there were as many searches as were asked for; if they go on for minutes, there were at least 16
abbrev pub AreAsMany : Extent → ℕ → Type 0
AreAsMany (Searches asked) searches = searches ≡ asked
AreAsMany (Minutes minutes) searches = 16 ≤ searches
