-- What the commands that damage files write, drawn from a generator with a seed.
use Rattle.std.specs.Prelude.{ℕ, zero, suc, List, [], ◌++◌, codes}
use Rattle.rand_core.specs.Pcg32Seed.{pcg32_seed}
use Rattle.rand_pcg.specs.Lcg.{Lcg}
use Rattle.rand_pcg.specs.Pcg.{pcg32_of_seed}
use Rattle.topology.specs.Network.{Network, neighbours_of}
use Rattle.topology.specs.Ranges.{ranges_of}
use Rattle.node_state_file.specs.node_core.State.{default_node}
use Rattle.node_state_file.specs.Spelling.{written}
use Rattle.command_parts.specs.schedules.damage_tool.Draws.{draw_junk}
use Rattle.command_parts.specs.schedules.damage_tool.Scrambled.{node_scrambled}

-- the generator of a seed
abbrev pub seeded : ℕ → Lcg
seeded seed = pcg32_of_seed (pcg32_seed 16 seed)

-- the state file of a node's default state, scrambled
abbrev pub scrambled_file : Network → ℕ → ℕ → List ℕ
scrambled_file net id seed =
    let neighbours = neighbours_of net id in
    let r = ranges_of net in
    written net id neighbours (node_scrambled r neighbours (default_node r) (seeded seed)).0

-- lines of junk, each with its newline
abbrev pub junk_text : ℕ → Lcg → List ℕ
junk_text zero g = []
junk_text (suc lines) g = let line = draw_junk g in line.0 ++ (codes "\n" ++ junk_text lines line.1)
