-- What has settled of a world, as lines.
use Rattle.std.specs.Prelude.{◌≡◌, ℕ, Bool, if◌then◌else◌, List, ◌++◌, codes, decimal}
use Rattle.command_parts.specs.world.run_model.World.{World}
use Rattle.experiments.specs.layers.declared.whole.Layers.{Layers}
use Rattle.experiments.specs.layers.LayersOf.{AreLayersOf}

-- how a layer that stands or does not is written
abbrev pub yes_or_no : Bool → List ℕ
yes_or_no stands = if stands then codes "yes" else codes "no"

-- how many of the links are stable
abbrev pub links_line : ℕ → ℕ → List ℕ
links_line stable links = codes "links " ++ (decimal stable ++ (codes " of " ++ (decimal links ++ codes " stable\n")))

-- at which stage the distances are, and the last stage
abbrev pub stage_line : ℕ → ℕ → List ℕ
stage_line stage last = codes "distances right up to stage " ++ (decimal stage ++ (codes " of " ++ (decimal last ++ codes "\n")))

-- whether another layer stands
abbrev pub layer_line : List ℕ → Bool → List ℕ
layer_line name stands = name ++ (codes " " ++ (yes_or_no stands ++ codes "\n"))

-- a line for each layer, the lowest first, and whether the world is legitimate
abbrev pub layers_text : Layers → List ℕ
layers_text layers =
    links_line layers.stable layers.links ++ (stage_line layers.stage layers.last_stage ++ (layer_line (codes "tree") layers.tree
    ++ (layer_line (codes "ring") layers.ring ++ (layer_line (codes "loans") layers.loans ++ layer_line (codes "legitimate") layers.legitimate))))

-- the text shows the layers of the world
abbrev pub ShowsLayers : World → List ℕ → Type 0
ShowsLayers w text = (layers : Layers) × AreLayersOf w layers × (text ≡ layers_text layers)
