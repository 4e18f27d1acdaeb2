-- Laws of when `up` ends its nodes.
use Rattle.std.specs.Prelude.{◌≡◌, ◌≤◌, Bool, true, false, not, Option, Some, is_none, List, filter, length}
use Rattle.std.specs.List.{list_all}
use Rattle.held_signals.specs.declared.signals.Signals.{Signals}
use Rattle.node_keeping.specs.declared.keeper.Seen.{Seen}
use Rattle.node_keeping.specs.declared.keeper.Seen.TheVariants.{Asked, Urged}
use Rattle.node_keeping.specs.declared.course.UpStage.{UpStage}
use Rattle.node_keeping.specs.declared.course.UpStage.TheVariants.{Running}
use Rattle.node_keeping.specs.declared.course.UpSights.{UpSights}
use Rattle.node_keeping.specs.Course.{is_asked, words}

abbrev pub asks : Option Seen → Bool
asks (Some Asked) = true
asks _ = false

abbrev pub urges : Option Seen → Bool
urges (Some Urged) = true
urges _ = false

-- as long as nothing asks `up` to end, no node is asked anything
abbrev pub RunsUnasked : Type 0
RunsUnasked =
    (seen : Signals) (sights : List UpSights) → list_all (λ one. not (is_asked one)) sights ≡ true
    → list_all is_none (words seen Running sights) ≡ true

-- whatever is seen, words of this kind are said to the nodes at most once
abbrev pub IsSaidOnce : (Option Seen → Bool) → Type 0
IsSaidOnce kind =
    (seen : Signals) (stage : UpStage) (sights : List UpSights)
    → length (filter kind (words seen stage sights)) ≤ 1

-- the nodes are asked to end at most once, and urged at most once
abbrev pub AsksOnce : Type 0
AsksOnce = IsSaidOnce asks

abbrev pub UrgesOnce : Type 0
UrgesOnce = IsSaidOnce urges
