-- What `up` says to its nodes, whatever it sees.
use Rattle.std.proofs.Common.{◌≡◌, ◌≤◌, ◌+◌, ℕ, Bool, true, false, not, is_none, if◌then◌else◌, Option, Some, None, List, [], ◌∷◌, length, filter, arith, refl}
use Rattle.std.proofs.lemmas.Grind.{common_steps}
use Rattle.std.specs.List.{list_all}
use Rattle.held_signals.specs.declared.signals.Signals.{Signals}
use Rattle.node_keeping.specs.declared.keeper.Seen.{Seen}
use Rattle.node_keeping.specs.declared.keeper.Seen.TheVariants.{Asked, Urged}
use Rattle.node_keeping.specs.declared.course.UpStage.{UpStage}
use Rattle.node_keeping.specs.declared.course.UpStage.TheVariants.{Running, Ending, Killing}
use Rattle.node_keeping.specs.declared.course.UpSights.{UpSights}
use Rattle.node_keeping.specs.Course.{is_asked, is_ending, is_urged, stage_then, seen_then, word_then, words}
use Rattle.node_keeping.specs.CourseLaws.{asks, urges, IsSaidOnce}

-- one that is not asked runs on, and says nothing
runs-on : (seen : Signals) (sights : UpSights) → not (is_asked sights) ≡ true → stage_then sights seen Running ≡ Running
runs-on seen sights h = grind (arith, common_steps)

says-nothing : (seen : Signals) (sights : UpSights) → not (is_asked sights) ≡ true → is_none (word_then sights seen Running) ≡ true
says-nothing seen sights h = grind (arith, common_steps)

pub unasked : (seen : Signals) (sights : List UpSights) → list_all (λ one. not (is_asked one)) sights ≡ true
    → list_all is_none (words seen Running sights) ≡ true
unasked seen [] h = refl
unasked seen (s ∷ ss) h =
    let first : not (is_asked s) ≡ true = grind (arith, common_steps) in
    let others : list_all (λ one. not (is_asked one)) ss ≡ true = grind (arith, common_steps) in
    let on : _ = runs-on seen s first in
    let nothing : _ = says-nothing seen s first in
    let rest : _ = unasked (seen_then s seen Running) ss others in
    grind (arith, common_steps)

-- A kind of words, and how often one may still be said at a stage: nothing said is none of them, and each one of them that is said takes one.
module _ (kind : Option Seen → Bool) (left : UpStage → ℕ) (none : kind None ≡ false)
    (asked : (if kind (Some Asked) then 1 else 0) + left Ending ≤ left Running)
    (urged : (if kind (Some Urged) then 1 else 0) + left Killing ≤ left Ending) (one : (stage : UpStage) → left stage ≤ 1) where
  counted : (word : Option Seen) (after before : UpStage) (is : Bool) → (if kind word then 1 else 0) + left after ≤ left before
      → (if kind (if is then word else None) then 1 else 0) + left (if is then after else before) ≤ left before
  counted word after before true said = said
  counted word after before false said = rw none (omega arith)

  step : (seen : Signals) (stage : UpStage) (sights : UpSights)
      → (if kind (word_then sights seen stage) then 1 else 0) + left (stage_then sights seen stage) ≤ left stage
  step seen Running sights = counted (Some Asked) Ending Running (is_asked sights) asked
  step seen Ending sights = counted (Some Urged) Killing Ending (is_urged sights seen) urged
  step seen Killing sights = rw none (omega arith)

  few : (seen : Signals) (stage : UpStage) (sights : List UpSights) → length (filter kind (words seen stage sights)) ≤ left stage
  few seen stage [] = omega arith
  few seen stage (s ∷ ss) =
      let now : _ = step seen stage s in
      let rest : _ = few (seen_then s seen stage) (stage_then s seen stage) ss in
      grind (arith, common_steps)

  once : (seen : Signals) (stage : UpStage) (sights : List UpSights) → length (filter kind (words seen stage sights)) ≤ 1
  once seen stage sights =
      let most : _ = few seen stage sights in
      let at_most : _ = one stage in
      omega arith

-- how often the nodes may still be asked, and urged
abbrev asks_left : UpStage → ℕ
asks_left stage = if is_ending stage then 0 else 1

abbrev urges_left : UpStage → ℕ
urges_left Killing = 0
urges_left _ = 1

asks-left : (stage : UpStage) → asks_left stage ≤ 1
asks-left stage = grind (arith, common_steps)

urges-left : (stage : UpStage) → urges_left stage ≤ 1
urges-left stage = grind (arith, common_steps)

pub said_once : IsSaidOnce asks × IsSaidOnce urges
said_once = (once asks asks_left refl (omega arith) (omega arith) asks-left, once urges urges_left refl (omega arith) (omega arith) urges-left)
