-- Lanes are drawn one below the other.
use Rattle.std.proofs.Common.{◌≡◌, ◌∙◌, ap, sym, subst, ℕ, suc, ◌+◌, ◌<◌, List, [], ◌∷◌, ◌++◌, length, take, map, slice_index_or, append_assoc, arith}
use Rattle.std.proofs.lemmas.List.{append-nil, length-take-le}
use Rattle.std.proofs.Math.Seq.{take-suc, take-length}
use Rattle.run_recording.specs.declared.column.Column.{Column}
use Rattle.run_picture.specs.declared.layout.page.Page.{Page}
use Rattle.run_recording.specs.declared.runs.Run.{Run}
use Rattle.run_picture.specs.Added.{Adds}
use Rattle.svg_drawing.specs.Drawn.{Shown}
use Rattle.run_picture.specs.Lanes.{lane_shown, AreLanes}
use Rattle.run_picture.specs.Lanes.AreLanes.{NoLane, Lane}
use Rattle.run_recording.specs.Runs.{mark_in, AreRuns}

-- nothing is drawn yet
pub no_lanes : (page : Page) (columns : List Column) (old : List Shown) → Adds (AreLanes page columns 0 []) old old
no_lanes page columns old = ([], NoLane, sym (append-nil old))

-- one lane more, below the others
lanes_below : (page : Page) (columns : List Column) (lane : ℕ) (nodes : List ℕ) (shown : List Shown) (v : ℕ) (runs : List Run)
    → AreLanes page columns lane nodes shown → AreRuns (map (mark_in v) columns) runs
    → AreLanes page columns lane (nodes ++ v ∷ []) (shown ++ lane_shown page (lane + length nodes) runs)
lanes_below page columns lane nodes shown v runs NoLane are =
    let here : lane ≡ lane + length {A = ℕ} [] = omega arith in
    subst (AreLanes page columns lane (v ∷ [])) (append-nil (lane_shown page lane runs) ∙ ap (λ k. lane_shown page k runs) here)
    (Lane runs are NoLane)
lanes_below page columns lane nodes shown v runs (Lane {v = first} {nodes = later} {others = others} marks first_are rest) are =
    let there : suc lane + length later ≡ lane + length (first ∷ later) = omega arith in
    subst (AreLanes page columns lane (first ∷ (later ++ v ∷ [])))
    (ap (λ k. lane_shown page lane marks ++ (others ++ lane_shown page k runs)) there
    ∙ sym (append_assoc (lane_shown page lane marks) others (lane_shown page (lane + length (first ∷ later)) runs)))
    (Lane marks first_are (lanes_below page columns (suc lane) later others v runs rest are))

-- the lane of the node at a place is drawn below those of the nodes before it
pub lanes_next : (page : Page) (columns : List Column) (order : List ℕ) (lane d : ℕ) (old before after : List Shown) (runs : List Run) → lane < length order
    → Adds (AreLanes page columns 0 (take lane order)) old before → AreRuns (map (mark_in (slice_index_or order lane d)) columns) runs
    → after ≡ before ++ lane_shown page lane runs → Adds (AreLanes page columns 0 (take (lane + 1) order)) old after
lanes_next page columns order lane d old before after runs within (more, are, is) runs_are added =
    let v = slice_index_or order lane d in
    let next : suc lane ≡ lane + 1 = omega arith in
    let here : 0 + length (take lane order) ≡ lane = omega (arith, length-take-le lane order (omega (arith, within))) in
    let shown = more ++ lane_shown page lane runs in
    let lanes_are : AreLanes page columns 0 (take lane order ++ v ∷ []) shown =
    subst (λ k. AreLanes page columns 0 (take lane order ++ v ∷ []) (more ++ lane_shown page k runs)) here
    (lanes_below page columns 0 (take lane order) more v runs are runs_are) in (
      shown,
      subst (λ xs. AreLanes page columns 0 xs shown) (sym (take-suc order lane d within) ∙ ap (λ k. take k order) next) lanes_are,
      added ∙ ap (λ xs. xs ++ lane_shown page lane runs) is ∙ append_assoc old more (lane_shown page lane runs),
    )

-- below the last node's lane all are drawn
pub lanes_all : (page : Page) (columns : List Column) (order : List ℕ) (lane : ℕ) (old new : List Shown) → length order ≡ lane
    → Adds (AreLanes page columns 0 (take lane order)) old new → Adds (AreLanes page columns 0 order) old new
lanes_all page columns order lane old new all lanes =
    subst (λ xs. Adds (AreLanes page columns 0 xs) old new) (ap (λ k. take k order) (sym all) ∙ take-length order) lanes
