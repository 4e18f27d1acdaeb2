-- The parts of a picture, one over the other.
use Rattle.std.proofs.Common.{◌≡◌, ◌∙◌, ap, subst, ℕ, List, [], ◌++◌, length, append_assoc}
use Rattle.topology.specs.Network.{Network}
use Rattle.run_recording.specs.declared.column.Column.{Column}
use Rattle.run_picture.specs.declared.layout.page.Page.{Page}
use Rattle.run_recording.specs.declared.recording.Before.{Before}
use Rattle.run_picture.specs.Added.{Adds}
use Rattle.run_picture.specs.Axis.{IsAxis}
use Rattle.run_picture.specs.Curves.{curves_shown, levels_shown}
use Rattle.svg_drawing.specs.Drawn.{Shown}
use Rattle.run_picture.specs.Head.{head_shown, said_words}
use Rattle.run_picture.specs.Lanes.{AreLanes}
use Rattle.run_picture.specs.Legend.{legend_shown}
use Rattle.run_picture.specs.Page.{page_of}
use Rattle.run_picture.specs.Picture.{ShowsRun}
use Rattle.run_recording.specs.Recordings.{RecordingView}
use Rattle.run_picture.specs.Ruler.{IsRuler}
use Rattle.run_picture.specs.Tree.{tree_shown}
use Rattle.run_recording.specs.Visits.{first_visits}

-- what the parts show, by what they are given
abbrev Parts : Page → Network → List ℕ → List Column → ℕ → Before → List ℕ → List Shown → Type 0
Parts page net order columns width before said shown =
    (lanes : List Shown) × AreLanes page columns 0 order lanes × ((axis : List Shown) × IsAxis page before.events width axis
    × ((ruler : List Shown) × IsRuler page before.sweeps columns ruler
    × (shown
    ≡ head_shown page net said
    ++ (legend_shown width
    ++ (tree_shown page net order ++ (lanes ++ (levels_shown page columns ++ (curves_shown page columns ++ (axis ++ ruler)))))))))

-- eight lists, one after the other
eight : {X : Type 0} (a b c d e f g h x₁ x₂ x₃ x₄ x₅ x₆ x₇ x₈ : List X) → x₁ ≡ a → x₂ ≡ x₁ ++ b → x₃ ≡ x₂ ++ c → x₄ ≡ x₃ ++ d → x₅ ≡ x₄ ++ e
    → x₆ ≡ x₅ ++ f → x₇ ≡ x₆ ++ g → x₈ ≡ x₇ ++ h → x₈ ≡ a ++ (b ++ (c ++ (d ++ (e ++ (f ++ (g ++ h))))))
eight a b c d e f g h x₁ x₂ x₃ x₄ x₅ x₆ x₇ x₈ i₁ i₂ i₃ i₄ i₅ i₆ i₇ i₈ =
    i₈ ∙ ap (λ x. x ++ h) i₇ ∙ append_assoc x₆ g h ∙ ap (λ x. x ++ (g ++ h)) i₆ ∙ append_assoc x₅ f (g ++ h)
    ∙ ap (λ x. x ++ (f ++ (g ++ h))) i₅ ∙ append_assoc x₄ e (f ++ (g ++ h))
    ∙ ap (λ x. x ++ (e ++ (f ++ (g ++ h)))) i₄ ∙ append_assoc x₃ d (e ++ (f ++ (g ++ h)))
    ∙ ap (λ x. x ++ (d ++ (e ++ (f ++ (g ++ h))))) i₃ ∙ append_assoc x₂ c (d ++ (e ++ (f ++ (g ++ h))))
    ∙ ap (λ x. x ++ (c ++ (d ++ (e ++ (f ++ (g ++ h)))))) i₂ ∙ append_assoc x₁ b (c ++ (d ++ (e ++ (f ++ (g ++ h)))))
    ∙ ap (λ x. x ++ (b ++ (c ++ (d ++ (e ++ (f ++ (g ++ h))))))) i₁

-- what is added, one part over the other
added_parts : (page : Page) (net : Network) (order : List ℕ) (columns : List Column) (width : ℕ) (before : Before) (said : List ℕ)
    (x₀ x₁ x₂ x₃ x₄ x₅ x₆ x₇ x₈ : List Shown) → x₀ ≡ [] → x₁ ≡ x₀ ++ head_shown page net said → x₂ ≡ x₁ ++ legend_shown width
    → x₃ ≡ x₂ ++ tree_shown page net order → Adds (AreLanes page columns 0 order) x₃ x₄ → x₅ ≡ x₄ ++ levels_shown page columns
    → x₆ ≡ x₅ ++ curves_shown page columns → Adds (IsAxis page before.events width) x₆ x₇ → Adds (IsRuler page before.sweeps columns) x₇ x₈
    → Parts page net order columns width before said x₈
added_parts page net order columns width before said x₀ x₁ x₂ x₃ x₄ x₅ x₆ x₇ x₈ nothing head legend tree (lanes, are_lanes, i₄) levels curves (axis, is_axis, i₇) (ruler, is_ruler, i₈) = (
  lanes,
  are_lanes,
  (
    axis,
    is_axis,
    (
      ruler,
      is_ruler,
      eight (head_shown page net said) (legend_shown width) (tree_shown page net order) lanes
          (levels_shown page columns) (curves_shown page columns) axis ruler x₁ x₂ x₃ x₄ x₅ x₆ x₇ x₈ (head ∙ ap (λ x. x ++ head_shown page net said) nothing)
          legend tree i₄ levels curves i₇ i₈,
    ),
  ),
)

-- what is given is what was recorded
shows_run : (net : Network) (r : RecordingView) (shown : List Shown)
    → Parts (page_of net (length r.strip.columns)) net (first_visits net) r.strip.columns r.strip.width r.before (said_words r) shown
    → ShowsRun (page_of net (length r.strip.columns)) net r shown
shows_run net r shown (lanes, are_lanes, (axis, is_axis, (ruler, is_ruler, are))) =
    record { lanes = lanes; are_lanes = are_lanes; axis = axis; is_axis = is_axis; ruler = ruler; is_ruler = is_ruler; are = are }

-- the parts, drawn one over the other with what was recorded, show the run
pub drawn_run : (net : Network) (r : RecordingView) (page : Page) (order : List ℕ) (columns : List Column) (width : ℕ) (before : Before)
    (x₀ x₁ x₂ x₃ x₄ x₅ x₆ x₇ x₈ : List Shown) → page ≡ page_of net (length columns) → order ≡ first_visits net → columns ≡ r.strip.columns
    → width ≡ r.strip.width → before ≡ r.before → x₀ ≡ [] → x₁ ≡ x₀ ++ head_shown page net (said_words r) → x₂ ≡ x₁ ++ legend_shown width
    → x₃ ≡ x₂ ++ tree_shown page net order → Adds (AreLanes page columns 0 order) x₃ x₄ → x₅ ≡ x₄ ++ levels_shown page columns
    → x₆ ≡ x₅ ++ curves_shown page columns → Adds (IsAxis page before.events width) x₆ x₇ → Adds (IsRuler page before.sweeps columns) x₇ x₈
    → ShowsRun (page_of net (length r.strip.columns)) net r x₈
drawn_run net r page order columns width before x₀ x₁ x₂ x₃ x₄ x₅ x₆ x₇ x₈ is_page is_order is_columns is_width is_before nothing head legend tree lanes levels curves axis ruler =
    let parts = added_parts page net order columns width before (said_words r) x₀ x₁ x₂ x₃ x₄ x₅ x₆ x₇ x₈ nothing head legend tree lanes levels curves
    axis ruler in
    shows_run net r x₈
    (subst (λ b. Parts (page_of net (length r.strip.columns)) net (first_visits net) r.strip.columns r.strip.width b (said_words r) x₈) is_before
    (subst (λ w. Parts (page_of net (length r.strip.columns)) net (first_visits net) r.strip.columns w before (said_words r) x₈) is_width
    (subst (λ cs. Parts (page_of net (length cs)) net (first_visits net) cs width before (said_words r) x₈) is_columns
    (subst (λ o. Parts (page_of net (length columns)) net o columns width before (said_words r) x₈) is_order
    (subst (λ p. Parts p net order columns width before (said_words r) x₈) is_page parts)))))
