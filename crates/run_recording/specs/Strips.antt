-- The columns of a picture, and which moments they show.
use Rattle.std.specs.Prelude.{◌≡◌, ℕ, suc, ◌+◌, ◌<◌, ◌*◌, ◌≤◌, List, [], ◌∷◌, ◌++◌, length}
use Rattle.run_recording.specs.declared.column.Column.{Column}
use Rattle.run_recording.specs.Columns.{worst}

-- the columns; how many moments each shows; how many the last one shows; how many columns there may
-- be; and how many moments there were
pub record StripView : Type 0 where
  pub columns : List Column
  pub width : ℕ
  pub last : ℕ
  pub limit : ℕ
  pub moments : ℕ

-- These columns show these moments, in order: each column except the last is the worst of `width`
-- of them, the last is the worst of `last`. Without moments there are no columns.
pub data AreShown (width : ℕ) : ℕ → List Column → List Column → Type 0 where
  None : AreShown width width [] []
  Last : {last : ℕ} (first : Column) (later : List Column)
      → suc (length later) ≡ last → last ≤ width → AreShown width last (first ∷ later) (worst first later ∷ [])
  Further : {last : ℕ} (first : Column) (later : List Column) {moments columns : List Column}
      → suc (length later) ≡ width → AreShown width last moments columns
      → AreShown width last (first ∷ (later ++ moments)) (worst first later ∷ columns)

-- the strip shows these moments
abbrev pub Shows : StripView → List Column → Type 0
Shows s moments = AreShown s.width s.last moments s.columns × (length moments ≡ s.moments)

-- it shows all moments that there were, and the width is at most one more than twice their number
abbrev pub IsStrip : StripView → Type 0
IsStrip s = ((moments : List Column) × Shows s moments) × (0 < s.width) × (s.width ≤ 2 * s.moments + 1)
