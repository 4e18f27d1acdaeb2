-- The deeds that were noted, how many there is room for, and whether there was none for some deed.
use Rattle.std.specs.Prelude.{ℕ, Bool, List, Option, None, Some}
use Rattle.flight_records.specs.declared.entry.Deed.{Deed}

pub record NotesView : Type 0 where
  pub deeds : List Deed
  pub room : ℕ
  pub is_torn : Bool

-- what a function makes of what is there, or this if nothing is
abbrev pub or_else : {X Y : Type 0} → Y → (X → Y) → Option X → Y
or_else y f None = y
or_else y f (Some x) = f x
