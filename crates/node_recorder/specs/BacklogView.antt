-- Deeds that are not noted yet, and the instant of each.
use Rattle.std.specs.Prelude.{ℕ, List}
use Rattle.flight_recorder.specs.flight_records.declared.entry.Deed.{Deed}

pub record BacklogView : Type 0 where
  pub deeds : List Deed
  pub instants : List ℕ
