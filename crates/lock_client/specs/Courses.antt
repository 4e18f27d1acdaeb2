-- What a machine comes to, and what it does, over a list of events.
use Rattle.std.specs.Prelude.{List, [], ◌∷◌}

module _ {E S : Type 0} (after : E → S → S) where
  -- the stage after a list of events
  abbrev pub after_all : S → List E → S
  after_all stage [] = stage
  after_all stage (e ∷ es) = after_all (after e stage) es

  -- the deeds of these events, one after the other, by the stages before and after each
  abbrev pub deeds_of : {D : Type 0} → (E → S → S → D) → S → List E → List D
  deeds_of deed stage [] = []
  deeds_of deed stage (e ∷ es) = deed e stage (after e stage) ∷ deeds_of deed (after e stage) es
