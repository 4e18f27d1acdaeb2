-- Deeds of a kind that may be done so often more are done at most so often.
use Rattle.std.proofs.Common.{◌≤◌, ◌+◌, ℕ, Bool, if◌then◌else◌, List, [], ◌∷◌, length, filter, arith}
use Rattle.std.proofs.lemmas.Grind.{common_steps}
use Rattle.lock_client.specs.Courses.{deeds_of}

-- a machine; the kind of its deeds; and how often that may still be done at a stage, of which each deed takes one
module _ {S E D : Type 0} (after : E → S → S) (deed : E → S → S → D) (kind : D → Bool) (left : S → ℕ)
    (counted : (e : E) (stage : S) → (if kind (deed e stage (after e stage)) then 1 else 0) + left (after e stage) ≤ left stage) where
  pub at_most : (stage : S) (events : List E) → length (filter kind (deeds_of after deed stage events)) ≤ left stage
  at_most stage [] = omega arith
  at_most stage (e ∷ es) =
      let one : _ = counted e stage in
      let rest : _ = at_most (after e stage) es in
      grind (arith, common_steps)
