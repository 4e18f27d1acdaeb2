-- Whether two parents are the same.
use Rattle.std.proofs.Common.{◌≡◌, ℕ, Bool, true, false, Option, None, Some, ◌==◌, arith}
use Rattle.std.proofs.lemmas.Grind.{common_steps}

pub same_parent : Option ℕ → Option ℕ → Bool
same_parent None None = true
same_parent (Some p) (Some q) = p == q
same_parent None (Some q) = false
same_parent (Some p) None = false

pub same-is : (a b : Option ℕ) → same_parent a b ≡ true → a ≡ b
unfolding same_parent
same-is a b e = grind (arith, common_steps)

pub same-self : (a b : Option ℕ) → a ≡ b → same_parent a b ≡ true
unfolding same_parent
same-self a b e = grind (arith, common_steps)
