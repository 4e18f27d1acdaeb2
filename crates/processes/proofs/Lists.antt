-- Lists all of whose items have a property, what is in a list, and tests of which one holds.
use Rattle.std.proofs.Common.{◌≡◌, ◌⊎◌, List, [], ◌∷◌, ◌++◌, Bool, true, false, ◌||◌, IsTrue, refl, arith}
use Rattle.std.proofs.lemmas.Grind.{common_steps}
use Rattle.std.specs.List.{AllByRecursion, Contains}

pub all-first : {X : Type 0} (P : X → Type 0) (xs ys : List X) → AllByRecursion P (xs ++ ys) → AllByRecursion P xs
all-first P [] ys a = tt
all-first P (x ∷ xs) ys a = (a.0, all-first P xs ys a.1)

pub all-rest : {X : Type 0} (P : X → Type 0) (xs ys : List X) → AllByRecursion P (xs ++ ys) → AllByRecursion P ys
all-rest P [] ys a = a
all-rest P (x ∷ xs) ys a = all-rest P xs ys a.1

pub all-both : {X : Type 0} (P : X → Type 0) (xs ys : List X) → AllByRecursion P xs → AllByRecursion P ys → AllByRecursion P (xs ++ ys)
all-both P [] ys a b = b
all-both P (x ∷ xs) ys a b = (a.0, all-both P xs ys a.1 b)

pub all-more : {X : Type 0} (P Q : X → Type 0) (xs : List X) → ((x : X) → P x → Q x) → AllByRecursion P xs → AllByRecursion Q xs
all-more P Q [] f a = tt
all-more P Q (x ∷ xs) f a = (f x a.0, all-more P Q xs f a.1)

pub in-none : {X : Type 0} (x : X) → Contains [] x → ⊥
in-none x h = grind (arith, common_steps)

pub first-or : {X : Type 0} (x y : X) (ys : List X) → Contains (y ∷ ys) x → (y ≡ x) ⊎ Contains ys x
first-or x y ys h = grind (arith, common_steps)

pub in-one : {X : Type 0} (x : X) → Contains (x ∷ []) x
in-one x = grind (arith, common_steps)

pub of-one : {X : Type 0} (x y : X) → Contains (x ∷ []) y → y ≡ x
of-one x y h = grind (arith, common_steps)

pub left-or : (a b : Bool) → IsTrue a → IsTrue (a || b)
left-or true b h = refl
left-or false b h = absurd cc

pub right-or : (a b : Bool) → IsTrue b → IsTrue (a || b)
right-or true b h = refl
right-or false b h = h
