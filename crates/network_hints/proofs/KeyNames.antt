-- One of the names of the keys.
use Rattle.std.proofs.Common.{◌≡◌, ℕ, List, [], ◌∷◌, Bool, true, false, codes, refl, arith}
use Rattle.std.specs.Prelude.{◌||◌}
use Rattle.std.specs.Str.{bytes_eq}
use Rattle.std.specs.List.{list_any}
use Rattle.std.proofs.lemmas.Bool.Decides.{nat_tests}
use Rattle.network_hints.specs.Keys.{is_key_name}

swapped : (xs ys : List ℕ) → bytes_eq xs ys ≡ bytes_eq ys xs
swapped [] [] = refl
swapped [] (y ∷ ys) = refl
swapped (x ∷ xs) [] = refl
swapped (x ∷ xs) (y ∷ ys) = let rest : bytes_eq xs ys ≡ bytes_eq ys xs = swapped xs ys in grind (arith, nat_tests)

or-false : (b : Bool) → (b || false) ≡ b
or-false true = refl
or-false false = refl

pub one_of_names : (name : List ℕ) → list_any (λ known. bytes_eq known name)
    (codes "nodes" ∷ codes "root" ∷ codes "capacity" ∷ codes "lease" ∷ codes "edges" ∷ []) ≡ is_key_name name
one_of_names name = rw (
  swapped (codes "nodes") name,
  swapped (codes "root") name,
  swapped (codes "capacity") name,
  swapped (codes "lease") name,
  swapped (codes "edges") name,
  or-false (bytes_eq name (codes "edges")),
)
