use Rattle.std.proofs.Common.{[], ◌∷◌, refl, arith, add-one, ◌≡◌, ◌<◌, List, ℕ, length}
use Rattle.k_state.proofs.Boundary.{some-privileged, one-privileged, privilege-passes}
use Rattle.k_state.proofs.laws.privilege.Goals as goal

pub returns-clause-some : goal.returns-clause-some
returns-clause-some c = some-privileged

pub returns-clause-one : goal.returns-clause-one
returns-clause-one c = λ q i j ring l r g t u. one-privileged q l i j ring r g t u

first-item : (xs : List ℕ) → 0 < length xs → (y : ℕ) × (ys : List ℕ) × (xs ≡ y ∷ ys)
first-item [] l = absurd (omega arith)
first-item (x ∷ xs) l = (x, xs, refl)

pub returns-clause-passes : goal.returns-clause-passes
returns-clause-passes c = λ q n i ring moves l steps r g many within.
    let w = first-item (ring 0) r.0 in
    privilege-passes q l n i ring moves (λ k h. rw add-one at (steps k h)) w.0 w.1 w.2 r g many within
