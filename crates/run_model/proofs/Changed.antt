-- Functions of ids that are changed at one place.
use Rattle.std.proofs.Common.{◌≡◌, ◌≢◌, ℕ, refl, inl, inr, sym, subst, arith}
use Rattle.std.proofs.Math.Path.{fun_ext}
use Rattle.std.proofs.lemmas.Bool.{cases_eq}
use Rattle.std.proofs.lemmas.Grind.{common_steps}
use Rattle.link_model.specs.topology.At.{at}
use Rattle.run_model.specs.World.{at_pair}

pub at-here : {X : Type 0} (f : ℕ → X) (k : ℕ) (x : X) → at f k x k ≡ x
at-here f k x = grind (arith, common_steps)

pub at-other : {X : Type 0} (f : ℕ → X) (k : ℕ) (x : X) (i : ℕ) → i ≢ k → at f k x i ≡ f i
at-other f k x i apart = grind (arith, common_steps)

-- what holds at the place and elsewhere holds everywhere
pub at-each : {X : Type 0} (P : ℕ → X → Type 0) (f : ℕ → X) (k : ℕ) (x : X) → P k x → ((i : ℕ) → i ≢ k → P i (f i)) → (i : ℕ) → P i (at f k x i)
at-each P f k x here there i = elim (cases_eq i k) [
  | inl same ↦ subst (λ j. P j (at f k x j)) (sym same) (subst (λ y. P k y) (sym (at-here f k x)) here)
  | inr apart ↦ subst (λ y. P i y) (sym (at-other f k x i apart)) (there i apart)
]

-- the same for two functions that are changed at one place
pub at-two : {X Y : Type 0} (P : ℕ → X → Y → Type 0) (f : ℕ → X) (g : ℕ → Y) (k : ℕ) (x : X) (y : Y) → P k x y → ((i : ℕ) → i ≢ k → P i (f i) (g i))
    → (i : ℕ) → P i (at f k x i) (at g k y i)
at-two P f g k x y here there i =
    at-each (λ j z. P j (at f k x j) z) g k y (subst (λ z. P k z y) (sym (at-here f k x)) here)
    (λ j apart. subst (λ z. P j z (g j)) (sym (at-other f k x j apart)) (there j apart)) i

-- writing what is already there changes nothing
pub at-same : {X : Type 0} (f : ℕ → X) (k : ℕ) → at f k (f k) ≡ f
at-same f k = fun_ext (at-each (λ i x. x ≡ f i) f k (f k) refl (λ i _. refl))

pub at_pair-here : {X : Type 0} (f : ℕ → ℕ → X) (u v : ℕ) (x : X) → at_pair f u v x u v ≡ x
at_pair-here f u v x = grind (arith, common_steps)

at_pair-other : {X : Type 0} (f : ℕ → ℕ → X) (u v : ℕ) (x : X) (i j : ℕ) → ((i ≡ u) × (j ≡ v) → ⊥) → at_pair f u v x i j ≡ f i j
at_pair-other f u v x i j apart = elim (cases_eq i u) [
  | inl e ↦ elim (cases_eq j v) [
    | inl g ↦ absurd (apart (e, g))
    | inr other ↦ grind (arith, common_steps)
  ]
  | inr other ↦ grind (arith, common_steps)
]

-- the same of a function of two ids
pub at_pair-each : {X : Type 0} (P : ℕ → ℕ → X → Type 0) (f : ℕ → ℕ → X) (u v : ℕ) (x : X) → P u v x → ((i j : ℕ) → ((i ≡ u) × (j ≡ v) → ⊥) → P i j (f i j))
    → (i j : ℕ) → P i j (at_pair f u v x i j)
at_pair-each P f u v x here there i j = elim (cases_eq i u) [
  | inl e ↦ elim (cases_eq j v) [
    | inl g ↦
        let at-both : P u v (at_pair f u v x u v) = subst (λ y. P u v y) (sym (at_pair-here f u v x)) here in
        let at-first : P u j (at_pair f u v x u j) = subst (λ k. P u k (at_pair f u v x u k)) (sym g) at-both in
        subst (λ k. P k j (at_pair f u v x k j)) (sym e) at-first
    | inr other ↦ subst (λ y. P i j y) (sym (at_pair-other f u v x i j (λ both. other both.1))) (there i j (λ both. other both.1))
  ]
  | inr other ↦ subst (λ y. P i j y) (sym (at_pair-other f u v x i j (λ both. other both.0))) (there i j (λ both. other both.0))
]
