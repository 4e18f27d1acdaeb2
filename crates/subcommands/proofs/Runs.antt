-- The runs of a plan, gathered from threads.
use Rattle.std.proofs.Common.{◌≡◌, ◌∙◌, ap, subst, ℕ, ◌+◌, ◌-◌, zero, suc, List, [], ◌∷◌, map, length, Result, Ok, Err, refl, arith}
use Rattle.std.specs.Prelude.{IfOk, MatchResult}
use Rattle.std.specs.List.{AllZip, Contains, range_with_len}
use Rattle.std.specs.declared.alloc.Global.{Global}
use Rattle.std.specs.declared.vec.Vec.{Vec}
use Rattle.subcommands.specs.Measured.{AreOfSeeds, AreRunsOf}
use Rattle.subcommands.specs.declared.measure.MeasurePlan.{MeasurePlan}

module _ {R E : Type 0} (IsRun : ℕ → R → Type 0) (seed : ℕ) (answers : ℕ → Result R E → Type 0)
    (each : (i : ℕ) (r : R) → answers i (Ok r) → IsRun (seed + i) r) where
  -- n runs, from number a on
  pub runs-from : (a n : ℕ) (runs : List R) → AllZip answers (range_with_len a n) (map Ok runs)
      → AreOfSeeds IsRun (seed + a) runs × (length runs ≡ n)
  runs-from a zero [] all = (tt, refl)
  runs-from a zero (r ∷ rs) all = absurd all
  runs-from a (suc n) [] all = absurd all
  runs-from a (suc n) (r ∷ rs) all =
      let rest = runs-from (a + 1) n rs all.1 in
      let next : seed + (a + 1) ≡ seed + a + 1 = omega arith in
      ((each a r all.0, subst (λ k. AreOfSeeds IsRun k rs) next rest.0), ap suc rest.1)

-- the gathered runs are those of the plan, or one of them was refused
pub runs-of : {R E : Type 0} (IsRun : ℕ → R → Type 0) (plan : MeasurePlan) (answers : ℕ → Result R E → Type 0)
    → ((i : ℕ) (r : R) → answers i (Ok r) → IsRun (plan.seed + i) r)
    → (numbers : List ℕ) (gathered : List (Result R E)) (v : Result (Vec R Global) E)
    → numbers ≡ range_with_len 0 (plan.runs - 0) → AllZip answers numbers gathered
    → MatchResult v (λ c. (ys : List R) × (gathered ≡ map Ok ys) × (c.items ≡ ys)) (λ e. Contains gathered (Err e))
    → IfOk v (λ c. AreRunsOf IsRun plan c.items)
runs-of IsRun plan answers each numbers gathered (Err e) are all found = tt
runs-of IsRun plan answers each numbers gathered (Ok c) are all (ys, in_order, items) =
    let whole : plan.runs - 0 ≡ plan.runs = omega arith in
    let both = runs-from IsRun plan.seed answers each 0 plan.runs ys
    (subst (λ xs. AllZip answers xs (map Ok ys)) (are ∙ ap (range_with_len 0) whole) (subst (λ g. AllZip answers numbers g) in_order all)) in
    let first : plan.seed + 0 ≡ plan.seed = omega arith in
    rw items (record { all = both.1; each = subst (λ k. AreOfSeeds IsRun k ys) first both.0 })
