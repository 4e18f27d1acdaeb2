-- A parallel step is a run of changes, from the right to the left; runs join
use Rattle.std.proofs.Common.{◌≡◌, ℕ, ◌+◌, inl, inr, suc, List, [], ◌∷◌, refl, subst, arith}
use Rattle.k_state.specs.Ring.{Change, Written, Further, Step, Stays, Moves, Changes, Run, Done, Move_first, Change_first, IsParallel}

pub joined : (q : ℕ) {m n : ℕ} {xs ys zs : List ℕ} → Run q m xs ys → Run q n ys zs → Run q (m + n) xs zs
joined q {n = n} {zs = zs} (Done {xs = xs}) s = let e : n ≡ 0 + n = omega arith in subst (λ k. Run q k xs zs) e s
joined q {n = n} {zs = zs} (Move_first {n = m} {xs = xs} v r) s = let e : suc (m + n) ≡ suc m + n = omega arith in subst (λ k. Run q k xs zs) e (Move_first v (joined q r s))
joined q (Change_first c r) s = Change_first c (joined q r s)

further_run : (q x : ℕ) {n : ℕ} {xs ys : List ℕ} → Run q n xs ys → n ≡ 0 → Run q 0 (x ∷ xs) (x ∷ ys)
further_run q x Done e = Done
further_run q x (Move_first m r) e = absurd cc
further_run q x (Change_first c r) e = Change_first (Further c) (further_run q x r e)

last_change : (q : ℕ) {n : ℕ} {xs ys zs : List ℕ} → Run q n xs ys → Change ys zs → Run q n xs zs
last_change q Done c = Change_first c Done
last_change q (Move_first m r) c = Move_first m (last_change q r c)
last_change q (Change_first d r) c = Change_first d (last_change q r c)

pub parallel-run : (q left : ℕ) (xs ys : List ℕ) → IsParallel left xs ys → Run q 0 (left ∷ xs) (left ∷ ys)
parallel-run q left [] [] h = Done
parallel-run q left [] (y ∷ ys) h = absurd h
parallel-run q left (x ∷ xs) [] h = absurd h
parallel-run q left (x ∷ xs) (y ∷ ys) (inl e, h) = rw e (further_run q left (parallel-run q x xs ys h) refl)
parallel-run q left (x ∷ xs) (y ∷ ys) (inr e, h) = rw e (last_change q (further_run q left (parallel-run q x xs ys h) refl) Written)

pub step-run : (q : ℕ) {n : ℕ} {xs ys : List ℕ} → Step q n xs ys → Run q n xs ys
step-run q Stays = Done
step-run q (Moves m) = Move_first m Done
step-run q (Changes c s) = Change_first c (step-run q s)
