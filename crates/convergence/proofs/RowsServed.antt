-- Rows: places in a list of tickets, and who leaves.
use Rattle.std.proofs.Common.{◌≡◌, true, false, [], ◌∷◌, refl, arith}
use Rattle.run_model.specs.declared.event.Event.TheVariants.{Ask, Leave}
use Rattle.convergence.specs.Service.{IsAtPlace, is_leave}

second : IsAtPlace 7 1 (3 ∷ 7 ∷ [])
second = refl

not-first : IsAtPlace 7 0 (3 ∷ 7 ∷ []) → ⊥
not-first h = grind arith

not-after : IsAtPlace 7 2 (3 ∷ 7 ∷ []) → ⊥
not-after h = h

leaves : is_leave (Leave 1 7) 1 7 ≡ true
leaves = refl

another-leaves : is_leave (Leave 1 3) 1 7 ≡ false
another-leaves = refl

leaves-elsewhere : is_leave (Leave 0 7) 1 7 ≡ false
leaves-elsewhere = refl

asks : is_leave (Ask 1 7) 1 7 ≡ false
asks = refl
