-- A full tick with privilege, while somebody waits, is one of a desk that was marked as having
-- served, or one that ended a loan.
use Rattle.std.proofs.Common.{◌≡◌, ◌⊎◌, ℕ, ◌<◌, true, false, length, Option, Some, None, refl, inl, inr, arith}
use Rattle.std.proofs.lemmas.Grind.{common_steps}
use Rattle.std.proofs.lemmas.Bool.Decides.{nat_tests}
use Rattle.lock_desk.specs.Desk.{DeskState, lends, desk_ticked}
use Rattle.lock_desk.specs.Act.{desk_act}
use Rattle.lock_desk.specs.declared.act.DeskAct.TheVariants.{Lost}

-- nobody was lent to: then the desk was marked as having served, or the first who waits would borrow
had-served : (lease : ℕ) (d : DeskState) → d.lent ≡ None → 0 < length d.waiting → lends (desk_ticked lease true d) ≡ false → d.served ≡ true
had-served lease d none some full = grind (arith, common_steps, nat_tests)

-- the lock was lent: then that loan ended
lost : (lease t : ℕ) (d : DeskState) → d.lent ≡ Some t → lends (desk_ticked lease true d) ≡ false → desk_act d (desk_ticked lease true d) ≡ Lost t
lost lease t d lent full = grind (arith, common_steps, nat_tests)

pub passes : (lease : ℕ) (d : DeskState) → 0 < length d.waiting → lends (desk_ticked lease true d) ≡ false
    → (d.served ≡ true) ⊎ ((t : ℕ) × (desk_act d (desk_ticked lease true d) ≡ Lost t))
passes lease d some full =
    let by : (o : Option ℕ) → d.lent ≡ o → (d.served ≡ true) ⊎ ((t : ℕ) × (desk_act d (desk_ticked lease true d) ≡ Lost t)) =
    λ o. elim o as (λ o. d.lent ≡ o → (d.served ≡ true) ⊎ ((t : ℕ) × (desk_act d (desk_ticked lease true d) ≡ Lost t)))
    [ None ↦ λ none. inl (had-served lease d none some full) | Some t ↦ λ lent. inr (t, lost lease t d lent full) ] in
    by d.lent refl
