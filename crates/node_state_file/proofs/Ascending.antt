-- Whether ids ascend, said pair by pair.
use Rattle.std.proofs.Common.{◌≡◌, ◌<◌, ◌≤◌, refl, arith, Bool, true, ◌&&◌, nat_lt, ℕ, zero, suc, List, [], ◌∷◌, length, drop, slice_index_or}
use Rattle.node_state_file.specs.declared.saved.SavedPort.{SavedPort}
use Rattle.node_state_file.specs.Reading.{are_ascending, ids_of}

-- whether the ports from a place on ascend
abbrev pub ascends_from : List SavedPort → ℕ → Bool
ascends_from ports k = are_ascending (ids_of (drop k ports))

pub one_pair : (ports : List SavedPort) (k : ℕ) (d : SavedPort) → suc k < length ports
    → ascends_from ports k ≡ (nat_lt (slice_index_or ports k d).neighbour (slice_index_or ports (suc k) d).neighbour && ascends_from ports (suc k))
one_pair [] k d below = absurd (omega arith)
one_pair (p ∷ []) k d below = absurd (omega arith)
one_pair (p ∷ q ∷ ports) zero d below = refl
one_pair (p ∷ q ∷ ports) (suc k) d below = one_pair (q ∷ ports) k d (omega arith)

-- one port ascends, and so does none
pub few_ascend : (ports : List SavedPort) (k : ℕ) → length ports ≤ suc k → ascends_from ports k ≡ true
few_ascend [] zero below = refl
few_ascend [] (suc k) below = refl
few_ascend (p ∷ []) zero below = refl
few_ascend (p ∷ q ∷ ports) zero below = absurd (omega arith)
few_ascend (p ∷ ports) (suc k) below = few_ascend ports k (omega arith)
