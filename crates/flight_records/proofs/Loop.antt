-- Reading numbers one after the other, as a loop does.
use Rattle.std.proofs.Common.{◌≡◌, ℕ, suc, ◌-◌, ◌+◌, ◌≤◌, ◌<◌, List, [], ◌∷◌, ◌++◌, Result, Ok, Err, refl, sym, ap, ◌∙◌, append_assoc, arith}
use Rattle.std.proofs.lemmas.List.{append-nil}
use Rattle.leb128.specs.declared.unread.Unread.{Unread}
use Rattle.leb128.specs.Reading.{◌>>=◌, number_at, numbers_at}

-- what was read before, and what is still read
abbrev pub with_front : List ℕ → Result (List ℕ × List ℕ) Unread → Result (List ℕ × List ℕ) Unread
with_front front read = read >>= λ x. Ok (front ++ x.0, x.1)

regroup : (front : List ℕ) (n : ℕ) (read : Result (List ℕ × List ℕ) Unread) → with_front front (read >>= λ x. Ok (n ∷ x.0, x.1)) ≡ with_front (front ++ n ∷ []) read
regroup front n (Ok x) = ap (λ (ns : List ℕ). Ok (ns, x.1)) (simp append_assoc)
regroup front n (Err f) = refl

pub goes_on : (front : List ℕ) (count i : ℕ) (bytes : List ℕ) (n : ℕ) (after : List ℕ) (total : Result (List ℕ × List ℕ) Unread) → i < count → number_at bytes ≡ Ok (n, after)
    → with_front front (numbers_at (count - i) bytes) ≡ total → with_front (front ++ n ∷ []) (numbers_at (count - (i + 1)) after) ≡ total
goes_on front count i bytes n after total lt h so_far =
    let k : count - i ≡ suc (count - (i + 1)) = omega arith in
    let one : with_front front (numbers_at (count - i) bytes) ≡ with_front (front ++ n ∷ []) (numbers_at (count - (i + 1)) after) = rw (k, h) (regroup front n (numbers_at (count - (i + 1)) after)) in
    sym one ∙ so_far

pub ends : (e : Unread) (front : List ℕ) (count i : ℕ) (bytes : List ℕ) (total : Result (List ℕ × List ℕ) Unread) → i < count → number_at bytes ≡ Err e
    → with_front front (numbers_at (count - i) bytes) ≡ total → total ≡ Err e
ends e front count i bytes total lt h so_far =
    let k : count - i ≡ suc (count - (i + 1)) = omega arith in
    let one : with_front front (numbers_at (count - i) bytes) ≡ Err e = rw (k, h) refl in
    sym so_far ∙ one

pub is_done : (front : List ℕ) (count i : ℕ) (bytes : List ℕ) (total : Result (List ℕ × List ℕ) Unread) → count ≤ i → with_front front (numbers_at (count - i) bytes) ≡ total → total ≡ Ok (front, bytes)
is_done front count i bytes total le so_far =
    let k : count - i ≡ 0 = omega arith in
    let one : with_front front (numbers_at (count - i) bytes) ≡ Ok (front, bytes) = rw k (ap (λ (ns : List ℕ). Ok (ns, bytes)) (append-nil front)) in
    sym so_far ∙ one
