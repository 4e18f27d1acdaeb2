-- A list whose items have their origins beside them: what is sent inside the stretch has P, and so
-- has all after it
use Rattle.std.proofs.Common.{◌≡◌, ℕ, ◌||◌, nat_lt, zero, suc, List, [], ◌∷◌, ◌++◌, length, drop, remove, map, Bool, true, false, cond, refl, ap, arith, length-append}
use Rattle.std.specs.List.{AllByRecursion}
use Rattle.link_model.specs.Acts.{put_last, LinkAct, Puts, Takes, Loses, Rests, list_after, Origin, Before, Sent, takes_sent}
use Rattle.link_model.proofs.Lists.{All-push, All-remove}

-- the first item that was sent inside the stretch has P, and so has each after it
abbrev pub IsMarked : {X : Type 0} → (X → Type 0) → List Origin → List X → Type 0
IsMarked P [] [] = Unit {0}
IsMarked P [] (x ∷ xs) = ⊥
IsMarked P (o ∷ os) [] = ⊥
IsMarked P (Before ∷ os) (x ∷ xs) = IsMarked P os xs
IsMarked P (Sent i ∷ os) (x ∷ xs) = P x × AllByRecursion P xs × (length os ≡ length xs)

pub marked-start : {X : Type 0} (P : X → Type 0) (xs : List X) → IsMarked P (map (λ x. Before) xs) xs
marked-start P [] = tt
marked-start P (x ∷ xs) = marked-start P xs

pub marked-length : {X : Type 0} (P : X → Type 0) (os : List Origin) (xs : List X) → IsMarked P os xs → length os ≡ length xs
marked-length P [] [] m = refl
marked-length P [] (x ∷ xs) m = absurd m
marked-length P (o ∷ os) [] m = absurd m
marked-length P (Before ∷ os) (x ∷ xs) m = ap suc (marked-length P os xs m)
marked-length P (Sent i ∷ os) (x ∷ xs) m = ap suc m.2

marked-all : {X : Type 0} (P : X → Type 0) (os : List Origin) (xs : List X) → length os ≡ length xs → AllByRecursion P xs → IsMarked P os xs
marked-all P [] [] e ps = tt
marked-all P [] (x ∷ xs) e ps = absurd (omega (arith, e))
marked-all P (o ∷ os) [] e ps = absurd (omega (arith, e))
marked-all P (Before ∷ os) (x ∷ xs) e ps = marked-all P os xs (omega (arith, e)) ps.1
marked-all P (Sent i ∷ os) (x ∷ xs) e ps = (ps.0, ps.1, omega (arith, e))

marked-push : {X : Type 0} (P : X → Type 0) (i : ℕ) (x : X) (os : List Origin) (xs : List X) → P x → IsMarked P os xs → IsMarked P (os ++ Sent i ∷ []) (xs ++ x ∷ [])
marked-push P i x [] [] p m = (p, tt, refl)
marked-push P i x [] (y ∷ ys) p m = absurd m
marked-push P i x (o ∷ os) [] p m = absurd m
marked-push P i x (Before ∷ os) (y ∷ ys) p m = marked-push P i x os ys p m
marked-push P i x (Sent j ∷ os) (y ∷ ys) p m = (m.0, All-push P ys x m.1 p, omega (arith, m.2, length-append os (Sent i ∷ []), length-append ys (x ∷ [])))

marked-put : {X : Type 0} (P : X → Type 0) (capacity i : ℕ) (x : X) (os : List Origin) (xs : List X) → P x → IsMarked P os xs → IsMarked P (put_last capacity os (Sent i)) (put_last capacity xs x)
marked-put P capacity i x os xs p m = rw (marked-length P os xs m) (go (nat_lt (length xs) capacity))
  where
    go : (b : Bool) → IsMarked P (cond b (os ++ Sent i ∷ []) os) (cond b (xs ++ x ∷ []) xs)
    go true = marked-push P i x os xs p m
    go false = m

marked-rest : {X : Type 0} (P : X → Type 0) (os : List Origin) (xs : List X) → IsMarked P os xs → IsMarked P (drop 1 os) (drop 1 xs)
marked-rest P [] [] m = tt
marked-rest P [] (x ∷ xs) m = absurd m
marked-rest P (o ∷ os) [] m = absurd m
marked-rest P (Before ∷ os) (x ∷ xs) m = m
marked-rest P (Sent i ∷ os) (x ∷ xs) m = marked-all P os xs m.2 m.1

marked-remove : {X : Type 0} (P : X → Type 0) (os : List Origin) (xs : List X) (i : ℕ) → IsMarked P os xs → IsMarked P (remove os i) (remove xs i)
marked-remove P [] [] zero m = tt
marked-remove P [] [] (suc i) m = tt
marked-remove P [] (x ∷ xs) i m = absurd m
marked-remove P (o ∷ os) [] i m = absurd m
marked-remove P (Before ∷ os) (x ∷ xs) zero m = m
marked-remove P (Before ∷ os) (x ∷ xs) (suc i) m = marked-remove P os xs i m
marked-remove P (Sent j ∷ os) (x ∷ xs) zero m = marked-all P os xs m.2 m.1
marked-remove P (Sent j ∷ os) (x ∷ xs) (suc i) m = (m.0, All-remove P xs i m.1, lengths os xs i m.2)
  where
    lengths : {A B : Type 0} (xs : List A) (ys : List B) (i : ℕ) → length xs ≡ length ys → length (remove xs i) ≡ length (remove ys i)
    lengths [] [] zero e = refl
    lengths [] [] (suc i) e = refl
    lengths [] (y ∷ ys) i e = absurd (omega (arith, e))
    lengths (x ∷ xs) [] i e = absurd (omega (arith, e))
    lengths (x ∷ xs) (y ∷ ys) zero e = omega (arith, e)
    lengths (x ∷ xs) (y ∷ ys) (suc i) e = ap suc (lengths xs ys i (omega (arith, e)))

-- an act does the same to both lists; what it puts has P
pub marked-after : {X : Type 0} (P : X → Type 0) (capacity i : ℕ) (x : X) (act : LinkAct) (os : List Origin) (xs : List X) → P x → IsMarked P os xs →
    IsMarked P (list_after capacity (Sent i) act os) (list_after capacity x act xs)
marked-after P capacity i x Puts os xs p m = marked-put P capacity i x os xs p m
marked-after P capacity i x Takes os xs p m = marked-rest P os xs m
marked-after P capacity i x (Loses j) os xs p m = marked-remove P os xs j m
marked-after P capacity i x Rests os xs p m = m

-- an item with P is the oldest, and all after it have P
abbrev pub IsFirstGood : {X : Type 0} → (X → Type 0) → List X → Type 0
IsFirstGood P [] = ⊥
IsFirstGood P (x ∷ xs) = P x × AllByRecursion P xs

-- if an act takes an item that was sent inside the stretch
pub marked-taken : {X : Type 0} (P : X → Type 0) (act : LinkAct) (os : List Origin) (xs : List X) → takes_sent act os ≡ true → IsMarked P os xs → (act ≡ Takes) × IsFirstGood P xs
marked-taken P Puts os xs t m = absurd cc
marked-taken P (Loses i) os xs t m = absurd cc
marked-taken P Rests os xs t m = absurd cc
marked-taken P Takes [] xs t m = absurd cc
marked-taken P Takes (Before ∷ os) xs t m = absurd cc
marked-taken P Takes (Sent i ∷ os) [] t m = absurd m
marked-taken P Takes (Sent i ∷ os) (x ∷ xs) t m = (refl, (m.0, m.1))

-- either the first act of a stretch takes an item that was sent inside it, or the rest of the
-- stretch does
pub by_taken : {P : Type 0} (taken rest : Bool) → (taken || rest) ≡ true → (taken ≡ true → P) → (taken ≡ false → rest ≡ true → P) → P
by_taken true rest h t f = t refl
by_taken false rest h t f = f refl h
