-- Small examples of the names of sockets, and of the desks among some names, with some that fail.
use Rattle.std.proofs.Common.{◌≡◌, ℕ, ◌<◌, ◌==◌, zero, suc, true, false, List, [], ◌∷◌, None, Ok, Err, drop, codes, refl, ap, arith}
use Rattle.std.specs.Fmt.{decimal, digits}
use Rattle.std.specs.Fs.{dir_entry_name}
use Rattle.std.specs.List.Sorted.{IsSorted}
use Rattle.std.specs.Ordering.{nat_cmp}
use Rattle.std.specs.declared.fs.dir.DirEntry.{DirEntry}
use Rattle.std.proofs.lemmas.Bool.Decides.{nat_tests}
use Rattle.std.proofs.lemmas.Fmt.{decimal_injective}
use Rattle.std.proofs.lemmas.Grind.{common_steps}
use Rattle.std.proofs.lemmas.List.{append_cancel_right}
use Rattle.std.proofs.lemmas.Slice.Eq.{bytes_eq-Decides}
use Rattle.desk_sockets.specs.DeskSockets.{AreDesksAmong, FindsDesks, desk_name, desk_path, is_desk_of, look_path, names_in}

names-desk : desk_path (codes "run") 2 ≡ codes "run/desk-2.sock"
unfolding digits
names-desk = refl

looks-path : look_path (codes "run") 2 ≡ codes "run/look-2.sock"
unfolding digits
looks-path = refl

-- ---- desks

is-desk : is_desk_of 2 (codes "desk-2.sock") ≡ true
unfolding digits
is-desk = refl

is_not-other : is_desk_of 3 (codes "desk-2.sock") ≡ false
unfolding digits
is_not-other = refl

is_not-look : is_desk_of 2 (codes "look-2.sock") ≡ false
unfolding digits
is_not-look = refl

-- no id is so great
is_not-greater : is_desk_of 65536 (desk_name 65536) ≡ false
is_not-greater = refl

same-node : (m n : ℕ) → m < 65536 → n < 65536 → desk_name m ≡ desk_name n → m ≡ n
same-node m n small low same =
    decimal_injective m n (omega arith) (omega arith) (append_cancel_right (decimal m) (decimal n) (codes ".sock") (ap (drop 5) same))

one-desk : (m n : ℕ) → m < 65536 → is_desk_of n (desk_name m) ≡ (m == n)
one-desk m n small = grind (arith, common_steps, nat_tests, bytes_eq-Decides (desk_name m) (desk_name n), same-node m n small)

desk-one : (n : ℕ) → is_desk_of n (codes "desk-1.sock") ≡ (1 == n)
unfolding digits
desk-one n = one-desk 1 n (omega arith)

desk-two : (n : ℕ) → is_desk_of n (codes "desk-2.sock") ≡ (2 == n)
unfolding digits
desk-two n = one-desk 2 n (omega arith)

no-desk : (n : ℕ) → is_desk_of n (codes "look-1.sock") ≡ false
no-desk n = grind (arith, common_steps, bytes_eq-Decides (codes "look-1.sock") (desk_name n))

ascends : IsSorted nat_cmp (1 ∷ 2 ∷ [])
ascends zero d low high = refl
ascends (suc k) d low high = absurd (omega (arith, high))

-- of three names two are desks
finds-two : AreDesksAmong (codes "desk-2.sock" ∷ codes "look-1.sock" ∷ codes "desk-1.sock" ∷ []) (1 ∷ 2 ∷ [])
finds-two = record { ascending = ascends; as_often = λ n. rw (desk-two n, no-desk n, desk-one n) grind (arith, common_steps) }

-- none is left out,
finds_not-fewer : ¬ AreDesksAmong (codes "desk-2.sock" ∷ codes "desk-1.sock" ∷ []) (1 ∷ [])
unfolding digits
finds_not-fewer are = let none : 0 ≡ 1 = are.as_often 2 in omega (arith, none)

-- none comes twice,
finds_not-twice : ¬ AreDesksAmong (codes "desk-1.sock" ∷ []) (1 ∷ 1 ∷ [])
unfolding digits
finds_not-twice are = let twice : 2 ≡ 1 = are.as_often 1 in omega (arith, twice)

-- none is invented,
finds_not-more : ¬ AreDesksAmong (codes "look-1.sock" ∷ []) (1 ∷ [])
unfolding digits
finds_not-more are = let one : 1 ≡ 0 = are.as_often 1 in omega (arith, one)

-- and they ascend
finds_not-down : (names : List (List ℕ)) → ¬ AreDesksAmong names (2 ∷ 1 ∷ [])
finds_not-down names are = let down : true ≡ false = are.ascending 0 0 (omega arith) (omega arith) in absurd cc

-- an entry that could not be read has no name
names-read : {R A F D E : Type 0} (entry : DirEntry R A F D) (e : E) → names_in (Err e ∷ Ok entry ∷ []) ≡ dir_entry_name entry ∷ []
names-read entry e = refl

-- nothing is found if an iterator gives nothing
finds-nothing : FindsDesks {S = ℕ} {R = ℕ} {A = ℕ} {F = ℕ} {D = ℕ} {E = ℕ} (λ s given t. given ≡ None) 0 []
finds-nothing = ([], (0, (0, refl, refl)), record { ascending = λ k d low high. absurd (omega (arith, high)); as_often = λ n. refl })

finds_not-something : ¬ FindsDesks {S = ℕ} {R = ℕ} {A = ℕ} {F = ℕ} {D = ℕ} {E = ℕ} (λ s given t. given ≡ None) 0 (1 ∷ [])
finds_not-something ([], gave, are) = let one : 1 ≡ 0 = are.as_often 1 in omega (arith, one)
finds_not-something (entry ∷ given, gave, are) = grind (arith, gave)
