-- Small examples of what sources give and sinks take, and some that look like them and are none.
use Rattle.std.proofs.Common.{◌≡◌, ◌++◌, ℕ, List, Option, [], ◌∷◌, None, Some, Ok, refl, arith, inr}
use Rattle.byte_streams.specs.Streams.{Gives, HasRead, Rose, Takes, TakesABeginning}
use Rattle.byte_streams.specs.Fuse.{left_after, failures_of, Passes}

-- a source gives its next bytes; it does not give others, and nothing only at its end or if
-- there is no room
gives-two : Gives 2 (Some (1 ∷ 2 ∷ 3 ∷ [])) (Some (3 ∷ [])) (1 ∷ 2 ∷ 0 ∷ 0 ∷ [])
gives-two = (omega arith, refl, refl, λ none. absurd (grind arith))

gives_not-others : ¬ Gives 2 (Some (1 ∷ 2 ∷ 3 ∷ [])) (Some (3 ∷ [])) (2 ∷ 1 ∷ [])
gives_not-others = λ g. grind (arith, g.1)

gives-end : Gives 0 (Some []) (Some []) (0 ∷ [])
gives-end = (omega arith, refl, refl, λ none room. refl)

gives_not-nothing : ¬ Gives 0 (Some (1 ∷ [])) (Some (1 ∷ [])) (0 ∷ [])
gives_not-nothing = λ g. grind (arith, g.3 refl (omega arith))

gives-no_room : Gives 0 (Some (1 ∷ [])) (Some (1 ∷ [])) []
gives-no_room = (omega arith, refl, refl, λ none room. absurd (grind arith))

-- a sink takes after what it took before
takes-after : Takes (3 ∷ []) (Some (1 ∷ 2 ∷ [])) (Some (1 ∷ 2 ∷ 3 ∷ []))
takes-after = refl

takes_not-in_front : ¬ Takes (3 ∷ []) (Some (1 ∷ 2 ∷ [])) (Some (3 ∷ 1 ∷ 2 ∷ []))
takes_not-in_front = λ t. grind arith

-- two bytes were read, and the third is still to come
has-read : HasRead 2 (1 ∷ 2 ∷ 3 ∷ []) (Some (3 ∷ []))
has-read = (omega arith, refl)

has_read_not-again : ¬ HasRead 2 (1 ∷ 2 ∷ 3 ∷ []) (Some (2 ∷ 3 ∷ []))
has_read_not-again = λ h. grind (arith, h.1)

has_read_not-more : ¬ HasRead 4 (1 ∷ 2 ∷ 3 ∷ []) (Some [])
has_read_not-more = λ h. omega (arith, h.0)

-- a sink took the first two of three bytes; it does not take the second one first
takes-beginning : TakesABeginning (1 ∷ 2 ∷ 3 ∷ []) (Some (7 ∷ [])) (Some (7 ∷ 1 ∷ 2 ∷ []))
takes-beginning = record { front = 1 ∷ 2 ∷ []; back = 3 ∷ []; parts = refl; taken = refl }

not-second : (front back : List ℕ) → ◌≡◌ {A = List ℕ} (1 ∷ 2 ∷ []) (front ++ back) → ◌≡◌ {A = Option (List ℕ)} (Some (2 ∷ [])) (Some front) → ⊥
not-second [] back parts taken = absurd cc
not-second (b ∷ front) back parts taken = grind (arith, parts, taken)

takes_not-second : ¬ TakesABeginning (1 ∷ 2 ∷ []) (Some []) (Some (2 ∷ []))
takes_not-second = λ t. not-second t.front t.back t.parts t.taken

-- a count of failures that stays at its greatest value counts as risen there, and nowhere else
rose-most : Rose 18446744073709551615 18446744073709551615
rose-most = inr (omega arith)

rose_not-same : ¬ Rose 5 5
rose_not-same = λ r. grind arith

-- a fuse counts down, fails if no call is left to pass, and does not begin again
left_after-two : left_after (Some 2) ≡ Some 1
left_after-two = refl

left_after-last : left_after (Some 0) ≡ None
left_after-last = refl

left_after_not-again : ¬ (left_after None ≡ Some 0)
left_after_not-again = λ e. grind arith

-- a fuse that lets two calls pass fails the third, and has failed once from then on
failures_of-passes : failures_of (left_after (left_after (Some 2))) ≡ 0
failures_of-passes = refl

failures_of-fails : failures_of (left_after (left_after (left_after (Some 2)))) ≡ 1
failures_of-fails = refl

failures_of-once : failures_of (left_after (left_after (Some 0))) ≡ 1
failures_of-once = refl

failures_of-not_before : ¬ (failures_of (Some 0) ≡ 1)
failures_of-not_before = λ e. grind arith

-- a call that passes may change what is held; the one that fails may not, and says so
passes-on : Passes {T = ℕ} {X = ℕ} {E = ℕ} (Some 1) (Some 0) 5 6 (Ok 7)
passes-on = (refl, λ last. absurd (grind (arith, last)))

passes_not-through : ¬ Passes {T = ℕ} {X = ℕ} {E = ℕ} (Some 0) None 5 5 (Ok 7)
passes_not-through = λ p. let fails : _ = (p.1 refl).0 in grind (arith, fails)
