-- Every second item is kept, from the second on.
use Rattle.std.proofs.Common.{◌≡◌, ◌∙◌, ap, sym, refl, ℕ, ◌+◌, ◌-◌, ◌*◌, ◌/◌, ◌<◌, ◌≤◌, List, [], ◌∷◌, ◌++◌, length, take, drop, get_or, set, append_assoc, arith}
use Rattle.std.proofs.lemmas.Grind.{common_steps}
use Rattle.std.proofs.lemmas.List.{append-nil, at_drop_more, drop_more, take_more_set, drop-set-lt, drop-drop, get_or-drop}
use Rattle.layers.specs.declared.whole.Layers.{Layers}
use Rattle.run_recording.specs.Laned.{seconds}

-- the next item that is kept
seconds_next : (items : List Layers) (k : ℕ) (d : Layers) → 2 * k + 1 < length items
    → seconds (drop (2 * k) items) ≡ get_or items (2 * k + 1) d ∷ seconds (drop (2 * (k + 1)) items)
seconds_next items k d within =
    let here : 2 * k < length items = omega (arith, within) in
    let next : 2 * k + 1 + 1 ≡ 2 * (k + 1) = omega arith in
    at_drop_more seconds items (2 * k) d here
    ∙ ap (λ xs. seconds (get_or items (2 * k) d ∷ xs)) (drop_more items (2 * k + 1) d within)
    ∙ ap (λ n. get_or items (2 * k + 1) d ∷ seconds (drop n items)) next

-- what stands further on is as it was
further : (items now : List Layers) (k : ℕ) (d : Layers) → drop k now ≡ drop k items → get_or now (2 * k + 1) d ≡ get_or items (2 * k + 1) d
further items now k d same =
    let there : 2 * k + 1 ≡ k + (k + 1) = omega arith in
    ap (λ n. get_or now n d) there ∙ sym (get_or-drop k now (k + 1) d) ∙ ap (λ xs. get_or xs (k + 1) d) same
    ∙ get_or-drop k items (k + 1) d ∙ ap (λ n. get_or items n d) (sym there)

-- one more item is kept
pub one_kept : (items now : List Layers) (k : ℕ) (x d : Layers) → length now ≡ length items → 2 * k + 1 < length items → x ≡ get_or now (2 * k + 1) d
    → take k now ++ seconds (drop (2 * k) items) ≡ seconds items → drop k now ≡ drop k items
    → take (k + 1) (set now k x) ++ seconds (drop (2 * (k + 1)) items) ≡ seconds items
one_kept items now k x d long within is kept same =
    let room : k < length now = omega (arith, within, long) in
    let rest = seconds (drop (2 * (k + 1)) items) in
    ap (λ xs. xs ++ rest) (take_more_set now k x room) ∙ append_assoc (take k now) (x ∷ []) rest
    ∙ ap (λ y. take k now ++ y ∷ rest) (is ∙ further items now k d same)
    ∙ ap (λ xs. take k now ++ xs) (sym (seconds_next items k d within)) ∙ kept

-- and what follows is as it was
pub rest_same : (items now : List Layers) (k : ℕ) (x : Layers) → drop k now ≡ drop k items → drop (k + 1) (set now k x) ≡ drop (k + 1) items
rest_same items now k x same =
    drop-set-lt (k + 1) now k x (omega arith) ∙ sym (drop-drop 1 k now) ∙ ap (drop 1) same ∙ drop-drop 1 k items

-- of at most one item none is kept
seconds_few : (items : List Layers) → length items ≤ 1 → seconds items ≡ []
seconds_few [] few = refl
seconds_few (a ∷ []) few = refl
seconds_few (a ∷ b ∷ items) few = let no : ⊥ = grind (arith, few) in elim no [ ]

-- if k is half of the number of items, the first k are all that are kept
pub all_kept : (items now : List Layers) (k : ℕ) → k ≡ length items / 2 → take k now ++ seconds (drop (2 * k) items) ≡ seconds items
    → take k now ≡ seconds items
all_kept items now k half kept =
    let few : length (drop (2 * k) items) ≤ 1 = grind (arith, common_steps) in
    sym (append-nil (take k now)) ∙ ap (λ xs. take k now ++ xs) (sym (seconds_few (drop (2 * k) items) few)) ∙ kept

-- half of the items are kept
pub seconds-length : (items : List Layers) → length (seconds items) ≡ length items / 2
seconds-length [] = refl
seconds-length (a ∷ []) = refl
seconds-length (a ∷ b ∷ items) = let half = seconds-length items in grind (arith, common_steps)

-- so they are fewer, if there are any
pub seconds_fewer : (items : List Layers) → 0 < length items → length (seconds items) < length items
seconds_fewer items some = omega (arith, seconds-length items, some)
