-- Small examples of what becomes of the items of a link, and when a stretch renews it; and some that fail.
use Rattle.std.proofs.Common.{◌≡◌, ℕ, List, [], ◌∷◌, map, true, false, refl, arith}
use Rattle.link_model.specs.declared.item.Item.TheVariants.{Noise}
use Rattle.link_model.specs.Acts.{Before, Loses, Puts, Rests, Sent, Takes, hands_over_sent, is_first_sent, is_renewed, list_after, put_last, takes_sent}

abbrev numbers : List ℕ
numbers = 4 ∷ 5 ∷ []

-- the new item goes last, if there is room
puts-last : put_last 3 numbers 6 ≡ 4 ∷ 5 ∷ 6 ∷ []
puts-last = refl

puts_not-full : put_last 2 numbers 6 ≡ numbers
puts_not-full = refl

after-each : map (λ act. list_after 3 6 act numbers) (Puts ∷ Takes ∷ Loses 1 ∷ Rests ∷ [])
    ≡ (4 ∷ 5 ∷ 6 ∷ []) ∷ (5 ∷ []) ∷ (4 ∷ []) ∷ (4 ∷ 5 ∷ []) ∷ []
after-each = refl

-- the newest is not taken
after_not-newest : ¬ (list_after 3 6 Takes numbers ≡ 4 ∷ [])
after_not-newest e = grind (arith, e)

-- an item that the stretch sent, and one that stood there before
first-sent : map is_first_sent ((Sent 0 ∷ Before ∷ []) ∷ (Before ∷ Sent 0 ∷ []) ∷ [] ∷ []) ≡ true ∷ false ∷ false ∷ []
first-sent = refl

takes-sent : takes_sent Takes (Sent 3 ∷ []) ≡ true
takes-sent = refl

takes_not-lost : takes_sent (Loses 0) (Sent 3 ∷ []) ≡ false
takes_not-lost = refl

-- what stood there is taken first, and then what was sent
hands-over : hands_over_sent 2 0 (Puts ∷ Takes ∷ Takes ∷ []) (Before ∷ []) ≡ true
hands-over = refl

hands_not-before : hands_over_sent 2 0 (Puts ∷ Takes ∷ []) (Before ∷ []) ≡ false
hands_not-before = refl

renewed : is_renewed 1 (Takes ∷ Puts ∷ Rests ∷ Takes ∷ []) (Noise ∷ []) ≡ true
renewed = refl

-- not if the link was full when the item was sent, or if the item was lost
renewed_not-full : is_renewed 1 (Puts ∷ Takes ∷ Takes ∷ []) (Noise ∷ []) ≡ false
renewed_not-full = refl

renewed_not-lost : is_renewed 1 (Puts ∷ Loses 0 ∷ Takes ∷ []) [] ≡ false
renewed_not-lost = refl
