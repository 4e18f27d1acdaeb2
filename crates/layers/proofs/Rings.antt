-- Rings that are read value by value.
use Rattle.std.proofs.Common.{◌≡◌, ◌∙◌, ap, sym, refl, subst, ℕ, ◌+◌, ◌<◌, ◌↔◌, inl, inr, List, [], ◌∷◌, ◌++◌, Some, length, take, get_or, append_assoc, arith}
use Rattle.std.specs.Prelude.{slice_get}
use Rattle.std.specs.List.{AllByRecursion}
use Rattle.std.proofs.lemmas.Grind.{common_steps}
use Rattle.std.proofs.lemmas.Option.{slice_get_within, get_or_from_slice_get}
use Rattle.k_state.specs.Machine.{root_moved}
use Rattle.k_state.specs.Ring.{IsFrontThen, IsGood, head_of}
use Rattle.topology.specs.declared.frame.Frame.{Frame}
use Rattle.configuration.specs.link_model.declared.item.Item.{Item}
use Rattle.configuration.specs.link_model.declared.item.Item.TheVariants as item
use Rattle.configuration.specs.data_link.Edge.{newest_first}
use Rattle.layers.specs.Numbers.{numbers_of}
use Rattle.layers.specs.declared.ring_reading.Part.{Part}
use Rattle.layers.specs.declared.ring_reading.Part.TheVariants.{Front, Rest, Broken}
use Rattle.layers.specs.declared.ring_reading.RingReading.{RingReading}
use Rattle.layers.specs.RingReading.{MayFollow, MayFollowIn}

-- a ring of which nothing is read may go on as a good one
pub head-follows : (q head : ℕ) (ring : List ℕ) → head_of ring ≡ head
    → IsFrontThen (λ x. x ≡ head) (λ x. root_moved x q ≡ head) ring ↔ IsGood q ring
head-follows q head ring is =
    subst (λ h. IsFrontThen (λ x. x ≡ h) (λ x. root_moved x q ≡ h) ring ↔ IsGood q ring) is (λ a. a, λ a. a)

-- the values after the front may stand in it: then none is in front
after-front : (P Q : ℕ → Type 0) (xs : List ℕ) → AllByRecursion Q xs → IsFrontThen P Q xs
after-front P Q [] all = tt
after-front P Q (x ∷ xs) all = inr all

front-left : (P Q : ℕ → Type 0) (x : ℕ) (xs : List ℕ) → IsFrontThen P Q (x ∷ xs) → IsFrontThen P Q xs
front-left P Q x xs (inl (p, front)) = front
front-left P Q x xs (inr (q, all)) = after-front P Q xs all

-- in front one more value that equals the head may follow
pub front-goes_on : (part : Part) (q head value : ℕ) (rest : List ℕ) → part ≡ Front → value ≡ head
    → IsFrontThen (λ x. x ≡ head) (λ x. root_moved x q ≡ head) rest ↔ MayFollowIn part q head (value ∷ rest)
front-goes_on part q head value rest front is =
    let P : ℕ → Type 0 = λ x. x ≡ head in
    let Q : ℕ → Type 0 = λ x. root_moved x q ≡ head in
    subst (λ p. IsFrontThen P Q rest ↔ MayFollowIn p q head (value ∷ rest)) (sym front) (λ f. inl (is, f), front-left P Q value rest)

-- ---- the numbers of a link

-- the items up to a place and the one there
pub item-more : {X : Type 0} (xs : List X) (i : ℕ) (x : X) → slice_get xs i ≡ Some x → take (i + 1) xs ≡ take i xs ++ x ∷ []
item-more xs i x is =
    let there : i < length xs = slice_get_within xs i x is in
    let one : take (i + 1) xs ≡ take i xs ++ get_or xs i x ∷ [] = grind (arith, common_steps) in
    subst (λ y. take (i + 1) xs ≡ take i xs ++ y ∷ []) (get_or_from_slice_get xs i x x is) one

-- the number of the last item stands first
newest-more : (f : Frame → ℕ) (items : List Item) (x : Item) → newest_first f (items ++ x ∷ []) ≡ numbers_of f x ++ newest_first f items
newest-more f [] item.Noise = refl
newest-more f [] (item.Frame g) = refl
newest-more f (item.Noise ∷ items) x = newest-more f items x
newest-more f (item.Frame g ∷ items) x =
    ap (λ l. l ++ f g ∷ []) (newest-more f items x) ∙ append_assoc (numbers_of f x) (newest_first f items) (f g ∷ [])

-- the item at a place is read after those that follow it
pub numbers-go_on : (f : Frame → ℕ) (items : List Item) (left : ℕ) (x : Item) (start old new : RingReading) → slice_get items left ≡ Some x
    → ((rest : List ℕ) → MayFollow new rest ↔ MayFollow old (numbers_of f x ++ rest))
    → ((rest : List ℕ) → MayFollow old (newest_first f (take (left + 1) items) ++ rest) ↔ MayFollow start (newest_first f items ++ rest))
    → (rest : List ℕ) → MayFollow new (newest_first f (take left items) ++ rest) ↔ MayFollow start (newest_first f items ++ rest)
numbers-go_on f items left x start old new is next so_far rest =
    let newest = newest_first f (take left items) in
    let parts : newest_first f (take (left + 1) items) ++ rest ≡ numbers_of f x ++ (newest ++ rest) =
    ap (λ xs. newest_first f xs ++ rest) (item-more items left x is) ∙ ap (λ ys. ys ++ rest) (newest-more f (take left items) x)
    ∙ append_assoc (numbers_of f x) newest rest in
    let n = next (newest ++ rest) in
    let s = subst (λ ys. MayFollow old ys ↔ MayFollow start (newest_first f items ++ rest)) parts (so_far rest) in
    (λ m. s.0 (n.0 m), λ m. n.1 (s.1 m))

-- three values are read one after the other
pub three-follow : (a b c d : RingReading) (x y z u v t : ℕ) → x ≡ u → y ≡ v → z ≡ t
    → ((rest : List ℕ) → MayFollow b rest ↔ MayFollow a (x ∷ rest))
    → ((rest : List ℕ) → MayFollow c rest ↔ MayFollow b (y ∷ rest))
    → ((rest : List ℕ) → MayFollow d rest ↔ MayFollow c (z ∷ rest))
    → (rest : List ℕ) → MayFollow d rest ↔ MayFollow a (u ∷ v ∷ t ∷ rest)
three-follow a b c d x y z u v t first second third f g h rest =
    let all : MayFollow d rest ↔ MayFollow a (x ∷ y ∷ z ∷ rest) = (
      λ m. (f (y ∷ z ∷ rest)).0 ((g (z ∷ rest)).0 ((h rest).0 m)),
      λ m. (h rest).1 ((g (z ∷ rest)).1 ((f (y ∷ z ∷ rest)).1 m)),
    ) in
    subst (λ p. MayFollow d rest ↔ MayFollow a (p ∷ v ∷ t ∷ rest)) first
    (subst (λ p. MayFollow d rest ↔ MayFollow a (x ∷ p ∷ t ∷ rest)) second
    (subst (λ p. MayFollow d rest ↔ MayFollow a (x ∷ y ∷ p ∷ rest)) third all))
