-- Lists of which one element changes, or comes last.
use Rattle.std.proofs.Common.{◌≡◌, if◌then◌else◌, ◌==◌, ℕ, ◌<◌, List, [], ◌∷◌, ◌++◌, length, map, ap, sym, ◌∙◌, arith, slice_index_or, slice_set, All, subst}
use Rattle.std.proofs.Math.Seq.{map-set_same}
use Rattle.std.proofs.lemmas.Grind.{common_steps}
use Rattle.std.proofs.lemmas.List.{get_or-map, get_or-set_same, get_or-set_other, get_or_append_left, get_or-append_right, map-set, length-map}

module _ {X Y : Type 0} (f : X → Y) where
  -- an element, as it looks
  pub read : (xs : List X) (k : ℕ) (x : X) (d : Y) → k < length xs → x ≡ slice_index_or xs k x → slice_index_or (map f xs) k d ≡ f x
  read xs k x d within at = get_or-map f xs k x d within ∙ ap f (sym at)

  -- what holds of all holds of one
  pub at-mapped : (P : Y → Type 0) (xs : List X) (k : ℕ) (x : X) → k < length xs → x ≡ slice_index_or xs k x → All P (map f xs) → P (f x)
  at-mapped P xs k x within at all = let long = length-map xs f in subst P (read xs k x (f x) within at) (all k (f x) (omega arith))

  -- an element is replaced by one that looks the same
  pub map_set_same : (xs : List X) (k : ℕ) (x y : X) → x ≡ slice_index_or xs k x → f y ≡ f x → map f (slice_set xs k y) ≡ map f xs
  map_set_same xs k x y at same = map-set_same f xs k y x (same ∙ ap f at)

-- one row of a table changes
pub row-set : {X Y : Type 0} (f : X → List Y) (xs : List X) (k : ℕ) (x : X) → k < length xs → (i : ℕ) → slice_index_or (map f (slice_set xs k x)) i [] ≡ (if i == k then f x else slice_index_or (map f xs) i [])
row-set f xs k x within i = rw (map-set f xs k x) (let long = length-map xs f in grind (arith, common_steps, get_or-set_same, get_or-set_other))

-- one more empty row
pub empty-push : {X : Type 0} (rows : List (List X)) → ((x : ℕ) → slice_index_or rows x [] ≡ []) → (x : ℕ) → slice_index_or (rows ++ [] ∷ []) x [] ≡ []
empty-push rows none x = let at = none x in grind (arith, common_steps, at, get_or_append_left, get_or-append_right)
