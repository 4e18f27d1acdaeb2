-- Where a frame is among the items of a link, item by item; and harms in a row.
use Rattle.std.proofs.Common.{◌≡◌, ◌∙◌, ℕ, ◌+◌, true, false, ◌||◌, List, [], ◌∷◌, ◌++◌, refl, ap, arith, Option, None, Some, take, drop}
use Rattle.std.proofs.lemmas.List.{drop_more}
use Rattle.std.proofs.lemmas.Option.{slice_get_within, get_or_from_slice_get}
use Rattle.std.specs.Prelude.{slice_get, if◌then◌else◌}
use Rattle.topology.specs.declared.frame.Frame.{Frame}
use Rattle.configuration.specs.link_model.declared.item.Item.{Item}
use Rattle.configuration.specs.run_model.declared.event.Event.{Event}
use Rattle.configuration.specs.run_model.declared.event.Event.TheVariants.{Damage}
use Rattle.configuration.specs.run_model.declared.event.Harm.{Harm}
use Rattle.record_gathering.specs.Differences.{harms_in}
use Rattle.record_gathering.specs.Frames.{is_frame, is_under_way, in_front}
use Rattle.record_gathering.proofs.FactsJoin.{one-more}

at-item : {X : Type 0} (xs : List X) (i : ℕ) (x : X) → slice_get xs i ≡ Some x → drop i xs ≡ x ∷ drop (i + 1) xs
at-item xs i x e =
    drop_more xs i x (slice_get_within xs i x e) ∙ ap (λ y. y ∷ drop (i + 1) xs) (get_or_from_slice_get xs i x x e)

module _ (f : Frame) (xs : List Item) (i : ℕ) (x : Item) (there : slice_get xs i ≡ Some x) (count : in_front f xs ≡ i + in_front f (drop i xs)) (same : is_under_way f xs ≡ is_under_way f (drop i xs)) where
  front-is : in_front f (drop i xs) ≡ (if is_frame f x then 0 else in_front f (drop (i + 1) xs) + 1)
  front-is = ap (in_front f) (at-item xs i x there)

  way-is : is_under_way f (drop i xs) ≡ is_frame f x || is_under_way f (drop (i + 1) xs)
  way-is = ap (is_under_way f) (at-item xs i x there)

  pub place-here : is_frame f x ≡ true → in_front f xs ≡ i
  place-here t = let e : in_front f (drop i xs) ≡ 0 = front-is ∙ rw t refl in omega (arith, count, e)

  pub is-here : is_frame f x ≡ true → is_under_way f xs ≡ true
  is-here t = same ∙ way-is ∙ rw t refl

  pub place-further : is_frame f x ≡ false → in_front f xs ≡ (i + 1) + in_front f (drop (i + 1) xs)
  place-further t =
      let e : in_front f (drop i xs) ≡ in_front f (drop (i + 1) xs) + 1 = front-is ∙ rw t refl in omega (arith, count, e)

  pub is-further : is_frame f x ≡ false → is_under_way f xs ≡ is_under_way f (drop (i + 1) xs)
  is-further t = same ∙ way-is ∙ rw t refl

harms-append : (xs ys : List (Option Harm)) → harms_in (xs ++ ys) ≡ harms_in xs ++ harms_in ys
harms-append [] ys = refl
harms-append (None ∷ xs) ys = harms-append xs ys
harms-append (Some h ∷ xs) ys = ap (λ (l : List Event). Damage h ∷ l) (harms-append xs ys)

pub one-harm_more : (old now new : List Event) (hs : List (Option Harm)) (i : ℕ) (h : Option Harm)
    → take (i + 1) hs ≡ take i hs ++ h ∷ [] → now ≡ old ++ harms_in (take i hs) → new ≡ now ++ harms_in (h ∷ [])
    → new ≡ old ++ harms_in (take (i + 1) hs)
one-harm_more = one-more harms_in harms-append
