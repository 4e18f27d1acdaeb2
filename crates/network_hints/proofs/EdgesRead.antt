-- What is read of a file's edges, by the values in the vector.
use Rattle.std.proofs.Common.{◌≡◌, ◌≢◌, ℕ, ℤ, ◌+◌, ◌<◌, ◌≤◌, List, [], ◌∷◌, ◌++◌, length, get_or, drop, refl, append_assoc, arith, None, Some, Ok, Err, option_map, Result}
use Rattle.std.proofs.lemmas.List.{append-nil, drop_all}
use Rattle.std.specs.Prelude.{option_and_then}
use Rattle.toml.specs.declared.value.Value.{Value}
use Rattle.toml.specs.View.{view, items_view}
use Rattle.toml.specs.Data.{as_integer}
use Rattle.toml.proofs.Views.{items_view-drop}
use Rattle.network_hints.specs.Reading.{two_integers, ends_of, ends_in, and_more, mapped}

pub two_integers-other : (vs : List Value) → length vs ≢ 2 → two_integers (items_view vs) ≡ None
two_integers-other [] h = refl
two_integers-other (a ∷ []) h = refl
two_integers-other (a ∷ b ∷ []) h = absurd (h refl)
two_integers-other (a ∷ b ∷ c ∷ vs) h = refl

pub two_integers-pair : (vs : List Value) (d : Value) → length vs ≡ 2
    → two_integers (items_view vs) ≡ option_and_then (λ x. option_map (λ y. (x, y)) (as_integer (view (get_or vs 1 d)))) (as_integer (view (get_or vs 0 d)))
two_integers-pair [] d h = absurd (omega arith)
two_integers-pair (a ∷ []) d h = absurd (omega arith)
two_integers-pair (a ∷ b ∷ []) d h = refl
two_integers-pair (a ∷ b ∷ c ∷ vs) d h = absurd (omega arith)

-- the edges read so far, in front of the others
pub ends_in-drop : (n : ℕ) (vs : List Value) (i : ℕ) (d : Value) → i < length vs
    → ends_in n (items_view (drop i vs)) ≡ and_more (ends_of (view (get_or vs i d))) n (ends_in (n + 1) (items_view (drop (i + 1) vs)))
ends_in-drop n vs i d h = rw (items_view-drop vs i d h)

abbrev pub in_front : List (ℤ × ℤ) → Result (List (ℤ × ℤ)) ℕ → Result (List (ℤ × ℤ)) ℕ
in_front es rest = mapped (λ more. es ++ more) rest

pub none_in_front : (rest : Result (List (ℤ × ℤ)) ℕ) → rest ≡ in_front [] rest
none_in_front (Ok more) = refl
none_in_front (Err place) = refl

one_in_front : (es : List (ℤ × ℤ)) (e : ℤ × ℤ) (rest : Result (List (ℤ × ℤ)) ℕ)
    → in_front es (mapped (λ more. e ∷ more) rest) ≡ in_front (es ++ e ∷ []) rest
one_in_front es e (Ok more) = rw append_assoc
one_in_front es e (Err place) = refl

-- the loop's steps: no value is left; the next is no edge; the next is one
pub in_front-end : (es : List (ℤ × ℤ)) (vs : List Value) (i : ℕ) → length vs ≤ i → in_front es (ends_in i (items_view (drop i vs))) ≡ Ok es
in_front-end es vs i h = rw (drop_all i vs h, append-nil)

pub in_front-none : (es : List (ℤ × ℤ)) (vs : List Value) (i : ℕ) (d : Value) → i < length vs → ends_of (view (get_or vs i d)) ≡ None
    → in_front es (ends_in i (items_view (drop i vs))) ≡ Err i
in_front-none es vs i d h e = rw (ends_in-drop i vs i d h, e)

pub in_front-some : (es : List (ℤ × ℤ)) (edge : ℤ × ℤ) (vs : List Value) (i : ℕ) (d : Value) → i < length vs
    → ends_of (view (get_or vs i d)) ≡ Some edge
    → in_front es (ends_in i (items_view (drop i vs))) ≡ in_front (es ++ edge ∷ []) (ends_in (i + 1) (items_view (drop (i + 1) vs)))
in_front-some es edge vs i d h e = rw (ends_in-drop i vs i d h, e) (one_in_front es edge (ends_in (i + 1) (items_view (drop (i + 1) vs))))
