-- Values, beat by beat.
use Rattle.std.proofs.Common.{◌≡◌, ◌∙◌, ap, sym, refl, subst, ℕ, zero, suc, ◌+◌, ◌-◌, ◌<◌, List, [], ◌∷◌, ◌++◌, codes, length, replicate, take, drop, get_or, slice_index_or, append_assoc, arith}
use Rattle.std.specs.List.{flat_map}
use Rattle.std.proofs.lemmas.Grind.{common_steps, flat_map-append}
use Rattle.std.proofs.lemmas.List.{append-nil, take_more}
use Rattle.run_recording.specs.declared.still.Still.{Still}
use Rattle.run_film.specs.declared.track.Track.{Track}
use Rattle.run_film.specs.Beats.{Film, beats_at, beats_of, last_or, later_beats}
use Rattle.run_film.specs.Tracks.{value_of, values_of, more_values}

-- one beat more of a still
suc_replicated : {X : Type 0} (n : ℕ) (x : X) → replicate (suc n) x ≡ replicate n x ++ x ∷ []
suc_replicated zero x = refl
suc_replicated (suc n) x = ap (λ xs. x ∷ xs) (suc_replicated n x)

replicate_more : {X : Type 0} (n : ℕ) (x : X) → replicate (n + 1) x ≡ replicate n x ++ x ∷ []
replicate_more n x =
    let next : n + 1 ≡ suc n = omega arith in
    rw next (suc_replicated n x)

pub beat_more : (track : Track) (still : Still) (n : ℕ) (before now next : List ℕ)
    → now ≡ before ++ more_values track (replicate n still) → next ≡ (now ++ codes ";") ++ value_of track still
    → next ≡ before ++ more_values track (replicate (n + 1) still)
beat_more track still n before now next is more =
    let one = append-nil (codes ";" ++ value_of track still) in
    more ∙ append_assoc now (codes ";") (value_of track still) ∙ ap (λ xs. xs ++ (codes ";" ++ value_of track still)) is
    ∙ append_assoc before (more_values track (replicate n still)) (codes ";" ++ value_of track still)
    ∙ ap (λ xs. before ++ xs) (ap (λ xs. more_values track (replicate n still) ++ xs) (sym one)
    ∙ sym (flat_map-append (λ s. codes ";" ++ value_of track s) (replicate n still) (still ∷ []))
    ∙ ap (more_values track) (sym (replicate_more n still)))

-- one still more, of the stills from a place on
later_suc : (film : Film) (place n : ℕ) (stills : List Still) (d : Still) → n < length stills
    → later_beats film place (take (suc n) stills) ≡ later_beats film place (take n stills) ++ replicate (beats_at film (place + n)) (get_or stills n d)
later_suc film place n [] d there = grind (arith, common_steps)
later_suc film place zero (still ∷ stills) d there =
    let here : place + 0 ≡ place = omega arith in
    rw here (append-nil (replicate (beats_at film place) still))
later_suc film place (suc n) (still ∷ stills) d there =
    let next : (place + 1) + n ≡ place + suc n = omega arith in
    let rest = later_suc film (place + 1) n stills d (omega (arith, there)) in
    ap (λ xs. replicate (beats_at film place) still ++ xs) (rest ∙ ap (λ k. later_beats film (place + 1) (take n stills) ++ replicate (beats_at film k) (get_or stills n d)) next)
    ∙ sym (append_assoc (replicate (beats_at film place) still) (later_beats film (place + 1) (take n stills)) (replicate (beats_at film (place + suc n)) (get_or stills n d)))

pub later_more : (film : Film) (place n : ℕ) (stills : List Still) (d : Still) → n < length stills
    → later_beats film place (take (n + 1) stills) ≡ later_beats film place (take n stills) ++ replicate (beats_at film (place + n)) (get_or stills n d)
later_more film place n stills d there =
    let next : n + 1 ≡ suc n = omega arith in
    subst (λ k. later_beats film place (take k stills) ≡ later_beats film place (take n stills) ++ replicate (beats_at film (place + n)) (get_or stills n d)) (sym next)
    (later_suc film place n stills d there)

pub still_more : (track : Track) (film : Film) (n count : ℕ) (stills : List Still) (d : Still) (before now next : List ℕ) → n < length stills
    → count ≡ beats_at film (n + 1)
    → now ≡ before ++ more_values track (later_beats film 1 (take n stills)) → next ≡ now ++ more_values track (replicate count (get_or stills n d))
    → next ≡ before ++ more_values track (later_beats film 1 (take (n + 1) stills))
still_more track film n count stills d before now next there beats is more =
    let place : 1 + n ≡ n + 1 = omega arith in
    let shown = later_more film 1 n stills d there in
    more ∙ ap (λ xs. xs ++ more_values track (replicate count (get_or stills n d))) is
    ∙ append_assoc before (more_values track (later_beats film 1 (take n stills))) (more_values track (replicate count (get_or stills n d)))
    ∙ ap (λ xs. before ++ xs) (sym (flat_map-append (λ s. codes ";" ++ value_of track s) (later_beats film 1 (take n stills)) (replicate count (get_or stills n d)))
    ∙ ap (more_values track) (ap (λ k. later_beats film 1 (take n stills) ++ replicate k (get_or stills n d)) (beats ∙ ap (beats_at film) (sym place)) ∙ sym shown))

-- the values of a film begin with the first still
pub values_are : (track : Track) (film : Film) (count : ℕ) (one two : List ℕ) → beats_at film 0 ≡ suc count
    → one ≡ value_of track film.opening ++ more_values track (replicate count film.opening)
    → two ≡ one ++ more_values track (later_beats film 1 film.later) → two ≡ values_of track (beats_of film)
values_are track film count one two first is more =
    more ∙ ap (λ xs. xs ++ more_values track (later_beats film 1 film.later)) is
    ∙ append_assoc (value_of track film.opening) (more_values track (replicate count film.opening)) (more_values track (later_beats film 1 film.later))
    ∙ ap (λ xs. value_of track film.opening ++ xs) (sym (flat_map-append (λ s. codes ";" ++ value_of track s) (replicate count film.opening) (later_beats film 1 film.later)))
    ∙ sym (ap (λ k. values_of track (replicate k film.opening ++ later_beats film 1 film.later)) first)

-- the first still has ten beats and more
pub some_beats : (film : Film) → 0 < beats_at film 0
some_beats film = grind (arith, common_steps)

-- ---- the last still

last_further : (s a : Still) (stills : List Still) (d : Still) → slice_index_or (a ∷ stills) (length stills) d ≡ last_or s (a ∷ stills)
last_further s a [] d = refl
last_further s a (b ∷ stills) d = last_further a b stills d

-- the last of some stills is that at the last place
pub last_is : (s : Still) (stills : List Still) (d : Still) → 0 < length stills → slice_index_or stills (length stills - 1) d ≡ last_or s stills
last_is s [] d some = grind (arith, common_steps)
last_is s (a ∷ stills) d some =
    let place : length (a ∷ stills) - 1 ≡ length stills = omega arith in
    rw place (last_further s a stills d)
