-- The sentences of stills, one after the other.
use Rattle.std.proofs.Common.{◌≡◌, ◌∙◌, ap, sym, refl, subst, ℕ, zero, suc, ◌+◌, ◌<◌, List, [], ◌∷◌, ◌++◌, length, take, get_or, arith}
use Rattle.std.proofs.lemmas.Grind.{common_steps}
use Rattle.std.proofs.Math.Seq.{take-length}
use Rattle.svg_drawing.specs.Drawn.{Shown as Drawn}
use Rattle.svg_drawing.specs.Grouped.{Grouped, with_inside}
use Rattle.run_recording.specs.declared.still.Still.{Still}
use Rattle.run_film.specs.Beats.{Film, beats_at}
use Rattle.run_film.specs.Pages.{later_steps, step_shown, steps_to, steps_shown}

-- one sentence more, of the stills from a place on
step_suc : (film : Film) (place n : ℕ) (stills : List Still) (d : Still) → n < length stills
    → later_steps film place (take (suc n) stills) ≡ later_steps film place (take n stills) ++ step_shown (get_or stills n d) (beats_at film (place + n)) ∷ []
step_suc film place n [] d there = grind (arith, common_steps)
step_suc film place zero (still ∷ stills) d there =
    let here : place + 0 ≡ place = omega arith in
    rw here refl
step_suc film place (suc n) (still ∷ stills) d there =
    let next : (place + 1) + n ≡ place + suc n = omega arith in
    ap (λ xs. step_shown still (beats_at film place) ∷ xs)
    (step_suc film (place + 1) n stills d (omega (arith, there))
    ∙ ap (λ k. later_steps film (place + 1) (take n stills) ++ step_shown (get_or stills n d) (beats_at film k) ∷ []) next)

step_more : (film : Film) (place n : ℕ) (stills : List Still) (d : Still) → n < length stills
    → later_steps film place (take (n + 1) stills) ≡ later_steps film place (take n stills) ++ step_shown (get_or stills n d) (beats_at film (place + n)) ∷ []
step_more film place n stills d there =
    let next : n + 1 ≡ suc n = omega arith in
    subst (λ k. later_steps film place (take k stills) ≡ later_steps film place (take n stills) ++ step_shown (get_or stills n d) (beats_at film (place + n)) ∷ []) (sym next)
    (step_suc film place n stills d there)

pub steps_more : (film : Film) (n : ℕ) (stills : List Still) (d : Still) (old new : Grouped) (e : Drawn) → n < length stills
    → old ≡ steps_to film (take n stills) → e ≡ step_shown (get_or stills n d) (beats_at film (n + 1)) → new ≡ with_inside old e
    → new ≡ steps_to film (take (n + 1) stills)
steps_more film n stills d old new e there was is more =
    let place : 1 + n ≡ n + 1 = omega arith in
    let next = step_more film 1 n stills d there ∙ ap (λ k. later_steps film 1 (take n stills) ++ step_shown (get_or stills n d) (beats_at film k) ∷ []) place in
    more ∙ ap (λ g. with_inside g e) was ∙ ap (with_inside (steps_to film (take n stills))) is
    ∙ ap (λ xs. record { element = (steps_to film stills).element; inside = step_shown film.opening (beats_at film 0) ∷ xs }) (sym next)

-- all stills have theirs
pub steps_all : (film : Film) → steps_to film (take (length film.later) film.later) ≡ steps_shown film
steps_all film = ap (steps_to film) (take-length film.later)
