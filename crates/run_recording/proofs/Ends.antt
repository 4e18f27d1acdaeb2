-- What has settled at the ends of columns, with one more moment, and when every two columns become
-- one.
use Rattle.std.proofs.Common.{◌≡◌, ◌∙◌, ap, sym, refl, subst, ℕ, zero, suc, ◌+◌, ◌*◌, ◌/◌, ◌<◌, ◌≤◌, List, [], ◌∷◌, ◌++◌, length, append_assoc, arith}
use Rattle.std.proofs.lemmas.Grind.{common_steps}
use Rattle.world.specs.run_model.World.{World}
use Rattle.layers.specs.LayersOf.{AreLayersOf}
use Rattle.layers.specs.declared.whole.Layers.{Layers}
use Rattle.run_recording.specs.Laned.{AreEnds, left_after, seconds}
use Rattle.run_recording.specs.Laned.AreEnds.{Left, Full}

-- one moment more, which fills no column
pub ends_left : {width left : ℕ} {worlds : List World} {states : List Layers} (w : World) → left + 1 < width
    → AreEnds width left worlds states → AreEnds width (left + 1) (worlds ++ w ∷ []) states
ends_left w room (Left worlds are few) = Left (worlds ++ w ∷ []) (grind (arith, common_steps)) room
ends_left {width = width} {left = left} w room (Full before end layers {worlds = worlds} {states = states} is seen rest) =
    subst (λ ws. AreEnds width (left + 1) ws (layers ∷ states)) (sym (append_assoc before (end ∷ worlds) (w ∷ [])))
    (Full before end layers is seen (ends_left w room rest))

-- one moment more, which fills a column
pub ends_full : {width left : ℕ} {worlds : List World} {states : List Layers} (w : World) (now : Layers) → left + 1 ≡ width
    → AreLayersOf w now → AreEnds width left worlds states → AreEnds width 0 (worlds ++ w ∷ []) (states ++ now ∷ [])
ends_full w now full seen (Left worlds are few) =
    Full worlds w now (grind (arith, common_steps)) seen (Left [] refl (omega (arith, full)))
ends_full {width = width} w now full seen (Full before end layers {worlds = worlds} {states = states} is was rest) =
    subst (λ ws. AreEnds width 0 ws (layers ∷ (states ++ now ∷ []))) (sym (append_assoc before (end ∷ worlds) (w ∷ [])))
    (Full before end layers is was (ends_full w now full seen rest))

-- two columns more leave the same number of moments over
left_less : (columns width : ℕ) → left_after (suc (suc columns)) width ≡ left_after columns width
left_less columns width = grind (arith, common_steps)

-- the same moments, when every two columns become one
pub ends_paired : {width : ℕ} {worlds : List World} {states : List Layers} → 0 < width → AreEnds width 0 worlds states
    → AreEnds (width + width) (left_after (length states) width) worlds (seconds states)
ends_paired some (Left worlds are few) = Left worlds are (omega (arith, some))
ends_paired {width = width} some (Full before end layers is seen (Left worlds none few)) =
    Left (before ++ end ∷ worlds) (grind (arith, common_steps)) (omega (arith, some))
ends_paired {width = width} some (Full before end layers is seen (Full next last now {worlds = worlds} {states = states} long was rest)) =
    let both : suc (length (before ++ end ∷ next)) ≡ width + width = grind (arith, common_steps) in
    subst (λ left. AreEnds (width + width) left (before ++ end ∷ (next ++ last ∷ worlds)) (now ∷ seconds states)) (sym (left_less (length states) width))
    (subst (λ ws. AreEnds (width + width) (left_after (length states) width) ws (now ∷ seconds states)) (append_assoc before (end ∷ next) (last ∷ worlds))
    (Full (before ++ end ∷ next) last now both was (ends_paired some rest)))

-- ---- their numbers

-- at most `width` moments are left over
pub left_few : (columns width : ℕ) → left_after columns width ≤ width
left_few columns width = grind (arith, common_steps)

-- the moments of half as many columns of twice the width, and those that are left over, are all
-- moments
pub all_paired : (columns width : ℕ) → columns / 2 * (width + width) + left_after columns width ≡ columns * width
all_paired zero width = grind (arith, common_steps)
all_paired (suc zero) width = grind (arith, common_steps)
all_paired (suc (suc columns)) width =
    let half : suc (suc columns) / 2 ≡ suc (columns / 2) = omega arith in
    let rest = all_paired columns width in
    rw (half, left_less columns width) (omega (arith, rest))

-- a column shows no more moments than there are
pub width_few : (columns width : ℕ) → 0 < columns → width ≤ columns * width
width_few zero width some = absurd (omega (arith, some))
width_few (suc columns) width some = omega arith
