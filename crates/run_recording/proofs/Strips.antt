-- Columns with one more moment, and with the same moments when every two become one.
use Rattle.std.proofs.Common.{◌≡◌, ◌∙◌, ap, sym, refl, subst, ℕ, suc, ◌+◌, ◌≤◌, ◌<◌, ◌==◌, Bool, true, false, List, [], ◌∷◌, ◌++◌, length, take, drop, append_assoc, arith}
use Rattle.std.proofs.lemmas.Grind.{common_steps}
use Rattle.std.proofs.lemmas.List.{append-nil}
use Rattle.run_recording.specs.declared.column.Column.{Column}
use Rattle.run_recording.specs.Columns.{worse_column, worst, folded, is_even, with_last, last_folded}
use Rattle.run_recording.specs.Strips.{AreShown}
use Rattle.run_recording.specs.Strips.AreShown.{None, Last, Further}
use Rattle.run_recording.proofs.Columns.{worst_both}

-- there are columns exactly if there are moments
pub as_empty : (width last : ℕ) (moments columns : List Column) → AreShown width last moments columns → (length columns == 0) ≡ (length moments == 0)
as_empty width last moments columns None = refl
as_empty width last moments columns (Last first later is few) = grind (arith, common_steps)
as_empty width last moments columns (Further first later is rest) = grind (arith, common_steps)

-- one more moment, if all columns are full
pub shown_new : (width : ℕ) (last : ℕ) (moments columns : List Column) (moment : Column) → 0 < width → last ≡ width
    → AreShown width last moments columns → AreShown width 1 (moments ++ moment ∷ []) (columns ++ moment ∷ [])
shown_new width last moments columns moment some full None = Last moment [] refl (omega (arith, some))
shown_new width last moments columns moment some full (Last first later is few) =
    Further first later (is ∙ full) (Last moment [] refl (omega (arith, some)))
shown_new width last moments columns moment some full (Further first later {moments = others} {columns = columns_after} is rest) =
    subst (λ ms. AreShown width 1 (first ∷ ms) (worst first later ∷ (columns_after ++ moment ∷ []))) (sym (append_assoc later others (moment ∷ [])))
    (Further first later is (shown_new width last others columns_after moment some full rest))

-- one more moment, if the last column has room for it
pub shown_last : (width : ℕ) (last : ℕ) (moments columns : List Column) (moment : Column) → last < width
    → AreShown width last moments columns → AreShown width (last + 1) (moments ++ moment ∷ []) (with_last columns moment)
shown_last width last moments columns moment room None = grind (arith, common_steps)
shown_last width last moments columns moment room (Last first later is few) =
    let long : suc (length (later ++ moment ∷ [])) ≡ last + 1 = grind (arith, common_steps) in
    subst (λ c. AreShown width (last + 1) (first ∷ (later ++ moment ∷ [])) (c ∷ [])) (worst_both first later moment [])
    (Last first (later ++ moment ∷ []) long (omega (arith, room)))
shown_last width last moments columns moment room (Further first later is None) = grind (arith, common_steps)
shown_last width last moments columns moment room (Further first later is (Last next more long few)) =
    subst (λ ms. AreShown width (last + 1) (first ∷ ms) (worst first later ∷ worse_column (worst next more) moment ∷ []))
    (sym (append_assoc later (next ∷ more) (moment ∷ [])))
    (Further first later is (shown_last width last (next ∷ more) (worst next more ∷ []) moment room (Last next more long few)))
shown_last width last moments columns moment room
    (Further first later is (Further next more {moments = others} {columns = columns_after} long rest)) =
    subst (λ ms. AreShown width (last + 1) (first ∷ ms) (worst first later ∷ with_last (worst next more ∷ columns_after) moment))
    (sym (append_assoc later (next ∷ (more ++ others)) (moment ∷ [])))
    (Further first later is
    (shown_last width last (next ∷ (more ++ others)) (worst next more ∷ columns_after) moment room (Further next more long rest)))

-- the same moments, when every two columns become one
pub shown_folded : (width : ℕ) (last : ℕ) (moments columns : List Column) → 0 < width
    → AreShown width last moments columns → AreShown (width + width) (last_folded (is_even columns) width last) moments (folded columns)
shown_folded width last moments columns some None = None
shown_folded width last moments columns some (Last first later is few) =
    Last first later is (omega (arith, few))
shown_folded width last moments columns some (Further first later is None) =
    subst (λ ms. AreShown (width + width) width (first ∷ ms) (worst first later ∷ [])) (sym (append-nil later))
    (Last first later is (omega arith))
shown_folded width last moments columns some (Further first later is (Last next more long few)) =
    let both : suc (length (later ++ next ∷ more)) ≡ last + width = grind (arith, common_steps) in
    subst (λ c. AreShown (width + width) (last + width) (first ∷ (later ++ next ∷ more)) (c ∷ [])) (worst_both first later next more)
    (Last first (later ++ next ∷ more) both (omega (arith, few)))
shown_folded width last moments columns some
    (Further first later is (Further next more {moments = others} {columns = columns_after} long rest)) =
    let both : suc (length (later ++ next ∷ more)) ≡ width + width = grind (arith, common_steps) in
    subst (λ c. AreShown (width + width) (last_folded (is_even columns_after) width last) (first ∷ (later ++ next ∷ (more ++ others))) (c ∷ folded columns_after)) (worst_both first later next more)
    (subst (λ ms. AreShown (width + width) (last_folded (is_even columns_after) width last) (first ∷ ms) (worst first (later ++ next ∷ more) ∷ folded columns_after))
    (append_assoc later (next ∷ more) others)
    (Further first (later ++ next ∷ more) both (shown_folded width last others columns_after some rest)))

-- there are at least as many moments as the last column shows
pub last_few : (width : ℕ) (last : ℕ) (moments columns : List Column) → 0 < length columns
    → AreShown width last moments columns → last ≤ length moments
last_few width last moments columns some None = grind (arith, common_steps)
last_few width last moments columns some (Last first later is few) = omega (arith, is)
last_few width last moments columns some (Further first later is None) = grind (arith, common_steps)
last_few width last moments columns some (Further first later is (Last next more long few)) = grind (arith, common_steps)
last_few width last moments columns some
    (Further first later is (Further next more {moments = others} {columns = columns_after} long rest)) =
    let fewer = last_few width last (next ∷ (more ++ others)) (worst next more ∷ columns_after) (omega arith) (Further next more long rest) in
    grind (arith, common_steps)

-- the last column shows at most as many moments as the others
pub last_within : (width : ℕ) (last : ℕ) (moments columns : List Column) → AreShown width last moments columns → last ≤ width
last_within width last moments columns None = omega arith
last_within width last moments columns (Last first later is few) = few
last_within width last moments columns (Further first later {moments = others} {columns = columns_after} is rest) = last_within width last others columns_after rest

-- columns folded in pairs are no more
pub folded_few : (columns : List Column) → length (folded columns) ≤ length columns
folded_few [] = omega arith
folded_few (a ∷ []) = omega arith
folded_few (a ∷ b ∷ columns) = let fewer = folded_few columns in grind (arith, common_steps)

pub folded_fewer : (columns : List Column) → 0 < length columns → is_even columns ≡ true → length (folded columns) < length columns
folded_fewer [] some even = grind (arith, common_steps)
folded_fewer (a ∷ []) some even = grind (arith, common_steps)
folded_fewer (a ∷ b ∷ columns) some even = let fewer = folded_few columns in grind (arith, common_steps)

-- writing the last column keeps their number
pub with_last-length : (columns : List Column) (moment : Column) → length (with_last columns moment) ≡ length columns
with_last-length [] moment = refl
with_last-length (a ∷ []) moment = refl
with_last-length (a ∷ b ∷ columns) moment = ap suc (with_last-length (b ∷ columns) moment)

-- a slice of all columns, written, replaces them
pub written_back : (columns now : List Column) (count : ℕ) (moment : Column) → count ≡ length columns → now ≡ with_last columns moment
    → take count (now ++ drop (length now) columns) ≡ with_last columns moment
written_back columns now count moment all is =
    let same : length now ≡ length columns = ap length is ∙ with_last-length columns moment in
    grind (arith, common_steps)

-- if there are columns, those folded in pairs are no more, and fewer if the number of columns is
-- even
pub folded_room : (columns : List Column) → 0 < length columns
    → (length (folded columns) ≤ length columns) × (is_even columns ≡ true → length (folded columns) < length columns)
folded_room columns some = (folded_few columns, folded_fewer columns some)

-- after a fold, the last column is full only if the number of columns was even
even_where_full : (even : Bool) (width last : ℕ) → 0 < width → last ≡ width → last_folded even width last ≡ width + width → even ≡ true
even_where_full true width last some full is = refl
even_where_full false width last some full is = grind (arith, common_steps)

-- if the last column is full after a fold, there is room for one more column
pub full_room : (columns : List Column) (width last : ℕ) → 0 < width → last ≡ width → 0 < length columns
    → last_folded (is_even columns) width last ≡ width + width → length (folded columns) < length columns
full_room columns width last some full there is = folded_fewer columns there (even_where_full (is_even columns) width last some full is)
