-- A curve goes on, column by column.
use Rattle.std.proofs.Common.{◌≡◌, ◌+◌, ◌∙◌, ap, sym, ℕ, List, [], ◌∷◌, ◌++◌, length, take, map, append_assoc, codes, decimal, Result, Ok, Err, OnOk}
use Rattle.std.proofs.lemmas.List.{append-nil}
use Rattle.run_recording.specs.declared.column.Column.{Column}
use Rattle.run_picture.specs.declared.layout.page.Page.{Page}
use Rattle.std.specs.List.{flat_map}
use Rattle.run_picture.specs.declared.layout.curves.Curve.TheVariants.{Privileged, Lending}
use Rattle.svg_drawing.specs.Drawn.{Shown, path_shown}
use Rattle.svg_drawing.specs.Lengths.{px}
use Rattle.run_picture.specs.Page.{ground_of, level_of}
use Rattle.run_picture.specs.Curves.{first_count, step_in, steps_from, curve_steps, most_nodes, count_in, node_height, privileged_pen, lending_pen, both_curves}
use Rattle.run_picture.proofs.Over.{over_all_of}
use Rattle.run_picture.specs.Curves.{curves_shown, level_shown, names_shown, levels_shown}

-- five texts, in either grouping
five_texts : (a b c d e : List ℕ) → a ++ (b ++ (c ++ d)) ++ e ≡ a ++ (b ++ (c ++ (d ++ e)))
five_texts a b c d e = append_assoc a (b ++ (c ++ d)) e ∙ ap (λ xs. a ++ xs) (append_assoc b (c ++ d) e ∙ ap (λ xs. b ++ xs) (append_assoc c d e))

-- after the last column the curve is whole
pub curve_done : (page : Page) (node : ℕ) (f : Column → ℕ) (columns : List Column) (place : ℕ) (start text : List ℕ) → length columns ≡ place
    → start ≡ codes "M" ++ (decimal page.left.0 ++ (codes " " ++ decimal (level_of page node (first_count (map f columns)))))
    → text ≡ start ++ steps_from page node 0 (take place (map f columns)) → text ≡ curve_steps page node (map f columns)
curve_done page node f columns place start text all begins is =
    let steps = steps_from page node 0 (map f columns) in
    over_all_of (step_in page node) f columns place start text all is ∙ ap (λ xs. xs ++ steps) begins
    ∙ five_texts (codes "M") (decimal page.left.0) (codes " ") (decimal (level_of page node (first_count (map f columns)))) steps

-- ---- what is drawn

-- both curves are drawn
pub both_drawn : {T E : Type 0} (result : Result T E) (page : Page) (columns : List Column) (node : ℕ) (first second : List ℕ) (old one new : List Shown)
    → node ≡ node_height (most_nodes columns) → first ≡ curve_steps page node (map (count_in Privileged) columns)
    → second ≡ curve_steps page node (map (count_in Lending) columns) → one ≡ old ++ path_shown first privileged_pen ∷ []
    → OnOk result (new ≡ one ++ path_shown second lending_pen ∷ []) → OnOk result (new ≡ old ++ curves_shown page columns)
both_drawn (Ok value) page columns node first second old one new high is_first is_second is_one added =
    added ∙ ap (λ xs. xs ++ path_shown second lending_pen ∷ []) is_one
    ∙ append_assoc old (path_shown first privileged_pen ∷ []) (path_shown second lending_pen ∷ [])
    ∙ ap (λ s. old ++ (path_shown s privileged_pen ∷ path_shown second lending_pen ∷ [])) is_first
    ∙ ap (λ s. old ++ (path_shown (curve_steps page node (map (count_in Privileged) columns)) privileged_pen ∷ path_shown s lending_pen ∷ [])) is_second
    ∙ ap (λ n. old ++ both_curves page n columns) high
both_drawn (Err fault) page columns node first second old one new high is_first is_second is_one added = added

-- four parts, of which three are one part
grouped : (old a b c d : List Shown) → (((old ++ a) ++ b) ++ c) ++ d ≡ old ++ ((a ++ (b ++ (c ++ []))) ++ d)
grouped old a b c d =
    append_assoc ((old ++ a) ++ b) c d ∙ append_assoc (old ++ a) b (c ++ d) ∙ append_assoc old a (b ++ (c ++ d))
    ∙ ap (λ xs. old ++ xs)
    (sym (append_assoc a (b ++ (c ++ [])) d ∙ ap (λ xs. a ++ xs) (append_assoc b (c ++ []) d ∙ ap (λ xs. b ++ (xs ++ d)) (append-nil c))))

-- the lines at no node, at 1 and at the most are drawn, and then the names
pub levels_drawn : {T E : Type 0} (result : Result T E) (page : Page) (columns : List Column) (node most y : ℕ) (old one two three new : List Shown)
    → most ≡ most_nodes columns → node ≡ node_height most → y ≡ px (ground_of page + 48) → one ≡ old ++ level_shown page node 0
    → two ≡ one ++ level_shown page node 1 → three ≡ two ++ level_shown page node most → OnOk result (new ≡ three ++ names_shown page y)
    → OnOk result (new ≡ old ++ levels_shown page columns)
levels_drawn (Ok value) page columns node most y old one two three new is_most high below is_one is_two is_three added =
    let names = names_shown page y in
    added
    ∙ ap (λ xs. xs ++ names) (is_three ∙ ap (λ xs. xs ++ level_shown page node most) (is_two ∙ ap (λ xs. xs ++ level_shown page node 1) is_one))
    ∙ grouped old (level_shown page node 0) (level_shown page node 1) (level_shown page node most) names
    ∙ ap (λ m. old ++ (flat_map (level_shown page node) (0 ∷ 1 ∷ m ∷ []) ++ names)) is_most
    ∙ ap (λ n. old ++ (flat_map (level_shown page n) (0 ∷ 1 ∷ most_nodes columns ∷ []) ++ names)) (high ∙ ap node_height is_most)
    ∙ ap (λ k. old ++ (flat_map (level_shown page (node_height (most_nodes columns))) (0 ∷ 1 ∷ most_nodes columns ∷ []) ++ names_shown page k)) below
levels_drawn (Err fault) page columns node most y old one two three new is_most high below is_one is_two is_three added = added
