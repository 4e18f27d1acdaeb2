-- The ports of a file, one after the other.
use Rattle.std.proofs.Common.{◌≡◌, ◌+◌, ◌*◌, ◌∙◌, ap, refl, arith, ℕ, zero, suc, List, [], ◌∷◌, ◌++◌, drop, drop-drop}
use Rattle.node_state_file.specs.Reading.{port_in, ports_in}

pub one_more : (count : ℕ) (bytes : List ℕ) → ports_in (suc count) bytes ≡ ports_in count bytes ++ port_in (drop (20 * count) bytes) ∷ []
one_more zero bytes = refl
one_more (suc count) bytes =
    let at : drop (20 * count) (drop 20 bytes) ≡ drop (20 * suc count) bytes = drop-drop (20 * count) 20 bytes ∙ ap (λ k. drop k bytes) {x = 20 + 20 * count} {y = 20 * suc count} (omega arith) in
    ap (λ ps. port_in bytes ∷ ps) (one_more count (drop 20 bytes) ∙ ap (λ bs. ports_in count (drop 20 bytes) ++ port_in bs ∷ []) at)
