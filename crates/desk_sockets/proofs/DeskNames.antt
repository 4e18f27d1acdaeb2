-- The name of a desk's socket is read back.
use Rattle.std.proofs.Common.{◌≡◌, ◌↔◌, ℕ, ◌-◌, ◌<◌, true, List, ◌++◌, length, take, drop, Option}
use Rattle.std.proofs.Common.{Some, ap, sym, ◌∙◌, arith, codes}
use Rattle.std.specs.Str.{bytes_eq}
use Rattle.std.specs.Fmt.{decimal}
use Rattle.std.proofs.lemmas.List.{take-append-drop, append_cancel_right}
use Rattle.std.proofs.lemmas.Slice.Eq.{bytes_eq-Decides}
use Rattle.line_words.specs.Numbers.{number}
use Rattle.line_words.specs.Laws.{NumbersAreRead, NumbersHaveOneSpelling}
use Rattle.desk_sockets.specs.DeskSockets.{desk_name}

are-bytes : (w v : List ℕ) → bytes_eq w v ≡ true → w ≡ v
are-bytes w v e = grind (arith, bytes_eq-Decides w v)

-- a beginning, what a number is read from, and an end
parts : (name rest middle : List ℕ) → bytes_eq (take 5 name) (codes "desk-") ≡ true
    → rest ≡ drop 5 name
    → bytes_eq (drop (length rest - 5) rest) (codes ".sock") ≡ true
    → middle ≡ take (length rest - 5) rest
    → name ≡ codes "desk-" ++ (middle ++ codes ".sock")
parts name rest middle first rest_is last middle_is =
    let whole : middle ++ codes ".sock" ≡ rest =
    ap (λ bytes. bytes ++ codes ".sock") middle_is
    ∙ ap (λ bytes. take (length rest - 5) rest ++ bytes)
    (sym (are-bytes (drop (length rest - 5) rest) (codes ".sock") last))
    ∙ take-append-drop (length rest - 5) rest in
    let front : take 5 name ≡ codes "desk-" = are-bytes (take 5 name) (codes "desk-") first in
    sym (take-append-drop 5 name) ∙ ap (λ bytes. bytes ++ drop 5 name) front
    ∙ ap (λ bytes. codes "desk-" ++ bytes) (sym (whole ∙ rest_is))

pub of-name : NumbersAreRead → NumbersHaveOneSpelling → (name rest middle : List ℕ) (r : Option ℕ)
    → bytes_eq (take 5 name) (codes "desk-") ≡ true → rest ≡ drop 5 name
    → bytes_eq (drop (length rest - 5) rest) (codes ".sock") ≡ true
    → middle ≡ take (length rest - 5) rest → r ≡ number middle
    → (node : ℕ) → (r ≡ Some node) ↔ ((node < 65536) × (name ≡ desk_name node))
of-name read spelled name rest middle r first rest_is last middle_is r_is node = (forth, back)
  where
    is : name ≡ codes "desk-" ++ (middle ++ codes ".sock")
    is = parts name rest middle first rest_is last middle_is

    forth : r ≡ Some node → (node < 65536) × (name ≡ desk_name node)
    forth e =
        let (small, word_is) = spelled middle node (sym r_is ∙ e) in
        (small, is ∙ ap (λ word. codes "desk-" ++ (word ++ codes ".sock")) word_is)

    back : (node < 65536) × (name ≡ desk_name node) → r ≡ Some node
    back (small, named) =
        let same : middle ++ codes ".sock" ≡ decimal node ++ codes ".sock" = ap (drop 5) (sym is
        ∙ named) in
        r_is ∙ ap number (append_cancel_right middle (decimal node) (codes ".sock") same)
        ∙ read node small
