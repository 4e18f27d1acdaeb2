-- Parts are added one over the other.
use Rattle.std.proofs.Common.{◌≡◌, ◌∙◌, ap, List, ◌++◌, Result, Ok, Err, OnOk, append_assoc}

-- three parts
pub three_parts : {X T E : Type 0} (result : Result T E) (old one two new a b c : List X) → one ≡ old ++ a → two ≡ one ++ b
    → OnOk result (new ≡ two ++ c) → OnOk result (new ≡ old ++ (a ++ (b ++ c)))
three_parts (Ok value) old one two new a b c is_one is_two added =
    added ∙ ap (λ xs. xs ++ c) (is_two ∙ ap (λ xs. xs ++ b) is_one) ∙ append_assoc (old ++ a) b c ∙ append_assoc old a (b ++ c)
three_parts (Err fault) old one two new a b c is_one is_two added = added

-- two parts
pub two_parts : {X T E : Type 0} (result : Result T E) (old one new a b : List X) → one ≡ old ++ a
    → OnOk result (new ≡ one ++ b) → OnOk result (new ≡ old ++ (a ++ b))
two_parts (Ok value) old one new a b is_one added = added ∙ ap (λ xs. xs ++ b) is_one ∙ append_assoc old a b
two_parts (Err fault) old one new a b is_one added = added

-- four parts
pub four_parts : {X T E : Type 0} (result : Result T E) (old one two three new a b c d : List X) → one ≡ old ++ a → two ≡ one ++ b
    → three ≡ two ++ c → OnOk result (new ≡ three ++ d) → OnOk result (new ≡ old ++ (a ++ (b ++ (c ++ d))))
four_parts result old one two three new a b c d is_one is_two is_three added =
    two_parts result old one new a (b ++ (c ++ d)) is_one (three_parts result one two three new b c d is_two is_three added)

-- five parts
pub five_parts : {X T E : Type 0} (result : Result T E) (old one two three four new a b c d e : List X) → one ≡ old ++ a → two ≡ one ++ b
    → three ≡ two ++ c → four ≡ three ++ d → OnOk result (new ≡ four ++ e) → OnOk result (new ≡ old ++ (a ++ (b ++ (c ++ (d ++ e)))))
five_parts result old one two three four new a b c d e is_one is_two is_three is_four added =
    two_parts result old one new a (b ++ (c ++ (d ++ e))) is_one
    (four_parts result one two three four new b c d e is_two is_three is_four added)
