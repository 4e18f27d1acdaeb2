-- Parts are added one over the other.
use Rattle.std.proofs.Common.{◌≡◌, ◌∙◌, ap, List, [], ◌∷◌, ◌++◌, Result, Ok, Err, OnOk, append_assoc}
use Rattle.run_picture.specs.Added.{Adds}
use Rattle.svg_drawing.specs.Drawn.{Shown}

-- what is added, where it is what is said
pub added_as : {T E : Type 0} (Are : List Shown → Type 0) (result : Result T E) (old new more : List Shown) → Are more
    → OnOk result (new ≡ old ++ more) → OnOk result (Adds Are old new)
added_as Are (Ok value) old new more are added = (more, are, added)
added_as Are (Err fault) old new more are added = added

-- two parts
pub two_parts : {T E : Type 0} (result : Result T E) (old now new first last : List Shown) → now ≡ old ++ first
    → OnOk result (new ≡ now ++ last) → OnOk result (new ≡ old ++ (first ++ last))
two_parts (Ok value) old now new first last is added = added ∙ ap (λ xs. xs ++ last) is ∙ append_assoc old first last
two_parts (Err fault) old now new first last is added = added

-- three parts
pub three_parts : {T E : Type 0} (result : Result T E) (old one two new a b c : List Shown) → one ≡ old ++ a → two ≡ one ++ b
    → OnOk result (new ≡ two ++ c) → OnOk result (new ≡ old ++ (a ++ (b ++ c)))
three_parts (Ok value) old one two new a b c is_one is_two added =
    added ∙ ap (λ xs. xs ++ c) (is_two ∙ ap (λ xs. xs ++ b) is_one) ∙ append_assoc (old ++ a) b c ∙ append_assoc old a (b ++ c)
three_parts (Err fault) old one two new a b c is_one is_two added = added

-- four parts
pub four_parts : {T E : Type 0} (result : Result T E) (old one two three new a b c d : List Shown) → one ≡ old ++ a → two ≡ one ++ b → three ≡ two ++ c
    → OnOk result (new ≡ three ++ d) → OnOk result (new ≡ old ++ (a ++ (b ++ (c ++ d))))
four_parts (Ok value) old one two three new a b c d is_one is_two is_three added =
    added ∙ ap (λ xs. xs ++ d) (is_three ∙ ap (λ xs. xs ++ c) (is_two ∙ ap (λ xs. xs ++ b) is_one))
    ∙ append_assoc ((old ++ a) ++ b) c d ∙ append_assoc (old ++ a) b (c ++ d) ∙ append_assoc old a (b ++ (c ++ d))
four_parts (Err fault) old one two three new a b c d is_one is_two is_three added = added

-- five parts in either grouping, of which two are one element each
grouped : (old a d e : List Shown) (b c : Shown)
    → ((((old ++ a) ++ (b ∷ [])) ++ (c ∷ [])) ++ d) ++ e ≡ old ++ (a ++ (b ∷ (c ∷ (d ++ e))))
grouped old a d e b c =
    append_assoc (((old ++ a) ++ (b ∷ [])) ++ (c ∷ [])) d e
    ∙ append_assoc ((old ++ a) ++ (b ∷ [])) (c ∷ []) (d ++ e)
    ∙ append_assoc (old ++ a) (b ∷ []) (c ∷ (d ++ e))
    ∙ append_assoc old a (b ∷ (c ∷ (d ++ e)))

-- the last of five such parts
pub five_parts : {T E : Type 0} (result : Result T E) (old one two three four new a d e : List Shown) (b c : Shown) → one ≡ old ++ a
    → two ≡ one ++ b ∷ [] → three ≡ two ++ c ∷ [] → four ≡ three ++ d → OnOk result (new ≡ four ++ e)
    → OnOk result (new ≡ old ++ (a ++ (b ∷ (c ∷ (d ++ e)))))
five_parts (Ok value) old one two three four new a d e b c is_one is_two is_three is_four added =
    added
    ∙ ap (λ xs. xs ++ e) (is_four ∙ ap (λ xs. xs ++ d) (is_three ∙ ap (λ xs. xs ++ c ∷ []) (is_two ∙ ap (λ xs. xs ++ b ∷ []) is_one)))
    ∙ grouped old a d e b c
five_parts (Err fault) old one two three four new a d e b c is_one is_two is_three is_four added = added
