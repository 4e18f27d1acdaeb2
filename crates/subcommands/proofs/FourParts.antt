-- A text that grows in four parts.
use Rattle.std.proofs.Common.{◌≡◌, ◌∙◌, ap, ℕ, List, ◌++◌, Result, Ok, Err, OnOk, append_assoc}

pub four-parts : {T E : Type 0} (r : Result T E) (start one two three four a b c d : List ℕ) → one ≡ start ++ a → two ≡ one ++ b → three ≡ two ++ c
    → OnOk r (four ≡ three ++ d) → OnOk r (four ≡ start ++ (a ++ (b ++ (c ++ d))))
four-parts (Ok x) start one two three four a b c d p q r s =
    s ∙ ap (λ xs. xs ++ d) (r ∙ ap (λ xs. xs ++ c) (q ∙ ap (λ xs. xs ++ b) p)) ∙ append_assoc (start ++ a ++ b) c d ∙ append_assoc (start ++ a) b (c ++ d)
    ∙ append_assoc start a (b ++ (c ++ d))
four-parts (Err e) start one two three four a b c d p q r s = tt
