-- Words that are added to a command one after the other.
use Rattle.std.proofs.Common.{◌≡◌, ◌∙◌, ap, append_assoc, ◌++◌, List, OnOk, Result, Ok, Err}

-- words after words that were added before
pub both : {A : Type 0} (new middle old xs ys : List A)
    → new ≡ middle ++ ys → middle ≡ old ++ xs → new ≡ old ++ (xs ++ ys)
both new middle old xs ys last first =
    last ∙ ap (λ words. words ++ ys) first ∙ append_assoc old xs ys

-- the same if the last call may have failed
pub added : {T E A : Type 0} (r : Result T E) (new middle old xs ys : List A)
    → OnOk r (new ≡ middle ++ ys) → middle ≡ old ++ xs → OnOk r (new ≡ old ++ (xs ++ ys))
added (Ok x) new middle old xs ys last first = both new middle old xs ys last first
added (Err e) new middle old xs ys last first = last
