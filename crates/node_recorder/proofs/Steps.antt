-- One more of a list, in a loop over it.
use Rattle.std.proofs.Common.{◌≡◌, ◌∙◌, ◌+◌, ◌<◌, ℕ, List, [], ◌∷◌, ◌++◌, ap, append_assoc, get_or, length, sym, take}
use Rattle.std.specs.Prelude.{fold, replicate}
use Rattle.std.proofs.lemmas.List.{replicate-append-replicate, take_more}
use Rattle.std.proofs.lemmas.List.Sums.{fold_more}

-- one more is noted
pub noted-next : {X V : Type 0} (f : X → V → X) (a r x : X) (vs : List V) (i : ℕ) (d : V) → i < length vs
    → r ≡ fold f a (take i vs) → x ≡ f r (get_or vs i d) → x ≡ fold f a (take (i + 1) vs)
noted-next f a r x vs i d there before after = after ∙ ap (λ z. f z (get_or vs i d)) before ∙ sym (fold_more f a vs i d there)

-- one more is pushed: of a list, or of one and the same
pub pushed-next : {V : Type 0} (first xs ys vs : List V) (i : ℕ) (d : V) → i < length vs
    → xs ≡ first ++ take i vs → ys ≡ xs ++ (get_or vs i d ∷ []) → ys ≡ first ++ take (i + 1) vs
pushed-next first xs ys vs i d there before after =
    after ∙ ap (λ l. l ++ (get_or vs i d ∷ [])) before ∙ append_assoc first (take i vs) (get_or vs i d ∷ []) ∙ ap (λ l. first ++ l) (sym (take_more vs i d there))

pub pushed-same : {V : Type 0} (first xs ys : List V) (i : ℕ) (v : V)
    → xs ≡ first ++ replicate i v → ys ≡ xs ++ (v ∷ []) → ys ≡ first ++ replicate (i + 1) v
pushed-same first xs ys i v before after =
    after ∙ ap (λ l. l ++ (v ∷ [])) before ∙ append_assoc first (replicate i v) (v ∷ [])
    ∙ ap (λ l. first ++ l) (replicate-append-replicate i 1 v)
