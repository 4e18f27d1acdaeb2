-- What is answered to clients, one line after the other.
use Rattle.std.proofs.Common.{◌≡◌, ℕ, List, ◌∷◌, ◌++◌, refl, ap, ◌∙◌, append_assoc, []}
use Rattle.lock_desk.specs.declared.client_line.ClientLine.{ClientLine}
use Rattle.node_core.specs.Site.{Site}
use Rattle.node_core.specs.State.{LocalState}
use Rattle.node_service.specs.Answers.{answer_text}
use Rattle.node_service.specs.Serving.{answers_to}

-- answers to some lines, and then to others
pub answers-join : (site : Site) (t : ℕ) (xs ys : List (ClientLine × LocalState)) → answers_to site t xs ++ answers_to site t ys ≡ answers_to site t (xs ++ ys)
answers-join site t [] ys = refl
answers-join site t (x ∷ xs) ys =
    append_assoc (answer_text site t x.0 x.1) (answers_to site t xs) (answers_to site t ys) ∙ ap (λ text. answer_text site t x.0 x.1 ++ text) (answers-join site t xs ys)
