-- Lists of what was asked, and of numbers.
use Rattle.std.proofs.Common.{◌≡◌, ◌∙◌, ℕ, zero, suc, ◌+◌, List, [], ◌∷◌, ◌++◌, ◌<◌, set, get_or, refl, ap, arith, length}
use Rattle.std.specs.List.{range_with_len}
use Rattle.status_command.specs.declared.asking.Asked.{Asked}
use Rattle.std.specs.Prelude.{Bool, true, false, if◌then◌else◌, is_some}
use Rattle.status_readings.specs.declared.answers.NodeAnswer.{NodeAnswer}
use Rattle.status_command.specs.Asking.{nodes_in, nodes_of, answers_in}
use Rattle.status_command.specs.Windows.{filled_one, filled, standing_in}

count-on : (a n j : ℕ) → a + n ≡ j → range_with_len a (suc n) ≡ range_with_len a n ++ j ∷ []
count-on a zero j e = let same : a ≡ j = omega (arith, e) in ap (λ k. k ∷ []) same
count-on a (suc n) j e = ap (λ l. a ∷ l) (count-on (a + 1) n j (omega (arith, e)))

-- one number more
pub counted-on : (a n j : ℕ) → a + n ≡ j → range_with_len a (n + 1) ≡ range_with_len a n ++ j ∷ []
counted-on a n j e = let on : n + 1 ≡ suc n = omega arith in ap (range_with_len a) on ∙ count-on a n j e

-- the answers are those of the nodes that were asked
pub nodes-answer : (all : List Asked) → nodes_of (answers_in all) ≡ nodes_in all
nodes-answer [] = refl
nodes-answer (asked ∷ all) = ap (λ nodes. asked.node ∷ nodes) (nodes-answer all)

-- either of two answers of one node is that node's
either-node : (b : Bool) (x y : NodeAnswer) → y.node ≡ x.node → (if b then x else y).node ≡ x.node
either-node true x y same = refl
either-node false x y same = same

-- what a window says is of the same node
pub nodes-filled : (windows : List Asked) (answers : List NodeAnswer) → nodes_of (filled windows answers) ≡ nodes_of answers
nodes-filled windows [] = refl
nodes-filled windows (answer ∷ answers) =
    let here : (filled_one windows answer).node ≡ answer.node =
    either-node (is_some answer.line) answer (record { node = answer.node; line = standing_in answer.node windows }) refl
    in ap (λ node. node ∷ nodes_of (filled windows answers)) here ∙ ap (λ nodes. answer.node ∷ nodes) (nodes-filled windows answers)

-- a look at a node does not change which node it is
pub same-nodes : (all : List Asked) (i : ℕ) (old new : Asked) → i < length all → new.node ≡ (get_or all i old).node
    → nodes_in (set all i new) ≡ nodes_in all
same-nodes [] i old new within same = absurd (omega (arith, within))
same-nodes (asked ∷ all) zero old new within same = ap (λ node. node ∷ nodes_in all) same
same-nodes (asked ∷ all) (suc i) old new within same =
    ap (λ nodes. asked.node ∷ nodes) (same-nodes all i old new (omega (arith, within)) same)
