-- What a node writes of itself is the text of a status line.
use Rattle.std.proofs.Common.{◌≡◌, ℕ, Bool, true, false, List, ◌++◌, length, Option, Some, None}
use Rattle.std.proofs.Common.{refl}
use Rattle.std.proofs.Common.{ap, ◌∙◌, codes}
use Rattle.std.specs.Fmt.{decimal}
use Rattle.std.proofs.lemmas.List.{append_assoc}
use Rattle.node_core.specs.Site.{Site}
use Rattle.node_core.specs.State.{LocalState}
use Rattle.node_core.specs.Machines.{is_node_privileged}
use Rattle.node_core.specs.Status.{status_line, number_or_none, yes_or_no}
use Rattle.node_texts.specs.StatusText.{status_text, or_none_text, yes_or_no_text}
use Rattle.look_window.specs.NodeStatus.{line_of}

same-number : (o : Option ℕ) → number_or_none o ≡ or_none_text o
same-number None = refl
same-number (Some n) = refl

same-word : (b : Bool) → yes_or_no b ≡ yes_or_no_text b
same-word true = refl
same-word false = refl

-- twelve texts joined from the left are joined from the right
joined : (a b c d e f g h i j k l : List ℕ)
    → a ++ b ++ c ++ d ++ e ++ f ++ g ++ h ++ i ++ j ++ k ++ l
    ≡ a ++ (b ++ (c ++ (d ++ (e ++ (f ++ (g ++ (h ++ (i ++ (j ++ (k ++ l))))))))))
joined a b c d e f g h i j k l =
    append_assoc (a ++ b ++ c ++ d ++ e ++ f ++ g ++ h ++ i ++ j) k l
    ∙ append_assoc (a ++ b ++ c ++ d ++ e ++ f ++ g ++ h ++ i) j (k ++ l)
    ∙ append_assoc (a ++ b ++ c ++ d ++ e ++ f ++ g ++ h) i (j ++ (k ++ l))
    ∙ append_assoc (a ++ b ++ c ++ d ++ e ++ f ++ g) h (i ++ (j ++ (k ++ l)))
    ∙ append_assoc (a ++ b ++ c ++ d ++ e ++ f) g (h ++ (i ++ (j ++ (k ++ l))))
    ∙ append_assoc (a ++ b ++ c ++ d ++ e) f (g ++ (h ++ (i ++ (j ++ (k ++ l)))))
    ∙ append_assoc (a ++ b ++ c ++ d) e (f ++ (g ++ (h ++ (i ++ (j ++ (k ++ l))))))
    ∙ append_assoc (a ++ b ++ c) d (e ++ (f ++ (g ++ (h ++ (i ++ (j ++ (k ++ l)))))))
    ∙ append_assoc (a ++ b) c (d ++ (e ++ (f ++ (g ++ (h ++ (i ++ (j ++ (k ++ l))))))))
    ∙ append_assoc a b (c ++ (d ++ (e ++ (f ++ (g ++ (h ++ (i ++ (j ++ (k ++ l)))))))))

pub node-writes : (site : Site) (s : LocalState)
    → status_line site s ≡ status_text (line_of site s) ++ codes "\n"
node-writes site s =
    rw (same-number s.parent, same-number s.desk.lent, same-word (is_node_privileged site s))
    (ap (λ line. line ++ codes "\n") (joined (codes "node ") (decimal site.id)
    (codes " distance ") (decimal s.distance) (codes " parent ") (or_none_text s.parent)
    (codes " token ") (yes_or_no_text (is_node_privileged site s)) (codes " lent ")
    (or_none_text s.desk.lent) (codes " waiting ") (decimal (length s.desk.waiting))))
