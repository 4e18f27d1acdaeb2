use Rattle.std.proofs.Common.{◌≡◌, ◌++◌, ℕ, List, Result, Ok, Err, OnOk, append_assoc}
use Rattle.node_texts.proofs.look.push_look.Goals as goal

-- four pieces that were added one after the other were added as one
joined : {T E : Type 0} (r : Result T E) (old one two three new a b c d : List ℕ) → one ≡ old ++ a
    → two ≡ one ++ b → three ≡ two ++ c → OnOk r (new ≡ three ++ d)
    → OnOk r (new ≡ old ++ (a ++ (b ++ (c ++ d))))
joined (Ok _) old one two three new a b c d e f g h = rw (h, g, f, e) (simp append_assoc)
joined (Err _) old one two three new a b c d e f g h = h

pub returns : goal.returns
returns c = joined _ _ _ _ _ _ _ _ _ _ c.in_ok-push_status.ensures c.in_ok-push_links.ensures c.in_ok-push_rest.ensures
    c.push_rounds.ensures
