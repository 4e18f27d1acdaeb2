use Rattle.std.proofs.Common.{rules, ◌≡◌, ◌-◌, ◌∷◌, length, take, drop}
use Rattle.events_text.proofs.UsualLines.{five_bytes, send_line, take_line, tick_line}
use Rattle.events_text.proofs.usual.usual_line.Goals as goal

pub returns-in_ok-to-in-115 : goal.returns-in_ok-to-in-115
returns-in_ok-to-in-115 c =
    let text = c.args.text.now in
    let is : text ≡ 115 ∷ 101 ∷ 110 ∷ 100 ∷ 32 ∷ take (length text - 5) (drop 5 text) =
    five_bytes text 115 101 110 100 32 (search rules) (search rules) (search rules) (search rules) (search rules) (search rules) in
    send_line c.one_spelling.ensures.numbers_read c.in_ok-from-in-115.from c.in_ok-to-in-115.to text (take (length text - 5) (drop 5 text)) c.in_ok-from-in-115.ids.now
    c.in_ok-to-in-115.rest.now c.in_ok-from-in-115.ensures.0 c.in_ok-to-in-115.ensures.0 is c.in_ok-from-in-115.ensures.1 c.in_ok-to-in-115.ensures.1

pub returns-in_ok-to-in-116 : goal.returns-in_ok-to-in-116
returns-in_ok-to-in-116 c =
    let text = c.args.text.now in
    let is : text ≡ 116 ∷ 97 ∷ 107 ∷ 101 ∷ 32 ∷ take (length text - 5) (drop 5 text) =
    five_bytes text 116 97 107 101 32 (search rules) (search rules) (search rules) (search rules) (search rules) (search rules) in
    take_line c.one_spelling.ensures.numbers_read c.in_ok-from-in-116.from c.in_ok-to-in-116.to text (take (length text - 5) (drop 5 text)) c.in_ok-from-in-116.ids.now
    c.in_ok-to-in-116.rest.now c.in_ok-from-in-116.ensures.0 c.in_ok-to-in-116.ensures.0 is c.in_ok-from-in-116.ensures.1 c.in_ok-to-in-116.ensures.1

pub returns-in_ok-node-in-116-2 : goal.returns-in_ok-node-in-116-2
returns-in_ok-node-in-116-2 c =
    let text = c.args.text.now in
    let is : text ≡ 116 ∷ 105 ∷ 99 ∷ 107 ∷ 32 ∷ take (length text - 5) (drop 5 text) =
    five_bytes text 116 105 99 107 32 (search rules) (search rules) (search rules) (search rules) (search rules) (search rules) in
    tick_line c.one_spelling.ensures.numbers_read c.in_ok-node-in-116-2.node text (take (length text - 5) (drop 5 text)) c.in_ok-node-in-116-2.rest.now c.in_ok-node-in-116-2.ensures.0 is
    c.in_ok-node-in-116-2.ensures.1
