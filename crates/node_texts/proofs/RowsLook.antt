-- Lines for whoever looks, written out by hand.
use Rattle.std.proofs.Common.{◌≡◌, true, false, None, Some, [], ◌∷◌, codes, refl}
use Rattle.std.specs.Fmt.{digits}
use Rattle.turn_watch.specs.declared.links.LinkTimes.{LinkTimes}
use Rattle.turn_watch.specs.declared.loans.LoanTimes.{LoanTimes}
use Rattle.turn_watch.specs.declared.turns.TurnTimes.{TurnTimes}
use Rattle.node_texts.specs.declared.look_parts.LinkPart.{LinkPart}
use Rattle.node_texts.specs.declared.look_parts.TurnPart.{TurnPart}
use Rattle.node_texts.specs.LookText.{look_text, link_part, link_parts, links_text, loan_part, loan_text, status_part, turn_part}

turns : TurnPart
turns = record { count = 512; longest = 2290; lately = 2190; limit = 2200; late = 3 }

up : LinkPart
up = record { node = 0; is_up = true; since = 1500; breaks = 2 }

down : LinkPart
down = record { node = 2; is_up = false; since = 70000000; breaks = 0 }

whole : look_text
    (record { node = 1; distance = 1; parent = Some 0; token = true; lent = Some 7; waiting = 2 })
    (up ∷ []) (record { count = 3; longest = 1204; present = Some 80; lately = 990 }) turns
    (record { id = Some 4711; start = Some 1790000000000 }) (codes "0.1.0") 58
    ≡ codes "{\"node\":1,\"distance\":1,\"parent\":0,\"token\":true,\"lent\":7,\"waiting\":2,\"links\":[{\"node\":0,\"up\":true,\"for_us\":1500,\"breaks\":2}],\"loans\":{\"count\":3,\"longest_us\":1204,\"present_us\":80,\"lately_us\":990},\"turns\":{\"count\":512,\"longest_us\":2290,\"lately_us\":2190,\"limit_us\":2200,\"late\":3},\"process\":4711,\"version\":\"0.1.0\",\"start_ms\":1790000000000,\"rounds\":58}\n"
unfolding turns up digits
whole = refl

-- what is not there is null
status-none : status_part (record { node = 0; distance = 2; parent = None; token = false; lent = None; waiting = 0 })
    ≡ codes "\"node\":0,\"distance\":2,\"parent\":null,\"token\":false,\"lent\":null,\"waiting\":0"
unfolding digits
status-none = refl

loans-none : loan_text (record { count = 0; longest = 0; present = None; lately = 0 })
    ≡ codes "{\"count\":0,\"longest_us\":0,\"present_us\":null,\"lately_us\":0}"
unfolding digits
loans-none = refl

-- links stand with a comma between each two
links-two : links_text (up ∷ down ∷ [])
    ≡ codes "{\"node\":0,\"up\":true,\"for_us\":1500,\"breaks\":2},{\"node\":2,\"up\":false,\"for_us\":70000000,\"breaks\":0}"
unfolding up down digits
links-two = refl

links-none : links_text [] ≡ []
links-none = refl

-- a link that stands by its third connection broke twice
link-third : link_part 0 (record { sight = record { is_up = true; made = 3 }; since = 500 }) 2000 ≡ up
unfolding up
link-third = refl

-- ---- what is said at 2 ms of the clock of what was noted

abbrev third : LinkTimes
third = record { sight = record { is_up = true; made = 3 }; since = 500 }

-- of the neighbours alone, by ascending id; of the third node nothing was noted
parts-one : link_parts (third ∷ third ∷ []) 2000 (0 ∷ []) ≡ up ∷ []
unfolding up
parts-one = refl

parts-unnoted : link_parts (third ∷ []) 2000 (0 ∷ 2 ∷ [])
    ≡ up ∷ record { node = 2; is_up = false; since = 2000; breaks = 0 } ∷ []
unfolding up
parts-unnoted = refl

-- a loan that began at 1.2 ms has lasted 0.8
abbrev loans : LoanTimes
loans = record { count = 3; longest = 1204; since = Some 1200; lately = record { half = 0; present = 990; before = 0; earlier = 0 } }

part-loan : loan_part loans 2000 ≡ record { count = 3; longest = 1204; present = Some 800; lately = 990 }
part-loan = refl

part-no_loan : loan_part (record loans { since = None }) 2000 ≡ record { count = 3; longest = 1204; present = None; lately = 990 }
part-no_loan = refl

abbrev noted : TurnTimes
noted = record { count = 512; ended = 1900; longest = 2290; late = 3; lately = record { half = 0; present = 2190; before = 0; earlier = 0 } }

part-turns : turn_part noted 2200 2000 ≡ turns
unfolding turns
part-turns = refl

-- after a minute and a half nothing of it is said of the last minute
part_not-lately : turn_part noted 2200 90000000 ≡ record { count = 512; longest = 2290; lately = 0; limit = 2200; late = 3 }
part_not-lately = refl
