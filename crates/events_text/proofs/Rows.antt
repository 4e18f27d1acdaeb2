-- Small examples of events texts, and lines that spell no event.
use Rattle.std.proofs.Common.{◌≡◌, true, false, [], ◌∷◌, ◌++◌, Some, None, refl, codes, replicate}
use Rattle.run_model.specs.link_model.declared.item.Item.TheVariants as item
use Rattle.run_model.specs.declared.event.Event.TheVariants.{Send, Take, Lose, Tick, Ask, Leave, Damage}
use Rattle.run_model.specs.declared.event.Harm.TheVariants as harm
use Rattle.events_text.specs.declared.text_line.TextLine.TheVariants.{Passed, Unread, Said}
use Rattle.events_text.specs.EventLine.{line_event}
use Rattle.events_text.specs.EventsText.{text_line, text_lines}

-- a line of each kind
line-send : line_event (codes "send 0 1") ≡ Some (Send 0 1)
line-send = refl

line-take : line_event (codes "take 10 1") ≡ Some (Take 10 1)
line-take = refl

line-lose : line_event (codes "lose 0 1 4095") ≡ Some (Lose 0 1 4095)
line-lose = refl

line-tick : line_event (codes "tick 63") ≡ Some (Tick 63)
line-tick = refl

line-ask : line_event (codes "ask 1 65535") ≡ Some (Ask 1 65535)
line-ask = refl

line-leave : line_event (codes "leave 0 4") ≡ Some (Leave 0 4)
line-leave = refl

line-own : line_event (codes "harm own 0 3 none") ≡ Some (Damage (harm.Own 0 3 None))
line-own = refl

line-own_parent : line_event (codes "harm own 0 3 65535") ≡ Some (Damage (harm.Own 0 3 (Some 65535)))
line-own_parent = refl

line-counters : line_event (codes "harm counters 0 1 4 3") ≡ Some (Damage (harm.Counters 0 1 4 3))
line-counters = refl

line-staged : line_event (codes "harm staged 0 1 0 none 6") ≡ Some (Damage (harm.Staged 0 1 (record { distance = 0; parent = None; ring = 6 })))
line-staged = refl

line-copy : line_event (codes "harm copy 0 1 1 0 6") ≡ Some (Damage (harm.Copy 0 1 (record { distance = 1; parent = Some 0; ring = 6 })))
line-copy = refl

line-value : line_event (codes "harm value 0 1 6") ≡ Some (Damage (harm.Value 0 1 6))
line-value = refl

line-desk : line_event (codes "harm desk 1 6 0 no") ≡ Some (Damage (harm.Desk 1 (Some 6) 0 false))
line-desk = refl

line-desk_none : line_event (codes "harm desk 1 none 0 yes") ≡ Some (Damage (harm.Desk 1 None 0 true))
line-desk_none = refl

line-frame : line_event (codes "harm frame 0 1 4 3 2 none 6")
    ≡ Some (Damage (harm.Item 0 1 (item.Frame (record { seq = 4; ack = 3; payload = record { distance = 2; parent = None; ring = 6 } }))))
line-frame = refl

line-junk : line_event (codes "harm junk 0 1") ≡ Some (Damage (harm.Item 0 1 item.Noise))
line-junk = refl

line-empty : line_event (codes "harm empty 0 1") ≡ Some (Damage (harm.Empty 0 1))
line-empty = refl

line-join : line_event (codes "harm join 0 3") ≡ Some (Damage (harm.Join 0 3))
line-join = refl

line-part : line_event (codes "harm part 3 1") ≡ Some (Damage (harm.Part 3 1))
line-part = refl

-- a capital letter; a word too few, one too many; two spaces, one in front, one at the end; `none` in place of a number, and
-- another word where `yes` or `no` is
unread-capital : line_event (codes "Tick 0") ≡ None
unread-capital = refl

unread-few : line_event (codes "send 0") ≡ None
unread-few = refl

unread-many : line_event (codes "tick 0 1") ≡ None
unread-many = refl

unread-spaces : line_event (codes "tick  0") ≡ None
unread-spaces = refl

unread-front : line_event (codes " tick 0") ≡ None
unread-front = refl

unread-end : line_event (codes "tick 0 ") ≡ None
unread-end = refl

unread-none : line_event (codes "ask 0 none") ≡ None
unread-none = refl

unread-served : line_event (codes "harm desk 1 6 0 maybe") ≡ None
unread-served = refl

unread-harm : line_event (codes "harm") ≡ None
unread-harm = refl

unread-join : line_event (codes "harm join 0") ≡ None
unread-join = refl

unread-part : line_event (codes "harm part 0 1 2") ≡ None
unread-part = refl

-- an empty line and a comment are passed over, and a last line without a newline counts
text-four : text_lines (codes "tick 0" ++ 10 ∷ 10 ∷ codes "# 1" ++ 10 ∷ codes "x") ≡ Said (Tick 0) ∷ Passed ∷ Passed ∷ Unread ∷ []
text-four = refl

text-ended : text_lines (codes "tick 0" ++ 10 ∷ []) ≡ Said (Tick 0) ∷ []
text-ended = refl

text-none : text_lines [] ≡ []
text-none = refl

-- a long comment is passed over, any other line of 65 bytes is unread
long-comment : text_line (replicate 100 35) ≡ Passed
long-comment = refl

long-line : text_line (replicate 65 120) ≡ Unread
long-line = refl
