-- Small examples of the lines of a text, and of those that show nodes and links.
use Rattle.std.proofs.Common.{◌≡◌, [], ◌∷◌, Some, None, false, codes, refl, ap}
use Rattle.std.specs.Fmt.{digits}
use Rattle.std.specs.List.{range_with_len}
use Rattle.topology.specs.Network.{Network}
use Rattle.judge.specs.run_model.World.{World}
use Rattle.judge.specs.run_model.Start.{default_world}
use Rattle.judge.specs.run_model.Step.{with_desk}
use Rattle.judge.specs.run_model.Run.{run}
use Rattle.judge.specs.run_model.declared.event.Event.TheVariants.{Send, Tick, Ask, Leave, Damage}
use Rattle.judge.specs.run_model.declared.event.Harm.TheVariants as harm
use Rattle.events_text.specs.declared.text_line.TextLine.TheVariants.{Passed, Unread, Said}
use Rattle.events_text.specs.EventsText.{text_lines}
use Rattle.world.specs.SimulatedText.{line_refusal, line_step, refusal_lines, refusals_of, said_event, simulated_start}
use Rattle.world.specs.StateText.{node_line, links_from, node_lines, link_lines}
use Rattle.world.proofs.RowsSimulated.{start}

-- 0 - 1 - 2, with the edges of node 1 listed against their order
abbrev path : Network
path = record { nodes = 3; root = 0; capacity = 2; lease = 0; edges = (1, 2) ∷ (0, 1) ∷ [] }

-- ---- why a line is refused

-- a line that spells no event is refused, and so is an event that cannot happen
refuses : (line_refusal start Unread ≡ Some (codes "Unread"))
    × (line_refusal start (Said (Leave 1 7)) ≡ Some (codes "Stranger"))
refuses = (refl, refl)

-- a skipped line is not refused, and neither is an event that happens
refuses_not : (line_refusal start Passed ≡ None) × (line_refusal start (Said (Ask 1 7)) ≡ None)
refuses_not = (refl, refl)

-- an edge may join only while a pair of links is spare
refuses-join : line_refusal (default_world path) (Said (Damage (harm.Join 0 2))) ≡ Some (codes "NoSpare")
refuses-join = refl

refuses_not-join : line_refusal (simulated_start path) (Said (Damage (harm.Join 0 2))) ≡ None
refuses_not-join = refl

-- a 65th ticket finds the desk full
abbrev crowd : World
crowd = with_desk start 0 (record { waiting = range_with_len 0 64; lent = None; left = 0; served = false })

refuses-full : line_refusal crowd (Said (Ask 0 64)) ≡ Some (codes "Full")
refuses-full = refl

-- the other refusals have their own names
refuses-others : refusals_of start (text_lines (codes "lose 0 1 0\nharm value 0 1 7\nleave 0 7\nharm part 0 1\n"))
    ≡ codes "line 1: NoItem\nline 2: OutOfRange\nline 3: Stranger\nline 4: Apart\n"
unfolding digits
refuses-others = refl

-- ---- what a line does

-- an event that can happen changes the world
steps-on : ((line_step start (Said (Ask 1 7))).node 1).desk.waiting ≡ 7 ∷ []
steps-on = refl

-- a refused event does not, and no more does a line without an event
stays : (line_step start (Said (Ask 2 7)) ≡ start) × (line_step start Unread ≡ start) × (line_step start Passed ≡ start)
stays = (refl, refl, refl)

steps_not-nowhere : ¬ (line_step start (Said (Ask 1 7)) ≡ start)
steps_not-nowhere same = absurd (let none = ap (λ (w : World). (w.node 1).desk.waiting) same in cc)

-- a line spells its event whether it is refused or not; other lines spell none
spells : said_event (Said (Tick 64)) ≡ Tick 64 ∷ []
spells = refl

spells-none : (said_event Unread ≡ []) × (said_event Passed ≡ [])
spells-none = (refl, refl)

-- lines count from the given number on, those without a refusal too
counts-on : refusal_lines start 7 (Unread ∷ Passed ∷ Said (Tick 2) ∷ []) ≡ codes "line 7: Unread\nline 9: NoNode\n"
unfolding digits
counts-on = refl

-- each line meets what the lines before it did
counts-met : refusal_lines start 9 (Said (Ask 1 7) ∷ Said (Ask 1 7) ∷ []) ≡ codes "line 10: Twice\n"
unfolding digits
counts-met = refl

-- ---- nodes and links

-- node 1 is a child whose machine may move; its lock is lent to ticket 9, and ticket 8 waits
abbrev marked : World
marked =
    run start (Ask 1 8 ∷ Damage (harm.Own 1 1 (Some 0)) ∷ Damage (harm.Value 1 0 3)
    ∷ Damage (harm.Desk 1 (Some 9) 0 false) ∷ [])

shows-node : node_line marked 1 ≡ codes "node 1 distance 1 parent 0 token yes lent 9 waiting 1\n"
unfolding digits
shows-node = refl

-- node 0 is as at its start
shows-other : node_line marked 0 ≡ codes "node 0 distance 2 parent none token no lent none waiting 0\n"
unfolding digits
shows-other = refl

-- each node has its line, by ascending id
shows-nodes : node_lines marked
    ≡ codes "node 0 distance 2 parent none token no lent none waiting 0\nnode 1 distance 1 parent 0 token yes lent 9 waiting 1\n"
unfolding digits
shows-nodes = refl

-- two items are under way from 1 to 2, and one from 1 to 0
abbrev busy : World
busy = run (default_world path) (Send 1 2 ∷ Send 1 0 ∷ Send 1 2 ∷ [])

-- links lead to neighbours by ascending id, in whatever order the edges are listed
links-middle : links_from busy 1 ≡ codes "link 1 0 items 1\nlink 1 2 items 2\n"
unfolding digits
links-middle = refl

-- and to neighbours alone
links-end : links_from busy 2 ≡ codes "link 2 1 items 0\n"
unfolding digits
links-end = refl

-- each link has a line in each direction, by ascending source
links-all : link_lines busy ≡ codes "link 0 1 items 0\nlink 1 0 items 1\nlink 1 2 items 2\nlink 2 1 items 0\n"
unfolding digits
links-all = refl
