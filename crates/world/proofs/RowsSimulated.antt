-- Small examples of simulated texts, with some that fail.
use Rattle.std.proofs.Common.{◌≡◌, ℕ, ◌++◌, List, [], ◌∷◌, Some, None, codes, decimal, refl, arith}
use Rattle.std.proofs.lemmas.Fmt.{decimal_digit}
use Rattle.topology.specs.Network.{Network}
use Rattle.judge.specs.run_model.World.{World}
use Rattle.judge.specs.run_model.Start.{default_world}
use Rattle.judge.specs.run_model.declared.event.Event.TheVariants.{Ask, Tick}
use Rattle.events_text.specs.declared.text_line.TextLine.TheVariants.{Passed, Unread, Said}
use Rattle.events_text.specs.EventsText.{text_lines}
use Rattle.world.specs.SimulatedText.{refusal_line, refusals_of, refused_lines, simulated_start, said_events, simulated_text}
use Rattle.world.specs.StateText.{link_line, counts_line, sweeps_line}

abbrev pub two_nodes : Network
two_nodes = record { nodes = 2; root = 0; capacity = 1; lease = 0; edges = (0, 1) ∷ [] }

abbrev pub start : World
start = default_world two_nodes

-- how the numbers below are spelled
zero-is : decimal 0 ≡ codes "0"
zero-is = decimal_digit 0 (omega arith)

one-is : decimal 1 ≡ codes "1"
one-is = decimal_digit 1 (omega arith)

two-is : decimal 2 ≡ codes "2"
two-is = decimal_digit 2 (omega arith)

four-is : decimal 4 ≡ codes "4"
four-is = decimal_digit 4 (omega arith)

five-is : decimal 5 ≡ codes "5"
five-is = decimal_digit 5 (omega arith)

eight-is : decimal 8 ≡ codes "8"
eight-is = decimal_digit 8 (omega arith)

-- a refused line has its own line, any other has none
refused-line : refusal_line 8 (Some (codes "Unread")) ≡ codes "line 8: Unread\n"
refused-line = rw eight-is

refused-none : refusal_line 8 None ≡ []
refused-none = refl

-- each refused line has its number, and a skipped line is counted too
numbered : refusals_of start (text_lines (codes "tick 2\n# tick 2\n\nsend 0 0\nTick 0")) ≡ codes "line 1: NoNode\nline 4: NoLink\nline 5: Unread\n"
numbered = rw (one-is, four-is, five-is)

-- each line meets what the lines before it did: the second ask is refused, the first is not
met : refusals_of start (Said (Ask 1 7) ∷ Said (Ask 1 7) ∷ []) ≡ codes "line 2: Twice\n"
met = rw two-is

met-counted : refused_lines start (Said (Ask 1 7) ∷ Unread ∷ Passed ∷ Said (Ask 1 7) ∷ []) ≡ 2
met-counted = refl

-- only lines that spell an event give one
said-two : said_events (text_lines (codes "tick 0\nTick 0\n# tick 0\ntick 1")) ≡ Tick 0 ∷ Tick 1 ∷ []
said-two = refl

-- the lines of a link, of the counts and of the sweeps
shown-link : link_line start 1 0 ≡ codes "link 1 0 items 0\n"
shown-link = rw (one-is, zero-is)

shown-counts : counts_line start ≡ codes "privileged 0 lending 0\n"
shown-counts = rw zero-is

shown-sweeps : sweeps_line start 5 ≡ codes "sweeps 5 of " ++ decimal 69 ++ codes "\n"
shown-sweeps = rw five-is

-- the simulated text of no events
abbrev pub nothing_happened : List ℕ
nothing_happened =
    codes "node 0 distance 2 parent none token no lent none waiting 0\nnode 1 distance 2 parent none token no lent none waiting 0\n"
    ++ codes "link 0 1 items 0\nlink 1 0 items 0\nprivileged 0 lending 0\nsweeps 0 of " ++ decimal 69 ++ codes "\n"

shown-empty : simulated_text start [] 0 ≡ nothing_happened
shown-empty = rw (zero-is, one-is, two-is)

-- and of a line that is refused
shown-refused : simulated_text start (codes "Tick 0") 0 ≡ codes "line 1: Unread\n" ++ nothing_happened
shown-refused = rw (zero-is, one-is, two-is)

-- a simulation begins with fresh nodes and 8 spare pairs of links
starts-with_spares : simulated_start two_nodes ≡ record start { spares = 8 }
starts-with_spares = refl

starts_not-without : (simulated_start two_nodes).spares ≡ 0 → ⊥
starts_not-without none = omega (arith, none)
