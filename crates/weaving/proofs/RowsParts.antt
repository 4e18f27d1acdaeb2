-- The parts of an account and of matching links: entries, deeds, stamps, and what is no link.
use Rattle.std.proofs.Common.{◌≡◌, ◌≢◌, ℕ, zero, suc, List, [], ◌∷◌, Some, None, refl, arith}
use Rattle.std.proofs.lemmas.Bool.{false≢true}
use Rattle.topology.specs.declared.frame.Frame.{Frame as FrameType}
use Rattle.link_model.specs.declared.item.Item.TheVariants.{Noise, Frame}
use Rattle.node_core.specs.Deeds.{Ticks, Sends, Takes}
use Rattle.run_model.specs.declared.event.Event.TheVariants.{Send, Take, Tick}
use Rattle.run_model.proofs.RowsTwo.{two_nodes}
use Rattle.weaving.specs.declared.journal.JournalEntry.{JournalEntry}
use Rattle.weaving.specs.declared.journal.Stamped.{Stamped}
use Rattle.weaving.specs.Account.{Note, Ticked, Sent, Took, entry_of, send_first, take_first, IsFrame, AreOverLinks}
use Rattle.weaving.specs.Journals.{earlier}
use Rattle.weaving.specs.Matched.{AreAbove, AreOf, stamps, items}
use Rattle.weaving.proofs.RowsRun.{after_tick}

abbrev frame : Stamped
frame = after_tick 0 1 2

abbrev noise : Stamped
noise = record { stamp = 3; item = Noise }

-- ---- what a journal says

says-send : entry_of 0 (Sent 1 frame) ≡ record { stamp = 2; event = Send 0 1 }
says-send = refl

-- a take is named by the link, so by the other node first
says-take : entry_of 0 (Took 1 noise) ≡ record { stamp = 3; event = Take 1 0 }
says-take = refl

says_not-turned : entry_of 0 (Took 1 noise) ≢ record { stamp = 3; event = Take 0 1 }
says_not-turned = grind arith

abbrev notes : ℕ → List Note
notes zero = Ticked 1 ∷ Took 1 noise ∷ []
notes (suc v) = []

abbrev entries : ℕ → List JournalEntry
entries zero = record { stamp = 1; event = Tick 0 } ∷ record { stamp = 3; event = Take 1 0 } ∷ []
entries (suc v) = []

says-all : AreOf notes entries
says-all zero = refl
says-all (suc v) = refl

says_not-nothing : ¬ AreOf notes (λ v. [])
says_not-nothing said = let all = said 0 in grind (arith, all)

-- ---- deeds

sends-frame : (f : FrameType) → send_first 1 (Frame f) (Ticks ∷ []) ≡ Sends 1 f ∷ Ticks ∷ []
sends-frame f = refl

sends_not-noise : send_first 1 Noise (Ticks ∷ []) ≡ Ticks ∷ []
sends_not-noise = refl

takes-frame : (f : FrameType) → take_first 1 (Frame f) [] ≡ Takes 1 f ∷ []
takes-frame f = refl

takes_not-noise : take_first 1 Noise [] ≡ []
takes_not-noise = refl

is-frame : IsFrame frame.item
is-frame = tt

is_not-noise : ¬ IsFrame Noise
is_not-noise out = out

over-links : AreOverLinks two_nodes 0 (Ticked 1 ∷ Sent 1 frame ∷ Took 1 noise ∷ [])
over-links = (refl, tt, (refl, tt))

-- there is no node 2
over_not-nobody : ¬ AreOverLinks two_nodes 0 (Took 2 noise ∷ [])
over_not-nobody over = false≢true over.0

over_not-noise_sent : ¬ AreOverLinks two_nodes 0 (Sent 1 noise ∷ [])
over_not-noise_sent over = over.1

-- ---- stamps

stamps-are : stamps (frame ∷ noise ∷ []) ≡ 2 ∷ 3 ∷ []
stamps-are = refl

items-are : items (noise ∷ frame ∷ []) ≡ Noise ∷ frame.item ∷ []
items-are = refl

above : AreAbove (5 ∷ 3 ∷ []) (4 ∷ 2 ∷ 9 ∷ [])
above = (omega arith, (omega arith, tt))

above_not-equal : ¬ AreAbove (5 ∷ []) (5 ∷ [])
above_not-equal are = grind (arith, are.0)

-- nor is a stamp with nothing at its place
above_not-more : ¬ AreAbove (5 ∷ 3 ∷ []) (4 ∷ [])
above_not-more are = are.1

-- of two entries with one stamp the first stays; else the smaller stamp is earlier
abbrev at_time : ℕ → JournalEntry
at_time t = record { stamp = t; event = Tick 0 }

earlier-first : earlier (Some (0, at_time 4)) 1 (at_time 4) ≡ Some (0, at_time 4)
earlier-first = refl

earlier-smaller : earlier (Some (0, at_time 4)) 1 (at_time 3) ≡ Some (1, at_time 3)
earlier-smaller = refl

earlier-only : earlier None 1 (at_time 3) ≡ Some (1, at_time 3)
earlier-only = refl
