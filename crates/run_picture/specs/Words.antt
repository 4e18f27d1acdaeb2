-- What a picture says in words.
use Rattle.std.specs.Prelude.{◌≡◌, ℕ, ◌+◌, ◌==◌, if◌then◌else◌, List, ◌++◌, Option, None, Some, codes, decimal, length}
use Rattle.topology.specs.Network.{Network, bound_of}
use Rattle.topology.specs.Eccentricity.{sharp_of}
use Rattle.run_recording.specs.run_model.World.{World}
use Rattle.run_recording.specs.run_model.NodeCounts.{privileged_count, lending_count}
use Rattle.run_recording.specs.run_model.Run.{run}
use Rattle.run_recording.specs.run_model.Count.{IsSweepCount}
use Rattle.run_recording.specs.run_model.declared.event.Event.{Event}
use Rattle.run_recording.specs.judge.Judging.{counted_up_to, refused_in}
use Rattle.run_recording.specs.declared.mark.Mark.{Mark}
use Rattle.run_recording.specs.declared.mark.Mark.TheVariants.{Lending}

-- the title of a picture of a network
abbrev pub title_words : Network → List ℕ
title_words net = codes "A run of a lock on " ++ (decimal net.nodes ++ codes " nodes")

-- the size of a network: how many nodes and edges, and which node is the root
abbrev pub size_words : Network → List ℕ
size_words net = codes "nodes " ++ (decimal net.nodes ++ (codes ", edges " ++ (decimal (length net.edges) ++ (codes ", root " ++ decimal net.root))))

-- its limits: how many items a link holds, and for how many ticks the lock is lent
abbrev pub limit_words : Network → List ℕ
limit_words net = codes ", capacity " ++ (decimal net.capacity ++ (codes ", lease " ++ decimal net.lease))

-- after how many sweeps it has recovered, by the bound and by the sharp bound
abbrev pub bound_words : ℕ → ℕ → List ℕ
bound_words bound sharp = codes ", sweeps to recover " ++ (decimal bound ++ (codes ", sharp " ++ decimal sharp))

-- the headline: the numbers of a network
abbrev pub headline_words : Network → List ℕ
headline_words net = size_words net ++ (limit_words net ++ bound_words (bound_of net) (sharp_of net))

-- how many events a run had, and how many lines were refused
abbrev pub event_words : ℕ → ℕ → List ℕ
event_words events refused = decimal events ++ (codes " events, " ++ (decimal refused ++ codes " lines refused; "))

-- how many nodes are privileged and how many lend, in the world at the end
abbrev pub node_words : World → List ℕ
node_words end =
    codes "at the end privileged " ++ (decimal (privileged_count end) ++ (codes ", lending " ++ (decimal (lending_count end) ++ codes ", ")))

-- how many sweeps have ended since the last damage, and how many the bound asks for
abbrev pub sweep_words : ℕ → ℕ → List ℕ
sweep_words sweeps bound = codes "sweeps since the last damage " ++ (decimal sweeps ++ (codes " of " ++ decimal bound))

-- what a run was, and how it ended: how many events and refused lines it had, the world at its end,
-- and how many sweeps have ended since the last damage
abbrev pub description_words : ℕ → ℕ → World → ℕ → List ℕ
description_words events refused end sweeps = event_words events refused ++ (node_words end ++ sweep_words sweeps (bound_of end.net))

-- The words describe the run of these events from the start on, if `unread` lines of its text
-- spelled no event. A count of lines or sweeps stops at the greatest value of 64 bits.
pub record DescribesRun (start : World) (es : List Event) (unread : ℕ) (words : List ℕ) : Type 0 where
  pub sweeps : ℕ
  pub are_sweeps : IsSweepCount start es sweeps
  pub says : words ≡ description_words (length es) (counted_up_to (unread + refused_in start es)) (run start es) (counted_up_to sweeps)

-- how many moments a column shows
abbrev pub column_words : ℕ → List ℕ
column_words width =
    if width == 1 then codes "a column is 1 event"
    else codes "a column is " ++ (decimal width ++ codes " events, and shows the worst of them")

-- the name of a node
abbrev pub node_name : ℕ → List ℕ
node_name v = codes "node " ++ decimal v

-- what stands on a bar: the ticket of a node that lends
abbrev pub ticket_words : Mark → Option (List ℕ)
ticket_words (Lending ticket) = Some (decimal ticket)
ticket_words _ = None
