-- Rows: the ends of links, what is left on them, two nodes that did one turn each, and what is no such run.
use Rattle.std.proofs.Common.{◌≡◌, ℕ, ◌<◌, ◌≤◌, true, false, IsTrue, Some, None, List, [], ◌∷◌, ◌++◌, length, if◌then◌else◌, ap, refl, ◌∙◌, sym, arith, min, All, inl, inr}
use Rattle.std.proofs.lemmas.Bool.{true≢false}
use Rattle.std.proofs.lemmas.Grind.{common_steps}
use Rattle.std.proofs.lemmas.List.{length_push}
use Rattle.rtrb.specs.Ring.{sent, received}
use Rattle.link_model.specs.declared.item.Item.{Item}
use Rattle.link_model.specs.declared.item.Item.TheVariants.{Noise}
use Rattle.link_model.specs.Link.{link}
use Rattle.judge.specs.configuration.LinksView.{LinksView, under_way}
use Rattle.node_runner.proofs.RowsTwo.{two_nodes, each-link, each-node}
use Rattle.judge.specs.run_model.World.{World}
use Rattle.node_runner.specs.weaving.declared.journal.Stamped.{Stamped}
use Rattle.node_runner.proofs.RowsRun.{after_tick, start}
use Rattle.node_runner.proofs.RowsBoth.{account, events, first_frame, journal, last, matched, rising, woven}
use Rattle.node_runner.specs.declared.ports.Outgoing.{Outgoing}
use Rattle.node_runner.specs.declared.ports.Incoming.{Incoming}
use Rattle.node_runner.specs.declared.runner.RunnerPort.{RunnerPort}
use Rattle.thread_net.specs.declared.threads.ReturnedRunner.{ReturnedRunner}
use Rattle.thread_net.specs.Cables.{AreWithin, ends_at, port_to, row, left_on, left_on_ports, IsCable, IsCabledOnce, IsCableOn, IsOtherPair, IsFlushed, IsFlushedOn}
use Rattle.thread_net.specs.Prepared.{IsPrepared}
use Rattle.thread_net.specs.Seats.{entry_room}
use Rattle.thread_net.specs.declared.prepare.Prepared.{Prepared}
use Rattle.thread_net.specs.Outcomes.{have_run, turns_of}
use Rattle.std.specs.declared.alloc.Global.{Global}
use Rattle.topology.specs.Network.{neighbours_of}
use Rattle.judge.specs.run_model.Step.{has_room}
use Rattle.judge.specs.run_model.declared.event.Event.{Event}
use Rattle.judge.specs.run_model.declared.event.Event.TheVariants.{Send, Tick}
use Rattle.node_runner.specs.weaving.Account.{Ticked, Sent}
use Rattle.node_runner.specs.Rounds.{AreRounds, IsRound}
use Rattle.node_runner.specs.FirstTurn.{IsFirstTurn, count_of, deeds_of, is_tick_of, is_send_on, is_take_on, before_tick}
use Rattle.thread_net.specs.ThreadRun.{IsThreadRun}
use Rattle.judge.specs.configuration.ConfigurationView.{ConfigurationView, no_node, world_of}
use Rattle.thread_net.specs.Fault.{IsFault, IsPartRun}
use Rattle.thread_net.specs.declared.run.Woven.{Woven}
use Rattle.thread_net.specs.declared.run.RunFault.TheVariants as fault

-- two items with their stamps: noise of the start, and a frame
abbrev first : Stamped
first = record { stamp = 0; item = Noise }

abbrev second : Stamped
second = after_tick 0 1 2

-- ---- what is left on a link

module _ {A : Type 0} (o : Outgoing A) (i : Incoming A) (went : sent o.frames ≡ first ∷ second ∷ []) where
  -- what was sent and not taken is under way, the oldest first
  row-left : (received i.frames ≡ first ∷ [] → left_on o i ≡ second.item ∷ []) × (received i.frames ≡ first ∷ second ∷ [] → left_on o i ≡ [])
  row-left = (λ came. rw (came, went), λ came. rw (came, went))

  row-all_left : received i.frames ≡ [] → left_on o i ≡ Noise ∷ second.item ∷ []
  row-all_left came = rw (came, went)

  -- what came in is a beginning of what went out, and places that came back of those given back
  row-flushed : received i.frames ≡ first ∷ [] → sent i.places ≡ 4 ∷ 6 ∷ [] → received o.places ≡ 4 ∷ [] → IsFlushed o i
  row-flushed came given back = (
    (second ∷ [], ap (λ xs. xs ++ second ∷ []) came ∙ sym went),
    (6 ∷ [], ap (λ xs. xs ++ 6 ∷ []) back ∙ sym given),
  )

  -- nothing comes in that did not go out
  not-flushed : received i.frames ≡ first ∷ second ∷ second ∷ [] → IsFlushed o i → ⊥
  not-flushed came flushed =
      let all : ◌≡◌ {A = List Stamped} (first ∷ second ∷ second ∷ flushed.0.0) (first ∷ second ∷ []) =
      ap (λ xs. xs ++ flushed.0.0) (sym came) ∙ (flushed.0.1 ∙ went) in
      let count = ap length all in
      omega (arith, count)

  -- nor does a place come back before it was given back
  not-back : sent i.places ≡ 4 ∷ [] → received o.places ≡ 6 ∷ [] → IsFlushed o i → ⊥
  not-back given back flushed =
      let all : ◌≡◌ {A = List ℕ} (6 ∷ flushed.1.0) (4 ∷ []) = ap (λ xs. xs ++ flushed.1.0) (sym back) ∙ (flushed.1.1 ∙ given) in
      let one : ◌≡◌ {A = ℕ} 6 4 = cc in
      omega (arith, one)

-- ---- ports

module _ {A : Type 0} (p q : RunnerPort A) (to_one : p.neighbour ≡ 1) (to_two : q.neighbour ≡ 2) where
  row-port : (port_to (p ∷ q ∷ []) 2 ≡ Some q) × (port_to (p ∷ q ∷ []) 3 ≡ None)
  row-port = (grind (arith, common_steps, to_one, to_two), grind (arith, common_steps, to_one, to_two))

  -- if a port is missing nothing is left, and nothing is flushed
  row-nothing : (left_on_ports (Some p) None ≡ []) × (IsFlushedOn (Some p) None → ⊥)
  row-nothing = (refl, λ out. out)

  -- two ports to each other are the ends of the same links, and one alone is not enough
  row-cable : (IsCable p q → IsCableOn (Some p) (Some q)) × (IsCableOn (Some p) None → ⊥) × ((IsCable p q → ⊥) → IsCableOn (Some p) (Some q) → ⊥)
  row-cable = (λ cable. cable, λ out. out, λ apart cabled. apart cabled)

-- ---- pairs of nodes

-- a pair the other way round is another
row-other : IsOtherPair 3 1 1 3 × IsOtherPair 1 2 1 3 × (IsOtherPair 1 3 1 3 → ⊥)
row-other = (refl, refl, λ same. true≢false same)

row-ends : (ends_at {X = ℕ} 1 7 3 9 1 ≡ 7 ∷ []) × (ends_at {X = ℕ} 1 7 3 9 3 ≡ 9 ∷ []) × (ends_at {X = ℕ} 1 7 3 9 2 ≡ [])
row-ends = (refl, refl, refl)

-- a cable has two ends
not-one_end : {A : Type 0} (l : LinksView) (rows more : List (List (RunnerPort A))) → row more 3 ≡ row rows 3 → IsCabledOnce l 1 3 rows more → ⊥
not-one_end l rows more same it =
    let count = ap length (sym same ∙ it.grown 3) in
    let longer = length_push (row rows 3) it.far in
    omega arith

-- ---- room, and who ran

-- ten turns of a node with two neighbours: ten ticks, and at most two sends and four takes each
row-room : entry_room 10 2 ≡ 70
row-room = refl

module _ (a b : ReturnedRunner) (ran : a.ran ≡ true) (came_back : b.ran ≡ false) where
  row-all_ran : (have_run (a ∷ []) ≡ true) × (have_run (a ∷ b ∷ []) ≡ false)
  row-all_ran = (rw ran, rw (ran, came_back))

  row-turns : (turns_of 5 (a ∷ b ∷ []) 0 ≡ 5) × (turns_of 5 (a ∷ b ∷ []) 1 ≡ 0) × (turns_of 5 (a ∷ b ∷ []) 2 ≡ 0)
  row-turns = (ap (λ t. if t then 5 else 0) ran, ap (λ t. if t then 5 else 0) came_back, refl)

-- ---- what is made before the first turn

-- one item is under way from 0 to 1, on links that hold one, or two of them
abbrev under : List Item → LinksView
under items = record {
  net = two_nodes;
  places = record { nodes = 2; values = 0 ∷ 1 ∷ 2 ∷ 0 ∷ [] };
  links = link 0 [] ∷ link 1 items ∷ link 1 [] ∷ [];
  spares = [];
}

row-within : AreWithin (under (Noise ∷ []))
row-within = each-link (λ u v. length (under_way (under (Noise ∷ [])) u v) ≤ 1) (omega arith) (omega arith)

not-within : AreWithin (under (Noise ∷ Noise ∷ [])) → ⊥
not-within within = let few = within 0 1 refl in omega (arith, few)

-- there is a runner for each node, and no event yet
module _ {A : Type 0} (w : World) (turns : ℕ) (p : Prepared A) (some : 0 < w.net.nodes) where
  not-without_runners : p.runners.items ≡ [] → IsPrepared w turns p → ⊥
  not-without_runners none prepared = let count = rw none at prepared.runners.count in omega (arith, some, count)

  not-with_events : 0 < length p.events.items → IsPrepared w turns p → ⊥
  not-with_events more prepared = let none = ap length prepared.nothing in omega (arith, more, none)

-- ---- two nodes that did one turn each on threads of their own

-- a round of a node with one neighbour: a tick and a send
one-round : (v u : ℕ) → AreRounds (u ∷ []) 1 (Ticked 1 ∷ Sent u (first_frame v u) ∷ [])
one-round v u =
    let round : IsRound (u ∷ []) (Ticked 1 ∷ Sent u (first_frame v u) ∷ []) = record {
      stamp = 1;
      sends = Sent u (first_frame v u) ∷ [];
      takes = [];
      are = refl;
      are_sends = (Sent u (first_frame v u) ∷ [], [], refl, inr (first_frame v u, refl), refl);
      are_takes = ([], [], [], refl, inl refl, inl refl, refl);
    } in (Ticked 1 ∷ Sent u (first_frame v u) ∷ [], [], refl, round, refl)

first-turn : (v u : ℕ) → neighbours_of two_nodes v ≡ u ∷ [] → start.link u v ≡ [] → IsFirstTurn start v (Tick v ∷ Send v u ∷ [])
first-turn v u one empty =
    let sent : All (λ w. IsTrue (has_room start v w) → 0 < count_of (is_send_on v w) (Send v u ∷ [])) (u ∷ []) = λ k d within room. grind (arith, common_steps) in
    let taken : All (λ w. min 2 (length (start.link w v)) ≤ count_of (is_take_on w v) (Send v u ∷ [])) (u ∷ []) = λ k d within. grind (arith, common_steps, empty) in
    record { later = Send v u ∷ []; ticks = refl; sends = rw one sent; takes = rw one taken }

one-turn_each : IsThreadRun (λ v. 1) start events last
one-turn_each = record {
  leads = refl;
  through = (refl, tt, (refl, tt, (refl, refl, (refl, refl, tt))));
  account = account;
  journal = journal;
  woven = woven;
  rising = rising;
  said = λ v. refl;
  matched = matched;
  rounds = each-node (λ v. AreRounds (neighbours_of two_nodes v) 1 (account v)) (one-round 0 1) (one-round 1 0);
  ticks = each-node (λ v. count_of (is_tick_of v) events ≡ 1) refl refl;
  first = each-node (λ v. 0 < 1 → IsFirstTurn start v (deeds_of v events)) (λ some. first-turn 0 1 refl refl) (λ some. first-turn 1 0 refl refl);
}

-- ---- what is no such run

-- a turn more was asked for, or a turn less was done
no-turn_too_few : IsThreadRun (λ v. 2) start events last → ⊥
no-turn_too_few ran = let ticks : 1 ≡ 2 = ran.ticks 0 (omega arith) in omega (arith, ticks)

-- nobody did anything
no-idle_nodes : IsThreadRun (λ v. 1) start [] start → ⊥
no-idle_nodes ran = let ticks : 0 ≡ 1 = ran.ticks 0 (omega arith) in omega (arith, ticks)

-- a node ticked, and sent nothing over a link that had room
no-silent_turn : (w : World) → IsThreadRun (λ v. 1) start (Tick 0 ∷ Tick 1 ∷ Send 0 1 ∷ []) w → ⊥
no-silent_turn w ran =
    let first = ran.first 1 (omega arith) (omega arith) in
    let nothing : [] ≡ first.later = tails (Tick 1) (Tick 1) [] first.later first.ticks in
    let some : 0 < count_of (is_send_on 1 0) (before_tick first.later) = first.sends 0 0 (omega arith) refl in
    let none : count_of (is_send_on 1 0) (before_tick first.later) ≡ 0 = ap (λ es. count_of (is_send_on 1 0) (before_tick es)) (sym nothing) in
    omega (arith, some, none)
  where
    tails : (e f : Event) (xs ys : List Event) → e ∷ xs ≡ f ∷ ys → xs ≡ ys
    tails e f xs ys same = cc

-- the world that comes is that to which the events lead
no-other_world : IsThreadRun (λ v. 1) start events start → ⊥
no-other_world ran = let distance : 0 ≡ 2 = ap (λ (w : World). (w.node 0).distance) ran.leads in omega (arith, distance)

-- ---- a thread was refused

abbrev alone_events : List Event
alone_events = Tick 0 ∷ Send 0 1 ∷ []

-- all of them did, so no thread was refused
no-part : IsPartRun 1 start events last → ⊥
no-part part =
    let idle = part.idle in
    each-node (λ v. part.did v ≡ 0 → ⊥) (λ none. let ticks : 1 ≡ part.did 0 = part.run.ticks 0 (omega arith) in omega (arith, ticks, none))
    (λ none. let ticks : 1 ≡ part.did 1 = part.run.ticks 1 (omega arith) in omega (arith, ticks, none)) idle.0 idle.1 idle.2

-- a node did a part of its turns
no-half : (w : World) → IsPartRun 2 start alone_events w → ⊥
no-half w part =
    let ticks : 1 ≡ part.did 0 = part.run.ticks 0 (omega arith) in
    elim (part.each 0) [
      | inl all ↦ omega (arith, ticks, all)
      | inr none ↦ omega (arith, ticks, none)
    ]

-- if memory was refused, the world that comes back is the one handed in, and no other
fault-memory : (world : ConfigurationView) → IsFault 3 world (fault.Memory world)
fault-memory world = refl

not-fault-changed : (world : ConfigurationView) → ¬ IsFault 3 world (fault.Memory (record world { nodes = no_node ∷ world.nodes }))
not-fault-changed world same = let more = ap (λ (c : ConfigurationView). length c.nodes) same in omega (arith, more)

-- no thread was refused if each node did its turn
not-fault-all : (world : ConfigurationView) (woven : Woven Global) → world_of world ≡ start → woven.events.items ≡ events → world_of woven.world ≡ last → ¬ IsFault 1 world (fault.Spawn woven)
not-fault-all world woven from did to spawned = no-part (rw (from, did, to) at spawned)
