-- Small examples of what `threads` prints and reports, and some that look like them and are none.
use Rattle.std.proofs.Common.{◌≡◌, ◌≢◌, ◌<◌, ℕ, zero, suc, List, [], ◌∷◌, ◌++◌, Option, None, Some, codes, drop, ap, subst, refl, inl, inr, arith}
use Rattle.std.specs.Fmt.{digits}
use Rattle.std.specs.declared.alloc.Global.{Global}
use Rattle.topology.specs.Network.{Network}
use Rattle.byte_streams.specs.Streams.{Takes}
use Rattle.command_parts.specs.world.run_model.World.{World}
use Rattle.command_parts.specs.world.run_model.Start.{default_world}
use Rattle.command_parts.specs.world.run_model.Sweep.{IsSweep}
use Rattle.command_parts.specs.world.run_model.Count.{IsSweepCount}
use Rattle.command_parts.specs.world.run_model.declared.event.Event.{Event}
use Rattle.command_parts.specs.world.judge.configuration.ConfigurationView.{ConfigurationView, world_of}
use Rattle.command_parts.specs.world.judge.Judging.{counted_up_to}
use Rattle.command_parts.specs.world.StateText.{state_text}
use Rattle.thread_net.specs.ThreadRun.{IsThreadRun}
use Rattle.thread_net.specs.declared.run.Woven.{Woven}
use Rattle.thread_net.specs.declared.run.RunFault.TheVariants as run
use Rattle.command_parts.specs.command_faults.declared.fault.Fault.TheVariants.{Memory, Threads, Output, Closed}
use Rattle.live_commands.specs.Threads.{AllRan, IsStateWritten, IsUnwritten, refused}

-- two nodes, which one edge joins
abbrev two_nodes : Network
two_nodes = record { nodes = 2; root = 0; capacity = 1; lease = 0; edges = (0, 1) ∷ [] }

abbrev start : World
start = default_world two_nodes

-- no event holds no sweep, and no other number of them
no-sweep : (w : World) (front back : List Event) → 0 < w.net.nodes → [] ≡ front ++ back → IsSweep w front → ⊥
no-sweep w [] back some parts sweep = grind (arith, sweep.ticked 0 some)
no-sweep w (e ∷ front) back some parts sweep = grind (arith, parts)

counted-none : IsSweepCount start [] 0
counted-none = record { held = tt; no_more = λ s. no-sweep start s.0 s.1 (omega arith) s.2 s.3 }

count-none : (count : ℕ) → IsSweepCount start [] count → count ≡ 0
count-none zero counted = refl
count-none (suc count) counted = absurd (no-sweep start counted.held.0 counted.held.1 (omega arith) counted.held.2 counted.held.3)

-- what is printed of two nodes that did nothing
abbrev printed : List ℕ
printed =
    codes "node 0 distance 2 parent none token no lent none waiting 0\nnode 1 distance 2 parent none token no lent none waiting 0\nlink 0 1 items 0\nlink 1 0 items 0\nprivileged 0 lending 0\nsweeps 0 of 69\n"

-- the same with another number of sweeps
abbrev one_more : List ℕ
one_more =
    codes "node 0 distance 2 parent none token no lent none waiting 0\nnode 1 distance 2 parent none token no lent none waiting 0\nlink 0 1 items 0\nlink 1 0 items 0\nprivileged 0 lending 0\nsweeps 1 of 69\n"

-- the byte at a place of a text, 0 beyond its end
abbrev first_of : List ℕ → ℕ
first_of [] = 0
first_of (byte ∷ bytes) = byte

abbrev byte_at : ℕ → Option (List ℕ) → ℕ
byte_at k None = 0
byte_at k (Some text) = first_of (drop k text)

state-written : IsStateWritten start [] start (Some []) (Some printed)
unfolding digits
state-written = record { count = 0; counted = counted-none; text = refl }

-- whatever was written of no events has no sweeps
without-sweeps : (after : Option (List ℕ)) → IsStateWritten start [] start (Some []) after → after ≡ Some printed
unfolding digits
without-sweeps after written =
    subst (λ n. Takes (state_text start (counted_up_to n)) (Some []) after) (count-none written.count written.counted) written.text

-- sweeps that nobody made are none of it: the byte 182 is their number
state_not-swept : ¬ IsStateWritten start [] start (Some []) (Some one_more)
state_not-swept written = let e : 49 ≡ 48 = ap (byte_at 182) (without-sweeps (Some one_more) written) in omega (arith, e)

-- nor is nothing at all
state_not-nothing : ¬ IsStateWritten start [] start (Some []) (Some [])
state_not-nothing written = let e : 0 ≡ 110 = ap (byte_at 0) (without-sweeps (Some []) written) in omega (arith, e)

refused-memory : (world : ConfigurationView) → refused (run.Memory world) ≡ Memory
refused-memory world = refl

refused-thread : (woven : Woven Global) → refused (run.Spawn woven) ≡ Threads
refused-thread woven = refl

refused_not-memory : (woven : Woven Global) → refused (run.Spawn woven) ≢ Memory
refused_not-memory woven e = grind (arith, e)

unwritten-output : IsUnwritten Output
unwritten-output = inr (inr (inl refl))

unwritten-closed : IsUnwritten Closed
unwritten-closed = inr (inr (inr refl))

-- a thread that is refused ends a run before anything is written
unwritten_not-threads : ¬ IsUnwritten Threads
unwritten_not-threads (inl e) = grind (arith, e)
unwritten_not-threads (inr (inl e)) = grind (arith, e)
unwritten_not-threads (inr (inr (inl e))) = grind (arith, e)
unwritten_not-threads (inr (inr (inr e))) = grind (arith, e)

-- ---- what nodes did

-- no turn of any node leads from the start to the start, by no event
idle : IsThreadRun (λ v. 0) start [] start
idle = record {
  leads = refl;
  through = tt;
  account = λ v. [];
  journal = λ v. [];
  woven = record { placed = []; are_events = refl; ordered = tt; complete = λ v. refl };
  rising = λ v. tt;
  said = λ v. refl;
  matched = record {
    network = refl;
    spares = refl;
    nodes = λ v. (tt, refl);
    nobody = λ v beyond. refl;
    links = λ u v. record { kept = refl; taken_later = tt; sent_later = tt };
  };
  rounds = λ v below. refl;
  ticks = λ v below. refl;
  first = λ v below some. absurd (omega (arith, some));
}

-- so nodes that were asked for no turn stand as they started, and no turn of theirs was one
module _ (woven : Woven Global) (nothing : woven.events.items ≡ []) where
  all-idle : world_of woven.world ≡ start → AllRan 0 two_nodes woven
  all-idle there = rw (nothing, there) idle

  all_not-elsewhere : ((world_of woven.world).node 0).distance ≡ 0 → ¬ AllRan 0 two_nodes woven
  all_not-elsewhere there ran =
      let same : start ≡ world_of woven.world = rw nothing at ran.leads in
      let distance : 2 ≡ ((world_of woven.world).node 0).distance = ap (λ (w : World). (w.node 0).distance) same in omega (arith, there, distance)

  all_not-idle : ¬ AllRan 1 two_nodes woven
  all_not-idle ran = let ticks : 0 ≡ 1 = rw nothing at ran.ticks 0 (omega arith) in omega (arith, ticks)
