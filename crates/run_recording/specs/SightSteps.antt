-- What an event changes in what is seen.
use Rattle.std.specs.Prelude.{◌≡◌, ◌≢◌, ◌≤◌, ℕ, ◌+◌, ◌-◌, ◌^◌, min, Bool, true, false, is_some, slice_set, slice_index_or}
use Rattle.world.specs.run_model.World.{World}
use Rattle.run_recording.specs.declared.look.Look.{Look}
use Rattle.run_recording.specs.declared.sight.NodesSight.{NodesSight}
use Rattle.run_recording.specs.Seen.{mark_of_look, nothing}

-- the worlds have the same network, and their nodes differ at most at this id; if no node has this
-- id, the worlds are the same
pub record DiffersAt (v : ℕ) (old new : World) : Type 0 where
  pub net : new.net ≡ old.net
  pub nodes : (u : ℕ) → u ≢ v → new.node u ≡ old.node u
  pub nowhere : old.net.nodes ≤ v → new ≡ old

-- a count of nodes, updated when one node may have started or stopped being counted; it stops at
-- the greatest value of 64 bits
abbrev pub recounted : ℕ → Bool → Bool → ℕ
recounted count false true = min (count + 1) (2 ^ 64 - 1)
recounted count true false = count - 1
recounted count true true = count
recounted count false false = count

-- the sight with this look of one node
abbrev pub with_look : NodesSight → ℕ → Look → NodesSight
with_look s v look = record {
  places = s.places;
  edges = s.edges;
  looks = slice_set s.looks v look;
  marks = slice_set s.marks v (mark_of_look look);
  privileged = recounted s.privileged (slice_index_or s.looks v nothing).privileged look.privileged;
  lending = recounted s.lending (is_some (slice_index_or s.looks v nothing).lent) (is_some look.lent);
}
