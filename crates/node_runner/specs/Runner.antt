-- What one node does on its own thread, and how its ends of the links match that.
use Rattle.std.specs.Prelude.{◌≡◌, ◌⊎◌, ℕ, ◌+◌, ◌*◌, ◌<◌, ◌≤◌, List, [], ◌∷◌, ◌++◌, All, map, length, slice_index_or, vec_capacity}
use Rattle.std.specs.List.{AllByRecursion}
use Rattle.run_model.specs.node_core.Site.{site_of}
use Rattle.run_model.specs.node_core.View.{site_in, state_of}
use Rattle.run_model.specs.World.{World}
use Rattle.weaving.specs.declared.journal.Stamped.{Stamped}
use Rattle.weaving.specs.Woven.{AreRising}
use Rattle.weaving.specs.Account.{Note, Sent, Took, entry_of, sent_to, taken_from, Leads}
use Rattle.node_runner.specs.declared.runner.RunnerPort.{RunnerPort}
use Rattle.node_runner.specs.declared.runner.Runner.{Runner}
use Rattle.node_runner.specs.Stamps.{last_stamp}
use Rattle.node_runner.specs.Ports.{IsSender, IsReceiver, SameOutgoing, SameIncoming}

-- The ends of v's links to and from a neighbour have seen what the account says, in a run that
-- began with this world.
abbrev pub IsPortNoted : {A : Type 0} → World → ℕ → List Note → RunnerPort A → Type 0
IsPortNoted w v account p =
    IsSender w.net.capacity (w.link v p.neighbour) (sent_to p.neighbour account) p.outgoing
    × IsReceiver w.net.capacity (length (w.link p.neighbour v)) (taken_from p.neighbour account) p.incoming

-- The account says all that v did since this world: the journal has its entries, with rising
-- stamps up to the clock; the state is where it leads; and the ends of its links have seen it.
pub record IsNoted {A : Type 0} (w : World) (v : ℕ) (account : List Note) (r : Runner A) : Type 0 where
  pub id : r.id ≡ v
  pub site : site_in r.node ≡ site_of w.net v
  pub leads : Leads w.net v (w.node v) account (state_of r.node)
  pub journal : r.journal.entries.items ≡ map (entry_of v) account
  pub rising : AreRising (map (entry_of v) account)
  pub before : AllByRecursion (λ e. e.stamp ≤ r.clock) (map (entry_of v) account)
  pub ports : All (IsPortNoted w v account) r.ports.items

-- the neighbours of its ports
abbrev pub port_ids : {A : Type 0} → Runner A → List ℕ
port_ids r = map (λ p. p.neighbour) r.ports.items

-- the most entries of a round: one, and three for each port
abbrev pub round_room : {A : Type 0} → Runner A → ℕ
round_room r = 1 + 3 * length r.ports.items

-- It has a port to each neighbour, and its clock is not far above the greatest stamp that can come
-- in.
pub record IsReady {A : Type 0} (r : Runner A) : Type 0 where
  pub clock : r.clock ≤ last_stamp + length r.journal.entries.items
  pub ports : port_ids r ≡ (site_in r.node).neighbours

-- these are ends of the same rings
abbrev pub IsSamePort : {A : Type 0} → RunnerPort A → RunnerPort A → Type 0
IsSamePort a b = (b.neighbour ≡ a.neighbour) × SameOutgoing a.outgoing b.outgoing × SameIncoming a.incoming b.incoming

-- each of these ports is the same as the one at its place in the other list
abbrev pub AreSamePorts : {A : Type 0} → List (RunnerPort A) → List (RunnerPort A) → Type 0
AreSamePorts {A} ps qs = (length qs ≡ length ps) × ((k : ℕ) (d : RunnerPort A) → k < length ps → IsSamePort (slice_index_or ps k d) (slice_index_or qs k d))

-- Between two moments a node did this: any account that held before holds now with these notes
-- added. Each note has an entry, in room that was there.
pub record Does {A : Type 0} (notes : List Note) (old new : Runner A) : Type 0 where
  pub said : (w : World) (v : ℕ) (past : List Note) → IsNoted w v past old → IsNoted w v (past ++ notes) new
  pub ready : IsReady new
  pub id : new.id ≡ old.id
  pub site : site_in new.node ≡ site_in old.node
  pub ports : AreSamePorts old.ports.items new.ports.items
  pub entries : length new.journal.entries.items ≡ length old.journal.entries.items + length notes
  pub room : vec_capacity new.journal.entries ≡ vec_capacity old.journal.entries

-- at most one send to this neighbour, and nothing else
abbrev pub IsOneSend : ℕ → List Note → Type 0
IsOneSend u notes = (notes ≡ []) ⊎ ((s : Stamped) × (notes ≡ Sent u s ∷ []))

-- at most one take from this neighbour, and nothing else
abbrev pub IsOneTake : ℕ → List Note → Type 0
IsOneTake u notes = (notes ≡ []) ⊎ ((s : Stamped) × (notes ≡ Took u s ∷ []))
