-- The woven list of some journals: all their entries, by stamp, then by node.
use Rattle.std.specs.Prelude.{◌≡◌, ◌⊎◌, ℕ, ◌<◌, ◌≤◌, ◌==◌, if◌then◌else◌, List, [], ◌∷◌, map}
use Rattle.std.specs.List.{AllByRecursion}
use Rattle.run_model.specs.declared.event.Event.{Event}
use Rattle.weaving.specs.declared.journal.JournalEntry.{JournalEntry}

-- the stamps of a journal rise strictly
abbrev pub AreRising : List JournalEntry → Type 0
AreRising [] = Unit {0}
AreRising (e ∷ es) = AllByRecursion (λ later. e.stamp < later.stamp) es × AreRising es

-- an entry, and the node in whose journal it is
pub record Placed : Type 0 where
  pub node : ℕ
  pub entry : JournalEntry

-- p comes no later than q: its stamp is smaller, or the stamps are equal and its node is no
-- greater
abbrev pub IsNoLater : Placed → Placed → Type 0
IsNoLater p q =
    (p.entry.stamp < q.entry.stamp) ⊎ ((p.entry.stamp ≡ q.entry.stamp) × (p.node ≤ q.node))

-- each comes no later than all after it
abbrev pub AreOrdered : List Placed → Type 0
AreOrdered [] = Unit {0}
AreOrdered (p ∷ ps) = AllByRecursion (IsNoLater p) ps × AreOrdered ps

-- the entries of one node
abbrev pub entries_of : ℕ → List Placed → List JournalEntry
entries_of v [] = []
entries_of v (p ∷ ps) = if p.node == v then p.entry ∷ entries_of v ps else entries_of v ps

-- A list of events is woven from some journals if each node's entries in it are its journal, in
-- order, and all are ordered by stamp, then by node.
pub record IsWoven (journal : ℕ → List JournalEntry) (events : List Event) : Type 0 where
  pub placed : List Placed
  pub are_events : map (λ p. p.entry.event) placed ≡ events
  pub ordered : AreOrdered placed
  pub complete : (v : ℕ) → entries_of v placed ≡ journal v
