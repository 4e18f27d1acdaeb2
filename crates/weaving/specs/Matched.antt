-- Journals that match: they say about each link what a link of that capacity can do.
use Rattle.std.specs.Prelude.{◌≡◌, ℕ, ◌-◌, ◌<◌, ◌≤◌, List, [], ◌∷◌, ◌++◌, map, drop, length}
use Rattle.link_model.specs.declared.item.Item.{Item}
use Rattle.run_model.specs.World.{World}
use Rattle.weaving.specs.declared.journal.JournalEntry.{JournalEntry}
use Rattle.weaving.specs.declared.journal.Stamped.{Stamped}
use Rattle.weaving.specs.Account.{Note, entry_of, sent_to, taken_from, Leads}

-- each number of the first list is above the one at its place in the second list, which has one
-- there
abbrev pub AreAbove : List ℕ → List ℕ → Type 0
AreAbove [] below = Unit {0}
AreAbove (x ∷ xs) [] = ⊥
AreAbove (x ∷ xs) (y ∷ ys) = (y < x) × AreAbove xs ys

-- the stamps of some items
abbrev pub stamps : List Stamped → List ℕ
stamps xs = map (λ x. x.stamp) xs

-- the items alone
abbrev pub items : List Stamped → List Item
items xs = map (λ x. x.item) xs

-- What was on a link, then what was sent, is what was taken, then what is left. An item is taken
-- later than it was sent. If no place is free, a send waits for a take: with f places free at the
-- start, send number f + j is later than take number j.
pub record IsLinkMatched (capacity : ℕ) (old : List Item) (sent taken : List Stamped)
    (left : List Item) : Type 0 where
  pub kept : old ++ items sent ≡ items taken ++ left
  pub taken_later : AreAbove (drop (length old) (stamps taken)) (stamps sent)
  pub sent_later : AreAbove (drop (capacity - length old) (stamps sent)) (stamps taken)

-- Accounts of all nodes lead from one world to another: each leads its node, and on each link they
-- match.
pub record AreMatched (w : World) (account : ℕ → List Note) (last : World) : Type 0 where
  pub network : last.net ≡ w.net
  pub spares : last.spares ≡ w.spares
  pub nodes : (v : ℕ) → Leads w.net v (w.node v) (account v) (last.node v)
  pub nobody : (v : ℕ) → w.net.nodes ≤ v → account v ≡ []
  pub links : (u v : ℕ)
      → IsLinkMatched w.net.capacity (w.link u v) (sent_to v (account u))
      (taken_from u (account v)) (last.link u v)

-- the journals report these accounts
abbrev pub AreOf : (ℕ → List Note) → (ℕ → List JournalEntry) → Type 0
AreOf account journal = (v : ℕ) → journal v ≡ map (entry_of v) (account v)
