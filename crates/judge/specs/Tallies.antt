-- What contracts see of a judge's tallies, one for each link.
use Rattle.std.specs.Prelude.{◌≡◌, ℕ, ◌+◌, ◌<◌, ◌⊎◌, Bool, true, false, not, ◌==◌, ◌||◌, if◌then◌else◌, List, [], ◌∷◌, length, slice_index_or}
use Rattle.configuration.specs.data_link.Sweep.{LinkAct, Takes, Loses}
use Rattle.configuration.specs.run_model.World.{World}
use Rattle.configuration.specs.run_model.Stretch.{old_after, takes_new}
use Rattle.configuration.specs.run_model.Sweep.{is_link}
use Rattle.configuration.specs.run_model.declared.happened.Happened.{Happened}
use Rattle.configuration.specs.run_model.declared.happened.Happened.TheVariants.{Taken, Lost}
use Rattle.judge.specs.declared.tallies.Tally.{Tally}
use Rattle.configuration.specs.PairTable.{PairTableView, value_at}

-- for every two nodes the place of the tally of their link; the tallies, one after the other; and
-- the number of looks at tallies
pub record TalliesView : Type 0 where
  pub table : PairTableView
  pub places : List Tally
  pub looked : ℕ

-- the tally of a missing link: it has nothing old and lacks nothing
abbrev pub no_tally : Tally
no_tally = record { old = 0; renewed = true }

-- the tally of the link from u to v; the first place stands for all missing links
abbrev pub tally_of : TalliesView → ℕ → ℕ → Tally
tally_of t u v = slice_index_or t.places (value_at t.table u v) no_tally

-- the link from u to v has its own place
abbrev pub has_place : PairTableView → ℕ → ℕ → Bool
has_place table u v = not (value_at table u v == 0)

-- a tally after an act, if `under_way` items are on the link
abbrev pub tally_after : LinkAct → ℕ → Tally → Tally
tally_after act under_way t = record { old = old_after act t.old; renewed = t.renewed || takes_new act t.old under_way }

-- the tally of the link from u to v after what happened: only items that leave the link change it
abbrev pub tally_happened : ℕ → ℕ → Happened → Tally → Tally
tally_happened u v (Taken a b) t = if is_link u v a b then tally_after Takes 1 t else t
tally_happened u v (Lost a b i) t = if is_link u v a b then tally_after (Loses i) 0 t else t
tally_happened u v _ t = t

-- the place belongs to two nodes
abbrev pub IsOfNodes : PairTableView → ℕ → Type 0
IsOfNodes table p = (u : ℕ) × (v : ℕ) × (u < table.nodes) × (v < table.nodes) × (value_at table u v ≡ p)

-- 1 if the link is not renewed, else 0
abbrev pub missing : Tally → ℕ
missing t = if t.renewed then 0 else 1

-- how many of these tallies have a link that is not renewed
abbrev pub unrenewed_in : List Tally → ℕ
unrenewed_in [] = 0
unrenewed_in (t ∷ ts) = missing t + unrenewed_in ts

-- the number of tallies: one each way for 256 edges, the most of a network, and the first
abbrev pub most_tallies : ℕ
most_tallies = 513

-- Different pairs have different places, unless they have the first. `unrenewed` of the tallies
-- are not renewed, each at the place of two nodes. There is one for each link of the most edges of
-- a network.
pub record IsTallied (table : PairTableView) (places : List Tally) (unrenewed : ℕ) : Type 0 where
  pub inside : (u v : ℕ) → v < table.nodes → value_at table u v < length places
  pub apart : (u v i j : ℕ) → v < table.nodes → j < table.nodes
      → value_at table u v ≡ value_at table i j → ((u ≡ i) × (v ≡ j)) ⊎ (value_at table u v ≡ 0)
  pub all : length places ≡ most_tallies
  pub own : (p : ℕ) → IsOfNodes table p ⊎ ((slice_index_or places p no_tally).renewed ≡ true)
  pub few : unrenewed ≡ unrenewed_in places

-- the tally of the link from u to v as a stretch begins: all that is under way is old
abbrev pub first_tally : World → ℕ → ℕ → Tally
first_tally w u v = record { old = length (w.link u v); renewed = false }
