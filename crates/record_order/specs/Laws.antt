-- The law of orders.
use Rattle.std.specs.Prelude.{slice_index, ◌++◌, ◌≡◌, ℕ, ◌+◌, ◌<◌, ◌≤◌, ◌==◌, if◌then◌else◌, List}
use Rattle.std.specs.Prelude.{[], ◌∷◌, length, drop, Option, None, Some}
use Rattle.record_order.specs.declared.ready.Need.{Need}
use Rattle.record_order.specs.declared.ready.Step.{Step}
use Rattle.record_order.specs.Order.{head_of, IsEarliest}

-- as many steps of another record were read as are needed
abbrev pub IsMet : (ℕ → ℕ) → Option Need → Type 0
IsMet read None = Unit {0}
IsMet read (Some need) = need.count ≤ read need.node

-- the next step of v's record has what it needs
abbrev pub IsReady : (ℕ → List Step) → (ℕ → ℕ) → ℕ → Type 0
IsReady records read v =
    (step : Step) × (more : List Step) × (drop (read v) (records v) ≡ step ∷ more) × IsMet read step.need

-- one step more of v's record was read
abbrev pub one_more : ℕ → (ℕ → ℕ) → ℕ → ℕ
one_more v read u = if u == v then read u + 1 else read u

-- a reader that reads a step of each of these nodes, in their order, reads only ready steps, and has
-- then read `last` steps of each
abbrev pub Goes : (ℕ → List Step) → (ℕ → ℕ) → List ℕ → (ℕ → ℕ) → Type 0
Goes records read [] last = (v : ℕ) → read v ≡ last v
Goes records read (v ∷ vs) last = IsReady records read v × Goes records (one_more v read) vs last

-- no step was read
abbrev pub nothing : ℕ → ℕ
nothing v = 0

-- An order of all steps, by their nodes: each comes after what it needs, and after those before it
-- in its own record.
abbrev pub IsOrder : (ℕ → List Step) → List ℕ → Type 0
IsOrder records vs =
    (last : ℕ → ℕ) × Goes records nothing vs last × ((v : ℕ) → last v ≡ length (records v))

-- the first of some steps, if there is one
abbrev pub first_of : List Step → Option Step
first_of [] = None
first_of (step ∷ more) = Some step

-- how many steps of each record were read
abbrev pub counts : List ℕ → ℕ → ℕ
counts read v = slice_index read v

-- these are the next steps of the records, of which this many steps were read; no records but the
-- first n have steps
pub record AreHeads (records : ℕ → List Step) (read : List ℕ) (heads : List (Option Step)) (n : ℕ)
    : Type 0 where
  pub next : (v : ℕ) → head_of heads v ≡ first_of (drop (counts read v) (records v))
  pub no_more : (v : ℕ) → n ≤ v → records v ≡ []

-- The step that is chosen is ready, and if none is chosen, none is ready. A ready step continues what
-- was read. If all was read, it was read in an order of all steps; and if no step is ready and one was
-- not read, there is no such order.
pub record OneOrderOrNone : Type 0 where
  pub chosen : (records : ℕ → List Step) (read : List ℕ) (heads : List (Option Step)) (n v : ℕ)
      → AreHeads records read heads n → IsEarliest read heads n (Some v)
      → IsReady records (counts read) v
  pub stuck : (records : ℕ → List Step) (read : List ℕ) (heads : List (Option Step)) (n : ℕ)
      → AreHeads records read heads n → IsEarliest read heads n None
      → (v : ℕ) → IsReady records (counts read) v → ⊥
  pub goes_on : (records : ℕ → List Step) (read last : ℕ → ℕ) (vs : List ℕ) (v : ℕ)
      → Goes records read vs last → IsReady records last v
      → Goes records read (vs ++ v ∷ []) (one_more v last)
  pub order : (records : ℕ → List Step) (vs : List ℕ) (last : ℕ → ℕ) → Goes records nothing vs last
      → ((v : ℕ) → last v ≡ length (records v)) → IsOrder records vs
  pub none : (records : ℕ → List Step) (last : ℕ → ℕ)
      → ((v : ℕ) → IsReady records last v → ⊥) → (v : ℕ) → last v < length (records v)
      → (vs : List ℕ) → IsOrder records vs → ⊥
