-- The woven list begins with the entry that comes first.
use Rattle.std.proofs.Common.{◌≡◌, ◌==◌, Bool, true, false, ℕ, ◌<◌, List, [], ◌∷◌, inl, inr, refl, ap, ◌∙◌, sym, subst, if◌then◌else◌, arith}
use Rattle.std.proofs.lemmas.Bool.{cases_eq}
use Rattle.std.proofs.lemmas.Grind.{common_steps}
use Rattle.std.specs.List.{AllByRecursion}
use Rattle.topology.specs.At.{at}
use Rattle.run_model.specs.declared.event.Event.{Event}
use Rattle.weaving.specs.declared.journal.JournalEntry.{JournalEntry}
use Rattle.weaving.specs.Woven.{AreRising, Placed, IsNoLater, entries_of, IsWoven}
use Rattle.run_model.proofs.Changed.{at-each, at-here, at-other}

-- what holds for the entries of a node holds for those after the first
after-first : (P : Placed → Type 0) (v : ℕ) (p : Placed) (ps : List Placed) → AllByRecursion (λ e. P (record { node = v; entry = e })) (entries_of v (p ∷ ps))
    → AllByRecursion (λ e. P (record { node = v; entry = e })) (entries_of v ps)
after-first P v p ps all = go (p.node == v) all where
  go : (b : Bool) → AllByRecursion (λ e. P (record { node = v; entry = e })) (if b then p.entry ∷ entries_of v ps else entries_of v ps)
      → AllByRecursion (λ e. P (record { node = v; entry = e })) (entries_of v ps)
  go true both = both.1
  go false rest = rest

-- what holds for each node's entries holds for all
of-all : (P : Placed → Type 0) (ps : List Placed) → ((v : ℕ) → AllByRecursion (λ e. P (record { node = v; entry = e })) (entries_of v ps)) → AllByRecursion P ps
of-all P [] each = tt
of-all P (p ∷ ps) each =
    let here : entries_of p.node (p ∷ ps) ≡ p.entry ∷ entries_of p.node ps = grind (arith, common_steps) in
    let both = subst (AllByRecursion (λ e. P (record { node = p.node; entry = e }))) here (each p.node) in
    (both.0, of-all P ps (λ v. after-first P v p ps (each v)))

grows : (p : Placed) (v : ℕ) (e x : JournalEntry) → IsNoLater p (record { node = v; entry = e }) → e.stamp < x.stamp → IsNoLater p (record { node = v; entry = x })
grows p v e x (inl l) more = inl (omega arith)
grows p v e x (inr both) more = let same = both.0 in inl (omega arith)

-- nothing in a rising journal is earlier than its first entry
from-first : (p : Placed) (v : ℕ) (es : List JournalEntry) → AreRising es → ((e : JournalEntry) (rest : List JournalEntry) → es ≡ e ∷ rest → IsNoLater p (record { node = v; entry = e }))
    → AllByRecursion (λ e. IsNoLater p (record { node = v; entry = e })) es
from-first p v [] rise first = tt
from-first p v (e ∷ es) rise first =
    let one = first e es refl in (one, later es rise.0 one) where
      later : (xs : List JournalEntry) → AllByRecursion (λ x. e.stamp < x.stamp) xs → IsNoLater p (record { node = v; entry = e })
          → AllByRecursion (λ x. IsNoLater p (record { node = v; entry = x })) xs
      later [] rises one = tt
      later (x ∷ xs) rises one = (grows p v e x one rises.0, later xs rises.1 one)

complete-one : (journal : ℕ → List JournalEntry) (v : ℕ) (e : JournalEntry) (later : List JournalEntry) (ps : List Placed) → journal v ≡ e ∷ later
    → ((u : ℕ) → entries_of u ps ≡ at journal v later u) → (u : ℕ) → entries_of u (record { node = v; entry = e } ∷ ps) ≡ journal u
complete-one journal v e later ps is all u = elim (cases_eq u v) [
  | inl same ↦
      let here : entries_of v (record { node = v; entry = e } ∷ ps) ≡ e ∷ entries_of v ps = grind (arith, common_steps) in
      subst (λ i. entries_of i (record { node = v; entry = e } ∷ ps) ≡ journal i) (sym same)
      (here ∙ (ap (λ xs. e ∷ xs) (all v ∙ at-here journal v later) ∙ sym is))
  | inr apart ↦
      let there : entries_of u (record { node = v; entry = e } ∷ ps) ≡ entries_of u ps = grind (arith, common_steps) in
      there ∙ (all u ∙ at-other journal v later u apart)
]

-- one entry, and then what is woven from the rest
pub woven-on : (journal : ℕ → List JournalEntry) (v : ℕ) (e : JournalEntry) (later : List JournalEntry) (events : List Event)
    → ((u : ℕ) → AreRising (journal u)) → journal v ≡ e ∷ later
    → ((u : ℕ) (x : JournalEntry) (xs : List JournalEntry) → journal u ≡ x ∷ xs → IsNoLater (record { node = v; entry = e }) (record { node = u; entry = x }))
    → IsWoven (at journal v later) events → IsWoven journal (e.event ∷ events)
woven-on journal v e later events rise is first woven =
    let p : Placed = record { node = v; entry = e } in
    let rest-rises : AreRising (e ∷ later) = subst AreRising is (rise v) in
    let at-own : AllByRecursion (λ x. IsNoLater p (record { node = v; entry = x })) (e ∷ later)
    = from-first p v (e ∷ later) rest-rises (λ x xs h. first v x xs (is ∙ h)) in
    let after : (u : ℕ) → AllByRecursion (λ x. IsNoLater p (record { node = u; entry = x })) (at journal v later u)
    = at-each (λ u xs. AllByRecursion (λ x. IsNoLater p (record { node = u; entry = x })) xs) journal v later at-own.1
    (λ u apart. from-first p u (journal u) (rise u) (λ x xs h. first u x xs h)) in
    let all = of-all (IsNoLater p) woven.placed
    (λ u. subst (AllByRecursion (λ x. IsNoLater p (record { node = u; entry = x }))) (sym (woven.complete u)) (after u)) in
    record {
      placed = p ∷ woven.placed;
      are_events = ap (λ xs. e.event ∷ xs) woven.are_events;
      ordered = (all, woven.ordered);
      complete = λ u. complete-one journal v e later woven.placed is woven.complete u;
    }

-- nothing is woven from empty journals
pub woven-none : (journal : ℕ → List JournalEntry) → ((v : ℕ) → journal v ≡ []) → IsWoven journal []
woven-none journal none = record { placed = []; are_events = refl; ordered = tt; complete = λ v. sym (none v) }

-- a rising journal still rises without one of its first entries
pub still-rising : (journal : ℕ → List JournalEntry) (v : ℕ) (e : JournalEntry) (later : List JournalEntry) → ((u : ℕ) → AreRising (journal u)) → journal v ≡ e ∷ later
    → (u : ℕ) → AreRising (at journal v later u)
still-rising journal v e later rise is =
    let rest-rises : AreRising (e ∷ later) = subst AreRising is (rise v) in
    at-each (λ u es. AreRising es) journal v later rest-rises.1 (λ u _. rise u)
