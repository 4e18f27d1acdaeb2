-- Looking for the entry that comes first, journal by journal.
use Rattle.std.proofs.Common.{◌≡◌, ◌≢◌, ℕ, zero, suc, ◌<◌, ◌≤◌, ◌+◌, List, [], ◌∷◌, Option, Some, None, drop, length, slice_index_or, slice_get, inl, inr, refl, ap, ◌∙◌, sym, subst, arith}
use Rattle.std.proofs.lemmas.Bool.{cases_Bool, cases_eq}
use Rattle.std.proofs.lemmas.Grind.{common_steps}
use Rattle.std.specs.Prelude.{if◌then◌else◌, nat_le}
use Rattle.weaving.specs.declared.journal.JournalEntry.{JournalEntry}
use Rattle.weaving.specs.declared.journal.Journal.{Journal}
use Rattle.weaving.specs.Woven.{IsNoLater}
use Rattle.weaving.specs.Journals.{entries_in, journal_of, IsFirst, earlier, with_next}

-- this node's entry is earlier
abbrev pub IsEarlier : JournalEntry → Option (ℕ × JournalEntry) → Type 0
IsEarlier x None = Unit {0}
IsEarlier x (Some first) = x.stamp < first.1.stamp

below-next : (u n : ℕ) → u < n + 1 → u ≢ n → u < n
below-next u n l apart = grind (arith, apart)

-- a journal that is read to its end
pub first-passes : (xs : List (List JournalEntry)) (n : ℕ) (first : Option (ℕ × JournalEntry)) → journal_of xs n ≡ [] → IsFirst xs n first → IsFirst xs (n + 1) first
first-passes xs n None none h = λ u l. elim (cases_eq u n) [
  | inl same ↦ subst (λ i. journal_of xs i ≡ []) (sym same) none
  | inr apart ↦ h u (below-next u n l apart)
]
first-passes xs n (Some first) none h = (
  h.0,
  h.1,
  omega (arith, h.2),
  λ u e es l is. elim (cases_eq u n) [
    | inl same ↦ let no-entry : ◌≡◌ {A = List JournalEntry} [] (e ∷ es) = sym none ∙ (ap (journal_of xs) (sym same) ∙ is) in absurd cc
    | inr apart ↦ h.3 u e es (below-next u n l apart) is
  ],
)

-- a journal whose first entry does not come earlier
pub first-stays : (xs : List (List JournalEntry)) (n v : ℕ) (e x : JournalEntry) (later : List JournalEntry) → journal_of xs n ≡ x ∷ later → e.stamp ≤ x.stamp
    → IsFirst xs n (Some (v, e)) → IsFirst xs (n + 1) (Some (v, e))
first-stays xs n v e x later is no-less h = (
  h.0,
  h.1,
  omega (arith, h.2),
  λ u y ys l is-y. elim (cases_eq u n) [
    | inl same ↦
        let both : ◌≡◌ {A = List JournalEntry} (x ∷ later) (y ∷ ys) = sym is ∙ (ap (journal_of xs) (sym same) ∙ is-y) in
        let one : x ≡ y = cc in
        let stamp : x.stamp ≡ y.stamp = ap (λ z. z.stamp) one in
        let before : v < n = h.2 in
        tie e y v u (omega (arith, stamp, no-less)) (omega (arith, before, same))
    | inr apart ↦ h.3 u y ys (below-next u n l apart) is-y
  ],
) where
  tie : (a b : JournalEntry) (i j : ℕ) → a.stamp ≤ b.stamp → i ≤ j → IsNoLater (record { node = i; entry = a }) (record { node = j; entry = b })
  tie a b i j l m = grind arith

-- a journal whose first entry comes earlier
pub first-changes : (xs : List (List JournalEntry)) (n : ℕ) (first : Option (ℕ × JournalEntry)) (x : JournalEntry) (later : List JournalEntry) → journal_of xs n ≡ x ∷ later → IsEarlier x first
    → IsFirst xs n first → IsFirst xs (n + 1) (Some (n, x))
first-changes xs n first x later is earlier h = (
  later,
  is,
  omega arith,
  λ u y ys l is-y. elim (cases_eq u n) [
    | inl same ↦
        let both : ◌≡◌ {A = List JournalEntry} (x ∷ later) (y ∷ ys) = sym is ∙ (ap (journal_of xs) (sym same) ∙ is-y) in
        let one : x ≡ y = cc in
        inr (ap (λ z. z.stamp) one, omega (arith, same))
    | inr apart ↦ other first earlier h u y ys (below-next u n l apart) is-y
  ],
) where
  other : (r : Option (ℕ × JournalEntry)) → IsEarlier x r → IsFirst xs n r → (u : ℕ) (y : JournalEntry) (ys : List JournalEntry) → u < n → journal_of xs u ≡ y ∷ ys
      → IsNoLater (record { node = n; entry = x }) (record { node = u; entry = y })
  other None less none u y ys l is-y = let no-entry : ◌≡◌ {A = List JournalEntry} [] (y ∷ ys) = sym (none u l) ∙ is-y in absurd cc
  other (Some r) less some u y ys l is-y = by (some.3 u y ys l is-y) less where
    by : IsNoLater (record { node = r.0; entry = r.1 }) (record { node = u; entry = y }) → x.stamp < r.1.stamp
        → IsNoLater (record { node = n; entry = x }) (record { node = u; entry = y })
    by (inl l2) less2 = inl (omega arith)
    by (inr t) less2 = let tie = t.0 in inl (omega arith)

by-stamps : (xs : List (List JournalEntry)) (n v : ℕ) (e x : JournalEntry) (later : List JournalEntry) → journal_of xs n ≡ x ∷ later → IsFirst xs n (Some (v, e))
    → IsFirst xs (n + 1) (earlier (Some (v, e)) n x)
by-stamps xs n v e x later is h = elim (cases_Bool (nat_le e.stamp x.stamp)) [
  | inl test ↦
      let less : e.stamp ≤ x.stamp = grind (arith, common_steps) in
      let same : earlier (Some (v, e)) n x ≡ Some (v, e) = ap (λ b. if b then Some (v, e) else Some (n, x)) test in
      subst (IsFirst xs (n + 1)) (sym same) (first-stays xs n v e x later is less h)
  | inr other ↦
      let more : x.stamp < e.stamp = grind (arith, common_steps) in
      let new : earlier (Some (v, e)) n x ≡ Some (n, x) = ap (λ b. if b then Some (v, e) else Some (n, x)) other in
      subst (IsFirst xs (n + 1)) (sym new) (first-changes xs n (Some (v, e)) x later is more h)
]

-- the first of one more journal
pub first-on : (xs : List (List JournalEntry)) (n : ℕ) (first : Option (ℕ × JournalEntry)) (es : List JournalEntry) → journal_of xs n ≡ es → IsFirst xs n first
    → IsFirst xs (n + 1) (with_next first n es)
first-on xs n first [] is h = first-passes xs n first is h
first-on xs n None (x ∷ later) is h = first-changes xs n None x later is tt h
first-on xs n (Some (v, e)) (x ∷ later) is h = by-stamps xs n v e x later is h

-- after k entries come one more entry, and what is after k + 1
pub drop-some : (k : ℕ) (es : List JournalEntry) → k < length es → (x : JournalEntry) × (drop k es ≡ x ∷ drop (suc k) es) × (slice_get es k ≡ Some x)
drop-some k [] l = absurd (omega arith)
drop-some zero (e ∷ es) l = (e, refl, refl)
drop-some (suc k) (e ∷ es) l = drop-some k es (omega arith)

pub drop-none : (k : ℕ) (es : List JournalEntry) → length es ≤ k → drop k es ≡ []
drop-none zero [] l = refl
drop-none zero (e ∷ es) l = absurd (omega arith)
drop-none (suc k) [] l = refl
drop-none (suc k) (e ∷ es) l = drop-none k es (omega arith)

-- a journal in a row is the one at its place
pub own-journal : {A : Type 0} (js : List (Journal A)) (n : ℕ) (j : Journal A) → n < length js → j ≡ slice_index_or js n j
    → journal_of (entries_in js) n ≡ j.entries.items
own-journal [] n j l is = absurd (omega arith)
own-journal (k ∷ js) zero j l is = ap (λ x. x.entries.items) (sym is)
own-journal (k ∷ js) (suc n) j l is = own-journal js n j (omega arith) is

pub entries-length : {A : Type 0} (js : List (Journal A)) → length (entries_in js) ≡ length js
entries-length [] = refl
entries-length (j ∷ js) = ap suc (entries-length js)
