-- One more entry is woven.
use Rattle.std.proofs.Common.{◌≡◌, ℕ, zero, suc, ◌<◌, ◌≤◌, ◌+◌, List, [], ◌∷◌, ◌++◌, Some, None, length, inl, inr, ap, ◌∙◌, sym, subst, slice_index, slice_set, arith}
use Rattle.std.proofs.Math.Path.{fun_ext}
use Rattle.std.proofs.Math.Numerals.{add-one}
use Rattle.std.proofs.lemmas.List.{append_assoc}
use Rattle.std.proofs.lemmas.Bool.{cases_lt}
use Rattle.topology.specs.At.{at}
use Rattle.run_model.specs.declared.event.Event.{Event}
use Rattle.weaving.specs.declared.journal.JournalEntry.{JournalEntry}
use Rattle.weaving.specs.Woven.{AreRising, IsNoLater, IsWoven}
use Rattle.weaving.specs.declared.journal.Journal.{Journal}
use Rattle.weaving.specs.Journals.{entries_in, journal_of, unread, entry_count, IsFirst}
use Rattle.weaving.proofs.FirstSoFar.{entries-length}
use Rattle.weaving.proofs.FirstOf.{woven-on, woven-none, still-rising}
use Rattle.weaving.proofs.Unread.{unread-length, unread-at, read-on, read-one-less, journal-past, fewer-read}

-- the counts of what is read, with one more of v's
abbrev pub one-more : List ℕ → ℕ → List ℕ
one-more read v = slice_set read v (slice_index read v + 1)

-- what follows from reading one more entry
pub record IsReadOn (js : List (List JournalEntry)) (read : List ℕ) (v : ℕ) (e : JournalEntry) : Type 0 where
  pub place : v < length read
  pub within : slice_index read v < length (journal_of js v)
  pub one_less : entry_count (unread js read) ≡ suc (entry_count (unread js (one-more read v)))
  pub rising : (u : ℕ) → AreRising (journal_of (unread js (one-more read v)) u)
  pub woven : (events : List Event) → IsWoven (journal_of (unread js (one-more read v))) events → IsWoven (journal_of (unread js read)) (e.event ∷ events)

pub reads-on : (js : List (List JournalEntry)) (read : List ℕ) (v : ℕ) (e : JournalEntry) → length js ≤ length read → IsFirst (unread js read) (length js) (Some (v, e))
    → ((u : ℕ) → AreRising (journal_of (unread js read) u)) → IsReadOn js read v e
reads-on js read v e enough first rise =
    let left = unread js read in
    let later = first.0 in
    let is = first.1 in
    let inside : v < length read = let a = first.2 in omega (arith, a, enough) in
    let more = one-more read v in
    let more-is : more ≡ slice_set read v (suc (slice_index read v)) = ap (slice_set read v) (add-one (slice_index read v)) in
    let after : at (journal_of left) v later ≡ journal_of (unread js more)
    = fun_ext (λ u. sym (subst (λ ks. journal_of (unread js ks) u ≡ at (journal_of left) v later u) (sym more-is) (read-on js read v e later inside is u))) in
    let first-of : (u : ℕ) (x : JournalEntry) (xs : List JournalEntry) → journal_of left u ≡ x ∷ xs → IsNoLater (record { node = v; entry = e }) (record { node = u; entry = x })
    = λ u x xs h. first.3 u x xs (there js read u x xs h) h in record {
      place = inside;
      within = fewer-read (slice_index read v) (journal_of js v) e later (sym (unread-at js read v inside) ∙ is);
      one_less = subst (λ ks. entry_count left ≡ suc (entry_count (unread js ks))) (sym more-is) (read-one-less js read v e later inside is);
      rising = λ u. subst (λ f. AreRising (f u)) after (still-rising (journal_of left) v e later rise is u);
      woven = λ events w. woven-on (journal_of left) v e later events rise is first-of (subst (λ f. IsWoven f events) (sym after) w);
    } where
      there : (js : List (List JournalEntry)) (read : List ℕ) (u : ℕ) (x : JournalEntry) (xs : List JournalEntry) → journal_of (unread js read) u ≡ x ∷ xs → u < length js
      there js read u x xs h =
          let past : length js ≤ u → ⊥
          = λ l. let e : ◌≡◌ {A = List JournalEntry} [] (x ∷ xs) = sym (journal-past (unread js read) u (subst (λ n. n ≤ u) (sym (unread-length js read)) l)) ∙ h in absurd cc in
          grind (arith, past)

-- a journal is no longer than all of them
pub one-of-all : (js : List (List JournalEntry)) (v : ℕ) → length (journal_of js v) ≤ entry_count js
one-of-all [] v = omega arith
one-of-all (j ∷ js) zero = omega arith
one-of-all (j ∷ js) (suc v) = let l = one-of-all js v in omega (arith, l)

-- if no entry is left, all is woven
pub all-read : (js : List (List JournalEntry)) (read : List ℕ) → IsFirst (unread js read) (length js) None → IsWoven (journal_of (unread js read)) []
all-read js read none = woven-none (journal_of (unread js read)) (λ u. by-place js read none u) where
  by-place : (js : List (List JournalEntry)) (read : List ℕ) → IsFirst (unread js read) (length js) None → (u : ℕ) → journal_of (unread js read) u ≡ []
  by-place js read none u = elim (cases_lt u (length js)) [
    | inl l ↦ none u l
    | inr l ↦ journal-past (unread js read) u (subst (λ n. n ≤ u) (sym (unread-length js read)) l)
  ]

-- the same for at most 64 journals in a row
pub journals-read-on : {A : Type 0} (js : List (Journal A)) (read : List ℕ) (v : ℕ) (e : JournalEntry) → length js ≤ 64 → length read ≡ 64
    → IsFirst (unread (entries_in js) read) (length js) (Some (v, e)) → ((u : ℕ) → AreRising (journal_of (unread (entries_in js) read) u))
    → IsReadOn (entries_in js) read v e
journals-read-on js read v e few long first rise =
    let same = entries-length js in
    reads-on (entries_in js) read v e (omega (arith, few, long, same))
    (subst (λ n. IsFirst (unread (entries_in js) read) n (Some (v, e))) (sym same) first) rise

pub journals-all-read : {A : Type 0} (js : List (Journal A)) (read : List ℕ) → IsFirst (unread (entries_in js) read) (length js) None
    → IsWoven (journal_of (unread (entries_in js) read)) []
journals-all-read js read none =
    all-read (entries_in js) read (subst (λ n. IsFirst (unread (entries_in js) read) n None) (sym (entries-length js)) none)

-- what is woven before it, too
pub after-it : (js left : ℕ → List JournalEntry) (out : List Event) (e : Event) (events : List Event)
    → ((later : List Event) → IsWoven left later → IsWoven js (out ++ later)) → IsWoven left (e ∷ events) → IsWoven js ((out ++ e ∷ []) ++ events)
after-it js left out e events before w = subst (IsWoven js) (sym (append_assoc out (e ∷ []) events)) (before (e ∷ events) w)
