-- Reading journals, entry by entry.
use Rattle.std.proofs.Common.{◌≡◌, ℕ, zero, suc, ◌<◌, ◌≤◌, List, [], ◌∷◌, drop, length, refl, ap, ◌∙◌, sym, subst, slice_index, replicate, slice_set, arith}
use Rattle.std.proofs.lemmas.Grind.{common_steps}
use Rattle.topology.specs.At.{at}
use Rattle.weaving.specs.declared.journal.JournalEntry.{JournalEntry}
use Rattle.weaving.specs.Journals.{journal_of, unread, entry_count}

-- what is after the first of what is left
pub drop-after : {X : Type 0} (k : ℕ) (xs : List X) (x : X) (rest : List X) → drop k xs ≡ x ∷ rest → drop (suc k) xs ≡ rest
drop-after zero [] x rest h = absurd cc
drop-after zero (y ∷ ys) x rest h = cc
drop-after (suc k) [] x rest h = absurd cc
drop-after (suc k) (y ∷ ys) x rest h = drop-after k ys x rest h

drop-nil : (k : ℕ) → ◌≡◌ {A = List JournalEntry} (drop k []) []
drop-nil zero = refl
drop-nil (suc k) = refl

at-after : (f : ℕ → List JournalEntry) (v : ℕ) (rest : List JournalEntry) (u : ℕ) → at (λ i. f (suc i)) v rest u ≡ at f (suc v) rest (suc u)
at-after f v rest u = grind (arith, common_steps)

at-first : (f : ℕ → List JournalEntry) (v : ℕ) (rest : List JournalEntry) → f zero ≡ at f (suc v) rest zero
at-first f v rest = grind (arith, common_steps)

at-later : (f : ℕ → List JournalEntry) (rest : List JournalEntry) (u : ℕ) → f (suc u) ≡ at f zero rest (suc u)
at-later f rest u = grind (arith, common_steps)

pub unread-length : (js : List (List JournalEntry)) (ks : List ℕ) → length (unread js ks) ≡ length js
unread-length [] ks = refl
unread-length (j ∷ js) [] = refl
unread-length (j ∷ js) (k ∷ ks) = ap suc (unread-length js ks)

pub unread-at : (js : List (List JournalEntry)) (ks : List ℕ) (v : ℕ) → v < length ks → journal_of (unread js ks) v ≡ drop (slice_index ks v) (journal_of js v)
unread-at [] ks v l = sym (drop-nil (slice_index ks v))
unread-at (j ∷ js) [] v l = absurd (omega arith)
unread-at (j ∷ js) (k ∷ ks) zero l = refl
unread-at (j ∷ js) (k ∷ ks) (suc v) l = unread-at js ks v (omega arith)

-- one more of v's entries is read
pub read-on : (js : List (List JournalEntry)) (ks : List ℕ) (v : ℕ) (e : JournalEntry) (rest : List JournalEntry) → v < length ks → journal_of (unread js ks) v ≡ e ∷ rest
    → (u : ℕ) → journal_of (unread js (slice_set ks v (suc (slice_index ks v)))) u ≡ at (journal_of (unread js ks)) v rest u
read-on [] ks v e rest l h u = absurd cc
read-on (j ∷ js) [] v e rest l h u = absurd (omega arith)
read-on (j ∷ js) (k ∷ ks) zero e rest l h zero = drop-after k j e rest h
read-on (j ∷ js) (k ∷ ks) zero e rest l h (suc u) = at-later (journal_of (drop k j ∷ unread js ks)) rest u
read-on (j ∷ js) (k ∷ ks) (suc v) e rest l h zero = at-first (journal_of (drop k j ∷ unread js ks)) v rest
read-on (j ∷ js) (k ∷ ks) (suc v) e rest l h (suc u) = read-on js ks v e rest (omega arith) h u ∙ at-after (journal_of (drop k j ∷ unread js ks)) v rest u

pub read-one-less : (js : List (List JournalEntry)) (ks : List ℕ) (v : ℕ) (e : JournalEntry) (rest : List JournalEntry) → v < length ks → journal_of (unread js ks) v ≡ e ∷ rest
    → entry_count (unread js ks) ≡ suc (entry_count (unread js (slice_set ks v (suc (slice_index ks v)))))
read-one-less [] ks v e rest l h = absurd cc
read-one-less (j ∷ js) [] v e rest l h = absurd (omega arith)
read-one-less (j ∷ js) (k ∷ ks) zero e rest l h =
    let after = drop-after k j e rest h in
    let now : length (drop k j) ≡ suc (length rest) = ap length h in
    let next : length (drop (suc k) j) ≡ length rest = ap length after in omega (arith, now, next)
read-one-less (j ∷ js) (k ∷ ks) (suc v) e rest l h =
    let less = read-one-less js ks v e rest (omega arith) h in omega (arith, less)

-- nothing is read at the start
pub unread-start : (js : List (List JournalEntry)) (ks : List ℕ) → ((i : ℕ) → slice_index ks i ≡ 0) → unread js ks ≡ js
unread-start [] ks none = refl
unread-start (j ∷ js) [] none = refl
unread-start (j ∷ js) (k ∷ ks) none =
    subst (λ n. ◌≡◌ {A = List (List JournalEntry)} (drop n j ∷ unread js ks) (j ∷ js)) (sym (none 0)) (ap (λ xs. j ∷ xs) (unread-start js ks (λ i. none (suc i))))

pub journal-past : (js : List (List JournalEntry)) (v : ℕ) → length js ≤ v → journal_of js v ≡ []
journal-past [] v l = refl
journal-past (j ∷ js) zero l = absurd (omega arith)
journal-past (j ∷ js) (suc v) l = journal-past js v (omega arith)

-- if an entry is unread, less was read than the journal has
pub fewer-read : (k : ℕ) (es : List JournalEntry) (e : JournalEntry) (later : List JournalEntry) → drop k es ≡ e ∷ later → k < length es
fewer-read zero [] e later h = absurd cc
fewer-read zero (x ∷ es) e later h = omega arith
fewer-read (suc k) [] e later h = absurd cc
fewer-read (suc k) (x ∷ es) e later h = let l = fewer-read k es e later h in omega (arith, l)

pub some-unread : (js : List (List JournalEntry)) (v : ℕ) (e : JournalEntry) (later : List JournalEntry) → journal_of js v ≡ e ∷ later → 0 < entry_count js
some-unread [] v e later h = absurd cc
some-unread (j ∷ js) zero e later h = let l : length j ≡ suc (length later) = ap length h in omega (arith, l)
some-unread (j ∷ js) (suc v) e later h = let l = some-unread js v e later h in omega (arith, l)

-- a row of zeros
pub noughts : (n i : ℕ) → slice_index (replicate n 0) i ≡ 0
noughts zero i = refl
noughts (suc n) zero = refl
noughts (suc n) (suc i) = noughts n i
