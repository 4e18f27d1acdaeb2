-- An entry that was written is read again, a front of it is short, and what is read stands there as
-- it is written.
use Rattle.std.proofs.Common.{◌≡◌, ◌∙◌, ap, sym, refl, subst, arith, ℕ, ◌-◌, ◌==◌, Bool, true, List, [], ◌∷◌, ◌++◌, length, take, Result, Ok, Err, ◌⊎◌, inl, inr, append_assoc}
use Rattle.std.proofs.lemmas.Grind.{common_steps}
use Rattle.std.proofs.lemmas.Bool.Decides.{Decides-eqb}
use Rattle.std.proofs.lemmas.List.{take_at, length-append, append-nil}
use Rattle.leb128.specs.declared.unread.Unread.{Unread}
use Rattle.leb128.specs.declared.unread.Unread.TheVariants.{Short}
use Rattle.leb128.specs.Spelling.{leb128, in_a_row}
use Rattle.leb128.specs.Reading.{◌>>=◌, number_at, numbers_at}
use Rattle.leb128.specs.Laws.{AreBytes, AreReadAgain, CutAreShort, WhatIsReadIsSpelled as WhatIsSpelled}
use Rattle.flight_records.specs.declared.entry.Entry.{Entry}
use Rattle.flight_records.specs.Numbers.{kind, fields}
use Rattle.flight_records.specs.Spelling.{numbers, check, spelling, record_of}
use Rattle.flight_records.specs.Reading.{count_of, entry_of, checked, entry_at}
use Rattle.flight_records.specs.Laws.{Follows, instant_after, WrittenIsRead, CutIsRead, WhatIsReadIsWritten, RecordsGrow}
use Rattle.flight_records.proofs.NotedAgain.{count-again, numbers-wide, entry_of-again, entry_of-takes}

-- the value of a step that did not fail
bind_ok : {A B : Type 0} (r : Result A Unread) (f : A → Result B Unread) (y : B) → (r >>= f) ≡ Ok y
    → (x : A) × (r ≡ Ok x) × (f x ≡ Ok y)
bind_ok (Ok x) f y e = (x, refl, e)
bind_ok (Err d) f y e = absurd cc

-- a cut stands within the first of two lists, or after it
cut-cases : (a b front back : List ℕ) → a ++ b ≡ front ++ back
    → ((d : ℕ) × (more : List ℕ) × (a ≡ front ++ d ∷ more)) ⊎ ((more : List ℕ) × (front ≡ a ++ more) × (b ≡ more ++ back))
cut-cases [] b front back e = inr (front, refl, e)
cut-cases (x ∷ a) b [] back e = inl (x, a, refl)
cut-cases (x ∷ a) b (y ∷ front) back e =
    let head : x ≡ y = cc in
    let tail : a ++ b ≡ front ++ back = cc in
    elim (cut-cases a b front back tail) [
      | inl w ↦ inl (w.0, w.1, rw head (ap (λ (l : List ℕ). y ∷ l) w.2))
      | inr v ↦ inr (v.0, rw head (ap (λ (l : List ℕ). y ∷ l) v.1), v.2)
    ]

-- the numbers of an entry, after their kind
abbrev following : ℕ → Entry → List ℕ
following last e = (e.instant - last) ∷ fields e.noted

-- the bytes that the check checks
abbrev body : ℕ → Entry → List ℕ
body last e = in_a_row (numbers last e)

-- an entry's spelling, by its parts
parts : (last : ℕ) (e : Entry) (rest : List ℕ) → spelling last e ++ rest ≡ body last e ++ (check (body last e) ∷ rest)
unfolding spelling
parts last e rest = append_assoc (body last e) (check (body last e) ∷ []) rest

by_kind : (last : ℕ) (e : Entry) (rest : List ℕ) → body last e ++ rest ≡ leb128 (kind e.noted) ++ (in_a_row (following last e) ++ rest)
by_kind last e rest = append_assoc (leb128 (kind e.noted)) (in_a_row (following last e)) rest

front-is : (text rest : List ℕ) → take (length (text ++ rest) - length rest) (text ++ rest) ≡ text
front-is text rest = take_at text rest (length (text ++ rest) - length rest) (omega (arith, length-append text rest))

pub records-grow : RecordsGrow
records-grow last [] e order f = ((f, tt), refl, append-nil (spelling last e))
records-grow last (x ∷ es) e order f =
    let rest = records-grow x.instant es e order.1 f in
    ((order.0, rest.0), rest.1, ap (λ (l : List ℕ). spelling last x ++ l) rest.2 ∙ sym (append_assoc (spelling last x) (record_of x.instant es) (spelling (instant_after x.instant es) e)))

module _ (again : AreReadAgain) (cut : CutAreShort) (spelled : WhatIsSpelled) where
  -- what is done with the numbers, if they are whole
  numbers-read : (last : ℕ) (e : Entry) (rest : List ℕ) → Follows last e
      → entry_at last (body last e ++ rest) ≡ checked last (kind e.noted) (following last e) (body last e ++ rest) rest
  unfolding entry_at
  numbers-read last e rest f =
      let wide = numbers-wide last e f in
      let first : number_at (body last e ++ rest) ≡ Ok (kind e.noted, in_a_row (following last e) ++ rest) =
      ap number_at (by_kind last e rest) ∙ again.one (kind e.noted) (in_a_row (following last e) ++ rest) wide.0 in
      rw (first, count-again e.noted, again.row (following last e) rest wide.1) refl

  pub entry-again : (last : ℕ) (e : Entry) (rest : List ℕ) → Follows last e → entry_at last (spelling last e ++ rest) ≡ Ok (e, rest)
  unfolding checked
  entry-again last e rest f =
      let text = body last e in
      let right : ◌≡◌ {A = Bool} (check text == check text) true = (Decides-eqb (check text) (check text)).1 refl in
      rw (parts last e rest, numbers-read last e (check text ∷ rest) f, front-is text (check text ∷ rest), right, entry_of-again last e f) refl

  -- a front of the numbers is short
  body-cut : (last : ℕ) (e : Entry) (front : List ℕ) (b : ℕ) (back : List ℕ) → Follows last e → body last e ≡ front ++ b ∷ back
      → entry_at last front ≡ Err Short
  unfolding entry_at
  body-cut last e front b back f h =
      let wide = numbers-wide last e f in
      elim (cut-cases (leb128 (kind e.noted)) (in_a_row (following last e)) front (b ∷ back) h) [
        | inl w ↦ rw (cut.one (kind e.noted) front w.0 w.1 w.2) refl
        | inr v ↦
            let first : number_at front ≡ Ok (kind e.noted, v.0) = ap number_at v.1 ∙ again.one (kind e.noted) v.0 wide.0 in
            rw (first, count-again e.noted, cut.row (following last e) v.0 b back wide.1 v.2) refl
      ]

  not-nil : (xs : List ℕ) (b : ℕ) (back : List ℕ) → [] ≡ xs ++ b ∷ back → ⊥
  not-nil [] b back e = absurd cc
  not-nil (x ∷ xs) b back e = absurd cc

  only-nil : (c d : ℕ) (more back : List ℕ) → c ∷ [] ≡ more ++ d ∷ back → more ≡ []
  only-nil c d [] back e = refl
  only-nil c d (x ∷ more) back e = let tail : [] ≡ more ++ d ∷ back = cc in absurd (not-nil more d back tail)

  pub entry-cut : (last : ℕ) (e : Entry) (front : List ℕ) (b : ℕ) (back : List ℕ) → Follows last e → spelling last e ≡ front ++ b ∷ back
      → entry_at last front ≡ Err Short
  unfolding checked spelling
  entry-cut last e front b back f h =
      elim (cut-cases (body last e) (check (body last e) ∷ []) front (b ∷ back) h) [
        | inl w ↦ body-cut last e front w.0 w.1 f w.2
        | inr v ↦
            let none : v.0 ≡ [] = only-nil (check (body last e)) b v.0 back v.2 in
            let front-are : front ≡ body last e ++ [] = v.1 ∙ ap (λ (l : List ℕ). body last e ++ l) none in
            ap (entry_at last) front-are ∙ numbers-read last e [] f
      ]

  checked-takes : (last k : ℕ) (ns bytes left : List ℕ) (e : Entry) (rest : List ℕ) → checked last k ns bytes left ≡ Ok (e, rest)
      → (left ≡ check (take (length bytes - length left) bytes) ∷ rest) × (entry_of last k ns ≡ Ok e)
  unfolding checked
  checked-takes last k ns bytes [] e rest h = absurd cc
  checked-takes last k ns bytes (c ∷ after) e rest h = (grind (arith, common_steps), grind (arith, common_steps))

  pub entry-takes : WhatIsReadIsWritten
  unfolding entry_at spelling
  entry-takes last bytes e rest small h =
      let first = bind_ok (number_at bytes) (λ k. (count_of k.0 >>= λ count. (numbers_at count k.1 >>= λ ns. checked last k.0 ns.0 bytes ns.1))) (e, rest) h in
      let k = first.0 in
      let second = bind_ok (count_of k.0) (λ count. (numbers_at count k.1 >>= λ ns. checked last k.0 ns.0 bytes ns.1)) (e, rest) first.2 in
      let third = bind_ok (numbers_at second.0 k.1) (λ ns. checked last k.0 ns.0 bytes ns.1) (e, rest) second.2 in
      let ns = third.0 in
      let c = checked-takes last k.0 ns.0 bytes ns.1 e rest third.2 in
      let has = entry_of-takes last k.0 ns.0 e c.1 in
      let one = spelled.one bytes k.0 k.1 small first.1 in
      let row = spelled.row second.0 k.1 ns.0 ns.1 one.2 third.1 in
      let text : bytes ≡ body last e ++ ns.1 =
      one.0 ∙ ap (λ (l : List ℕ). leb128 k.0 ++ l) row.parts
      ∙ ap (λ (n : ℕ). leb128 n ++ (in_a_row ns.0 ++ ns.1)) (sym has.kind_is)
      ∙ ap (λ (l : List ℕ). leb128 (kind e.noted) ++ (in_a_row l ++ ns.1)) has.are ∙ sym (by_kind last e ns.1) in
      let front : take (length bytes - length ns.1) bytes ≡ body last e =
      ap (λ (l : List ℕ). take (length l - length ns.1) l) text ∙ front-is (body last e) ns.1 in
      let left-is : ns.1 ≡ check (body last e) ∷ rest = c.0 ∙ ap (λ (l : List ℕ). check l ∷ rest) front in
      let left-small : AreBytes (check (body last e) ∷ rest) = subst AreBytes left-is row.bytes_left in
      record {
        parts = text ∙ ap (λ (l : List ℕ). body last e ++ l) left-is ∙ sym (append_assoc (body last e) (check (body last e) ∷ []) rest);
        later = has.later;
        wide = has.wide;
        bytes_left = left-small.1;
      }

  pub written-read : WrittenIsRead
  written-read last [] left order = refl
  written-read last (e ∷ es) left order =
      let regrouped : (spelling last e ++ record_of e.instant es) ++ left ≡ spelling last e ++ (record_of e.instant es ++ left) =
      append_assoc (spelling last e) (record_of e.instant es) left in
      (record_of e.instant es ++ left, ap (entry_at last) regrouped ∙ entry-again last e (record_of e.instant es ++ left) order.0, written-read e.instant es left order.1)

  none-short : (last : ℕ) → entry_at last [] ≡ Err Short
  unfolding entry_at number_at
  none-short last = refl

  both-nil : (a b : List ℕ) → [] ≡ a ++ b → a ≡ []
  both-nil [] b e = refl
  both-nil (x ∷ a) b e = absurd cc

  pub cut-read : CutIsRead
  cut-read last [] front back order h =
      let none : front ≡ [] = both-nil front back h in
      record {
        whole = [];
        beyond = [];
        torn = front;
        entries = refl;
        bytes = refl;
        less = none;
        read = refl;
        then_short = ap (entry_at last) none ∙ none-short last;
      }
  cut-read last (e ∷ es) front back order h =
      elim (cut-cases (spelling last e) (record_of e.instant es) front back h) [
        | inl w ↦ record {
          whole = [];
          beyond = e ∷ es;
          torn = front;
          entries = refl;
          bytes = refl;
          less = (w.0, w.1, w.2);
          read = refl;
          then_short = entry-cut last e front w.0 w.1 order.0 w.2;
        }
        | inr v ↦
            let c = cut-read e.instant es v.0 back order.1 v.2 in
            record {
              whole = e ∷ c.whole;
              beyond = c.beyond;
              torn = c.torn;
              entries = ap (λ (l : List Entry). e ∷ l) c.entries;
              bytes = v.1 ∙ ap (λ (l : List ℕ). spelling last e ++ l) c.bytes ∙ sym (append_assoc (spelling last e) (record_of e.instant c.whole) c.torn);
              less = c.less;
              read = (v.0, ap (entry_at last) v.1 ∙ entry-again last e v.0 order.0, c.read);
              then_short = c.then_short;
            }
      ]
