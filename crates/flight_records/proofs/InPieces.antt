-- An entry at the front of a piece of a record is read in the same way if more bytes follow.
use Rattle.std.proofs.Common.{◌≡◌, ◌∙◌, ap, sym, refl, arith, ℕ, ◌+◌, ◌-◌, ◌*◌, ◌^◌, ◌≤◌, ◌==◌, nat_lt, Bool, true, false, List, [], ◌∷◌, ◌++◌, length, take, Result, Ok, Err, Option, Some, None, if◌then◌else◌}
use Rattle.std.proofs.lemmas.List.{take-append-le, length-append}
use Rattle.leb128.specs.declared.unread.Unread.{Unread}
use Rattle.leb128.specs.declared.unread.Unread.TheVariants.{Short, Invalid}
use Rattle.leb128.specs.Reading.{◌>>=◌, number_at, numbers_at}
use Rattle.leb128.specs.Pieces.{IsKept, IsOfAtMost, AreReadInPieces}
use Rattle.leb128.proofs.InPieces.{bind-kept, test-kept, bind-most, test-most}
use Rattle.flight_records.specs.declared.entry.Entry.{Entry}
use Rattle.flight_records.specs.declared.entry.Noted.{Noted}
use Rattle.flight_records.specs.Spelling.{check}
use Rattle.flight_records.specs.Reading.{with_fields, candidate, entry_with, count_of, entry_of, checked, entry_at}
use Rattle.flight_records.specs.Laws.{IsBegun}

-- what goes on from a value that no byte decides
value-kept : {X Y : Type 0} (more : List ℕ) (r : Result X Unread) (f g : X → Result (Y × List ℕ) Unread)
    → ((x : X) → IsKept more (f x) (g x)) → IsKept more (r >>= f) (r >>= g)
value-kept more (Ok x) f g on = on x
value-kept more (Err Short) f g on = tt
value-kept more (Err Invalid) f g on = refl

-- the bytes that were read are the same ones
same-front : (bytes more rest : List ℕ)
    → take (length (bytes ++ more) - length (rest ++ more)) (bytes ++ more) ≡ take (length bytes - length rest) bytes
same-front bytes more rest =
    let n : length (bytes ++ more) - length (rest ++ more) ≡ length bytes - length rest =
    omega (arith, length-append bytes more, length-append rest more) in
    rw n (take-append-le (length bytes - length rest) bytes more (omega arith))

checked-kept : (last k : ℕ) (ns bytes rest more : List ℕ)
    → IsKept more (checked last k ns bytes rest) (checked last k ns (bytes ++ more) (rest ++ more))
unfolding checked
checked-kept last k ns bytes [] more = tt
checked-kept last k ns bytes (c ∷ rest) more =
    rw (same-front bytes more (c ∷ rest))
    (test-kept more (c == check (take (length bytes - length (c ∷ rest)) bytes)) _ (Err Invalid) _ (Err Invalid)
    (value-kept more (entry_of last k ns) (λ e. Ok (e, rest)) (λ e. Ok (e, rest ++ more)) (λ e. refl)) refl)

module _ (law : AreReadInPieces) where
  pub entry-kept : (last : ℕ) (bytes more : List ℕ) → IsKept more (entry_at last bytes) (entry_at last (bytes ++ more))
  unfolding entry_at
  entry-kept last bytes more =
      bind-kept more (number_at bytes) (number_at (bytes ++ more))
      (λ k. (count_of k.0 >>= λ count. (numbers_at count k.1 >>= λ ns. checked last k.0 ns.0 bytes ns.1)))
      (λ k. (count_of k.0 >>= λ count. (numbers_at count k.1 >>= λ ns. checked last k.0 ns.0 (bytes ++ more) ns.1)))
      (law.one bytes more)
      (λ k. value-kept more (count_of k.0)
      (λ count. (numbers_at count k.1 >>= λ ns. checked last k.0 ns.0 bytes ns.1))
      (λ count. (numbers_at count (k.1 ++ more) >>= λ ns. checked last k.0 ns.0 (bytes ++ more) ns.1))
      (λ count. bind-kept more (numbers_at count k.1) (numbers_at count (k.1 ++ more))
      (λ ns. checked last k.0 ns.0 bytes ns.1) (λ ns. checked last k.0 ns.0 (bytes ++ more) ns.1)
      (law.row count k.1 more) (λ ns. checked-kept last k.0 ns.0 bytes ns.1 more)))

  -- what is read of a beginning
  begun : (back : List ℕ) (e : Entry) (rest : List ℕ) (r longer : Result (Entry × List ℕ) Unread) → IsKept back r longer
      → longer ≡ Ok (e, rest) → IsBegun back e rest r
  begun back e rest (Ok x) longer kept h =
      let both : ◌≡◌ {A = Result (Entry × List ℕ) Unread} (Ok (x.0, x.1 ++ back)) (Ok (e, rest)) = sym kept ∙ h in
      let pair : ◌≡◌ {A = Entry × List ℕ} (x.0, x.1 ++ back) (e, rest) = cc in
      (ap (λ (y : Entry × List ℕ). y.0) pair, sym (ap (λ (y : Entry × List ℕ). y.1) pair))
  begun back e rest (Err Short) longer kept h = tt
  begun back e rest (Err Invalid) longer kept h =
      let both : ◌≡◌ {A = Result (Entry × List ℕ) Unread} (Err Invalid) (Ok (e, rest)) = sym kept ∙ h in
      absurd cc

  pub entry-begun : (last : ℕ) (front back : List ℕ) (e : Entry) (rest : List ℕ) → entry_at last (front ++ back) ≡ Ok (e, rest)
      → IsBegun back e rest (entry_at last front)
  entry-begun last front back e rest h =
      begun back e rest (entry_at last front) (entry_at last (front ++ back)) (entry-kept last front back) h

  -- ---- how many bytes

  -- at most so many numbers follow, whichever kind it is, and none is short
  abbrev IsFew : Result ℕ Unread → Type 0
  IsFew (Ok n) = n ≤ 11
  IsFew (Err Short) = ⊥
  IsFew (Err Invalid) = Unit {0}

  one-of : (b : Bool) (r s : Result ℕ Unread) → IsFew r → IsFew s → IsFew (if b then r else s)
  one-of true r s h k = h
  one-of false r s h k = k

  few : (k : ℕ) → IsFew (count_of k)
  unfolding count_of
  few k = one-of (k == 1) (Ok 3) _ (omega arith) (one-of (k == 2) (Ok 3) _ (omega arith) (one-of (k == 3) (Ok 11) _ (omega arith) (one-of (k == 4) (Ok 2) _ (omega arith) (one-of (k == 5) (Ok 4) _ (omega arith) (one-of (k == 6) (Ok 1) _ (omega arith) (one-of (k == 7) (Ok 1) _ (omega arith) (one-of (k == 8) (Ok 7) _ (omega arith) (one-of (k == 10) (Ok 7) _ (omega arith) (one-of (k == 0) (Err Invalid) _ tt (one-of (nat_lt k 18) (Ok 2) _ (omega arith) tt))))))))))

  -- what is put together of numbers is no question of bytes
  abbrev IsSettled : Result Entry Unread → Type 0
  IsSettled (Ok e) = Unit {0}
  IsSettled (Err Short) = ⊥
  IsSettled (Err Invalid) = Unit {0}

  one-settled : (b : Bool) (e : Entry) → IsSettled (if b then Ok e else Err Invalid)
  one-settled true e = tt
  one-settled false e = tt

  with-settled : (instant : ℕ) (n : Option Noted) → IsSettled (entry_with instant n)
  with-settled instant None = tt
  with-settled instant (Some n) = one-settled (nat_lt instant (2 ^ 64)) (record { instant = instant; noted = n })

  settled : (last k : ℕ) (ns : List ℕ) → IsSettled (entry_of last k ns)
  unfolding entry_of
  settled last k [] = tt
  settled last k (passed ∷ fs) = with-settled (last + passed) (with_fields fs (candidate k fs))

  after-check : (c : ℕ) (rest : List ℕ) (r : Result Entry Unread) → IsSettled r
      → IsOfAtMost 1 (c ∷ rest) (r >>= λ e. Ok (e, rest))
  after-check c rest (Ok e) h = (c ∷ [], refl, omega arith)
  after-check c rest (Err Short) h = absurd h
  after-check c rest (Err Invalid) h = tt

  checked-most : (last k : ℕ) (ns bytes rest : List ℕ) → IsOfAtMost 1 rest (checked last k ns bytes rest)
  unfolding checked
  checked-most last k ns bytes [] = omega arith
  checked-most last k ns bytes (c ∷ rest) =
      test-most 1 (c ∷ rest) (c == check (take (length bytes - length (c ∷ rest)) bytes)) _ (Err Invalid)
      (after-check c rest (entry_of last k ns) (settled last k ns)) tt

  rest-most : (left : List ℕ) (count : Result ℕ Unread) (f : ℕ → Result (Entry × List ℕ) Unread) → IsFew count
      → ((n : ℕ) → n ≤ 11 → IsOfAtMost 111 left (f n)) → IsOfAtMost 111 left (count >>= f)
  rest-most left (Ok n) f h on = on n h
  rest-most left (Err Short) f h on = absurd h
  rest-most left (Err Invalid) f h on = tt

  pub entry-most : (last : ℕ) (bytes : List ℕ) → IsOfAtMost 121 bytes (entry_at last bytes)
  unfolding entry_at
  entry-most last bytes =
      bind-most 10 111 121 bytes (number_at bytes)
      (λ k. (count_of k.0 >>= λ count. (numbers_at count k.1 >>= λ ns. checked last k.0 ns.0 bytes ns.1)))
      (omega arith) (law.one_most bytes)
      (λ k. rest-most k.1 (count_of k.0) (λ count. (numbers_at count k.1 >>= λ ns. checked last k.0 ns.0 bytes ns.1)) (few k.0)
      (λ n le. bind-most (10 * n) 1 111 k.1 (numbers_at n k.1) (λ ns. checked last k.0 ns.0 bytes ns.1)
      (omega (arith, le)) (law.row_most n k.1) (λ ns. checked-most last k.0 ns.0 bytes ns.1)))
