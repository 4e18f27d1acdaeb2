-- What is read at the front of bytes: its numbers have their ranges, and it takes at least one byte.
use Rattle.std.proofs.Common.{◌≡◌, ap, refl, sym, subst, arith, ℕ, suc, zero, ◌+◌, ◌-◌, ◌%◌, ◌^◌, ◌<◌, ◌≤◌, ◌==◌, List, [], ◌∷◌, ◌++◌, length, take, Option, Some, None, Result, Ok, Err, nat_lt, cond, inl, inr, ◌∙◌, drop, append_assoc}
use Rattle.std.specs.Prelude.{IfSome, slice_index}
use Rattle.std.specs.Str.{bytes_eq}
use Rattle.std.proofs.lemmas.Grind.{common_steps}
use Rattle.std.proofs.lemmas.Bool.{cases_Bool}
use Rattle.std.proofs.lemmas.List.{length-append, take-append-drop}
use Rattle.std.proofs.Math.Seq.{drop-append_seam}
use Rattle.flight_records.specs.leb128.Pieces.{IsOfAtMost}
use Rattle.flight_records.specs.leb128.declared.unread.Unread.{Unread}
use Rattle.flight_records.specs.leb128.declared.unread.Unread.TheVariants.{Invalid}
use Rattle.flight_records.specs.leb128.Reading.{◌>>=◌, with_low, number_in, number_at, numbers_at}
use Rattle.flight_records.specs.declared.entry.Entry.{Entry}
use Rattle.flight_records.specs.declared.entry.Noted.{Noted}
use Rattle.flight_records.specs.declared.entry.StatePart.{StatePart}
use Rattle.flight_records.specs.declared.entry.Deed.{Deed}
use Rattle.flight_records.specs.Numbers.{fields}
use Rattle.flight_records.specs.Reading.{optional_of, payload_in, frame_in, candidate_of, candidate, with_fields, entry_with, entry_of, count_of, part_in, deed_in, checked, entry_at}
use Rattle.flight_records.specs.Laws.{IsNarrow, IsPayload, IsFrame, IsPart, IsDeed, IsNoted, AreRead, instant_after}
use Rattle.flight_recorder.specs.Resume.{IsNone}

-- the value of a step that did not fail
bind_ok : {A B : Type 0} (r : Result A Unread) (f : A → Result B Unread) (y : B) → (r >>= f) ≡ Ok y
    → (x : A) × (r ≡ Ok x) × (f x ≡ Ok y)
bind_ok (Ok x) f y e = (x, refl, e)
bind_ok (Err d) f y e = absurd cc

narrow-less : (n : ℕ) → n % 65536 < 65536
narrow-less n = omega arith

wide-less : (n : ℕ) → n % 4294967296 < 2 ^ 32
wide-less n = omega arith

optional-less : (n : ℕ) → IfSome (optional_of n) IsNarrow
optional-less n =
    elim (cases_Bool (n == 0)) [
      | inl nothing ↦ rw nothing tt
      | inr some ↦ rw some (narrow-less (n - 1))
    ]

payload-less : (fs : List ℕ) (i : ℕ) → IsPayload (payload_in fs i)
payload-less fs i = (narrow-less (slice_index fs i), optional-less (slice_index fs (i + 1)), narrow-less (slice_index fs (i + 2)))

frame-less : (fs : List ℕ) → IsFrame (frame_in fs)
frame-less fs = (narrow-less (slice_index fs 1), narrow-less (slice_index fs 2), payload-less fs 3)

part-less : (k : ℕ) (fs : List ℕ) → IfSome (part_in k fs) IsPart
part-less k fs =
    elim (cases_Bool (k == 1)) [
      | inl y1 ↦ rw y1 (wide-less (slice_index fs 0), narrow-less (slice_index fs 1))
      | inr n1 ↦ elim (cases_Bool (k == 2)) [
        | inl y2 ↦ rw (n1, y2) (narrow-less (slice_index fs 0), optional-less (slice_index fs 1))
        | inr n2 ↦ elim (cases_Bool (k == 3)) [
          | inl y3 ↦
              rw (n1, n2, y3) (narrow-less (slice_index fs 0), narrow-less (slice_index fs 1), narrow-less (slice_index fs 2), payload-less fs 3, payload-less fs 6, narrow-less (slice_index fs 9))
          | inr n3 ↦ elim (cases_Bool (k == 4)) [
            | inl y4 ↦ rw (n1, n2, n3, y4) (narrow-less (slice_index fs 0))
            | inr n4 ↦ elim (cases_Bool (k == 5)) [
              | inl y5 ↦ rw (n1, n2, n3, n4, y5) (optional-less (slice_index fs 0), narrow-less (slice_index fs 1))
              | inr n5 ↦ elim (cases_Bool (k == 6)) [
                | inl y6 ↦ rw (n1, n2, n3, n4, n5, y6) tt
                | inr n6 ↦ rw (n1, n2, n3, n4, n5, n6) tt
              ]
            ]
          ]
        ]
      ]
    ]

deed-less : (k : ℕ) (fs : List ℕ) → IfSome (deed_in k fs) IsDeed
deed-less k fs =
    let one = narrow-less (slice_index fs 0) in
    elim (cases_Bool (k == 7)) [
      | inl y ↦ rw y tt
      | inr n7 ↦ elim (cases_Bool (k == 8)) [
        | inl y ↦ rw (n7, y) (one, frame-less fs)
        | inr n8 ↦ elim (cases_Bool (k == 9)) [
          | inl y ↦ rw (n7, n8, y) one
          | inr n9 ↦ elim (cases_Bool (k == 10)) [
            | inl y ↦ rw (n7, n8, n9, y) (one, frame-less fs)
            | inr n10 ↦ elim (cases_Bool (k == 11)) [
              | inl y ↦ rw (n7, n8, n9, n10, y) one
              | inr n11 ↦ elim (cases_Bool (k == 12)) [
                | inl y ↦ rw (n7, n8, n9, n10, n11, y) one
                | inr n12 ↦ elim (cases_Bool (k == 13)) [
                  | inl y ↦ rw (n7, n8, n9, n10, n11, n12, y) one
                  | inr n13 ↦ elim (cases_Bool (k == 14)) [
                    | inl y ↦ rw (n7, n8, n9, n10, n11, n12, n13, y) one
                    | inr n14 ↦ elim (cases_Bool (k == 15)) [
                      | inl y ↦ rw (n7, n8, n9, n10, n11, n12, n13, n14, y) one
                      | inr n15 ↦ elim (cases_Bool (k == 16)) [
                        | inl y ↦ rw (n7, n8, n9, n10, n11, n12, n13, n14, n15, y) one
                        | inr n16 ↦ elim (cases_Bool (k == 17)) [
                          | inl y ↦ rw (n7, n8, n9, n10, n11, n12, n13, n14, n15, n16, y) one
                          | inr n17 ↦ rw (n7, n8, n9, n10, n11, n12, n13, n14, n15, n16, n17) tt
                        ]
                      ]
                    ]
                  ]
                ]
              ]
            ]
          ]
        ]
      ]
    ]

of-both : (part : Option StatePart) (deed : Option Deed) → IfSome part IsPart → IfSome deed IsDeed → IfSome (candidate_of part deed) IsNoted
of-both (Some p) d part deed = part
of-both None (Some d) part deed = deed
of-both None None part deed = tt

candidate-less : (k : ℕ) (fs : List ℕ) → IfSome (candidate k fs) IsNoted
unfolding candidate
candidate-less k fs = of-both (part_in k fs) (deed_in k fs) (part-less k fs) (deed-less k fs)

with-less : (fs : List ℕ) (o : Option Noted) → IfSome o IsNoted → IfSome (with_fields fs o) IsNoted
with-less fs None less = tt
with-less fs (Some n) less =
    elim (cases_Bool (bytes_eq (fields n) fs)) [
      | inl so ↦ rw so less
      | inr not_so ↦ rw not_so tt
    ]

entry-less : (instant : ℕ) (o : Option Noted) (e : Entry) → IfSome o IsNoted → entry_with instant o ≡ Ok e → IsNoted e.noted
entry-less instant None e less h = absurd cc
entry-less instant (Some n) e less h =
    elim (cases_Bool (nat_lt instant (2 ^ 64))) [
      | inl so ↦
          let read : ◌≡◌ {A = Result Entry Unread} (Ok (record { instant = instant; noted = n })) (Ok e) =
          subst (λ t. cond t (Ok (record { instant = instant; noted = n })) (Err Invalid) ≡ Ok e) so h in
          let same : n ≡ e.noted = cc in
          subst IsNoted same less
      | inr not_so ↦
          let read : ◌≡◌ {A = Result Entry Unread} (Err Invalid) (Ok e) =
          subst (λ t. cond t (Ok (record { instant = instant; noted = n })) (Err Invalid) ≡ Ok e) not_so h in
          absurd cc
    ]

of-less : (last k : ℕ) (ns : List ℕ) (e : Entry) → entry_of last k ns ≡ Ok e → IsNoted e.noted
unfolding entry_of
of-less last k [] e h = absurd cc
of-less last k (passed ∷ fs) e h = entry-less (last + passed) (with_fields fs (candidate k fs)) e (with-less fs (candidate k fs) (candidate-less k fs)) h

-- a number takes at least one byte
number-less : (more : ℕ) (bytes : List ℕ) (n : ℕ) (rest : List ℕ) → number_in more bytes ≡ Ok (n, rest) → length rest < length bytes
number-less more [] n rest h = absurd cc
number-less zero (b ∷ bytes) n rest h =
    elim (cases_Bool (nat_lt b 128)) [
      | inl so ↦
          let read : ◌≡◌ {A = Result (ℕ × List ℕ) Unread} (Ok (b, bytes)) (Ok (n, rest)) = subst (λ t. cond {A = Result (ℕ × List ℕ) Unread} t (Ok (b, bytes)) (Err Invalid) ≡ Ok (n, rest)) so h in
          let pair : ◌≡◌ {A = ℕ × List ℕ} (b, bytes) (n, rest) = cc in
          let same : bytes ≡ rest = ap (λ (x : ℕ × List ℕ). x.1) pair in
          rw (← same) (omega arith)
      | inr not_so ↦
          let read : ◌≡◌ {A = Result (ℕ × List ℕ) Unread} (Err Invalid) (Ok (n, rest)) = subst (λ t. cond {A = Result (ℕ × List ℕ) Unread} t (Ok (b, bytes)) (Err Invalid) ≡ Ok (n, rest)) not_so h in
          absurd cc
    ]
number-less (suc more) (b ∷ bytes) n rest h =
    let go : Result (ℕ × List ℕ) Unread = (number_in more bytes >>= λ high. (with_low b high.0 >>= λ n. Ok (n, high.1))) in
    elim (cases_Bool (nat_lt b 128)) [
      | inl so ↦
          let read : ◌≡◌ {A = Result (ℕ × List ℕ) Unread} (Ok (b, bytes)) (Ok (n, rest)) = subst (λ t. cond {A = Result (ℕ × List ℕ) Unread} t (Ok (b, bytes)) go ≡ Ok (n, rest)) so h in
          let pair : ◌≡◌ {A = ℕ × List ℕ} (b, bytes) (n, rest) = cc in
          let same : bytes ≡ rest = ap (λ (x : ℕ × List ℕ). x.1) pair in
          rw (← same) (omega arith)
      | inr not_so ↦
          let read : go ≡ Ok (n, rest) = subst (λ t. cond {A = Result (ℕ × List ℕ) Unread} t (Ok (b, bytes)) go ≡ Ok (n, rest)) not_so h in
          let first = bind_ok (number_in more bytes) (λ high. (with_low b high.0 >>= λ n. Ok (n, high.1))) (n, rest) read in
          let second = bind_ok (with_low b first.0.0) (λ n. Ok (n, first.0.1)) (n, rest) first.2 in
          let both : ◌≡◌ {A = Result (ℕ × List ℕ) Unread} (Ok (second.0, first.0.1)) (Ok (n, rest)) = second.2 in
          let pair : ◌≡◌ {A = ℕ × List ℕ} (second.0, first.0.1) (n, rest) = cc in
          let same : first.0.1 ≡ rest = ap (λ (x : ℕ × List ℕ). x.1) pair in
          let fewer : length first.0.1 < length bytes = number-less more bytes first.0.0 first.0.1 first.1 in
          rw (← same) (omega (arith, fewer))
    ]

first-less : (bytes : List ℕ) (x : ℕ × List ℕ) → number_at bytes ≡ Ok x → length x.1 < length bytes
unfolding number_at
first-less bytes x h = number-less 9 bytes x.0 x.1 h

row-less : (count : ℕ) (bytes : List ℕ) (x : List ℕ × List ℕ) → numbers_at count bytes ≡ Ok x → length x.1 ≤ length bytes
row-less zero bytes x h =
    let pair : ◌≡◌ {A = List ℕ × List ℕ} ([], bytes) x = cc in
    let same : bytes ≡ x.1 = ap (λ (y : List ℕ × List ℕ). y.1) pair in
    rw (← same) (omega arith)
row-less (suc count) bytes x h =
    let first = bind_ok (number_at bytes) (λ first. (numbers_at count first.1 >>= λ others. Ok (first.0 ∷ others.0, others.1))) x h in
    let second = bind_ok (numbers_at count first.0.1) (λ others. Ok (first.0.0 ∷ others.0, others.1)) x first.2 in
    let both : ◌≡◌ {A = Result (List ℕ × List ℕ) Unread} (Ok (first.0.0 ∷ second.0.0, second.0.1)) (Ok x) = second.2 in
    let pair : ◌≡◌ {A = List ℕ × List ℕ} (first.0.0 ∷ second.0.0, second.0.1) x = cc in
    let same : second.0.1 ≡ x.1 = ap (λ (y : List ℕ × List ℕ). y.1) pair in
    let one = first-less bytes first.0 first.1 in
    let others = row-less count first.0.1 second.0 second.1 in
    rw (← same) (omega (arith, one, others))

checked-takes : (last k : ℕ) (ns bytes left : List ℕ) (e : Entry) (rest : List ℕ) → checked last k ns bytes left ≡ Ok (e, rest)
    → (length rest < length left) × (entry_of last k ns ≡ Ok e)
unfolding checked
checked-takes last k ns bytes [] e rest h = absurd cc
checked-takes last k ns bytes (c ∷ after) e rest h = (grind (arith, common_steps), grind (arith, common_steps))

pub read-takes : (last : ℕ) (bytes : List ℕ) (e : Entry) (rest : List ℕ) → entry_at last bytes ≡ Ok (e, rest)
    → (length rest < length bytes) × IsNoted e.noted
unfolding entry_at
read-takes last bytes e rest h =
    let first = bind_ok (number_at bytes) (λ k. (count_of k.0 >>= λ count. (numbers_at count k.1 >>= λ ns. checked last k.0 ns.0 bytes ns.1))) (e, rest) h in
    let k = first.0 in
    let second = bind_ok (count_of k.0) (λ count. (numbers_at count k.1 >>= λ ns. checked last k.0 ns.0 bytes ns.1)) (e, rest) first.2 in
    let third = bind_ok (numbers_at second.0 k.1) (λ ns. checked last k.0 ns.0 bytes ns.1) (e, rest) second.2 in
    let ns = third.0 in
    let c = checked-takes last k.0 ns.0 bytes ns.1 e rest third.2 in
    let one = first-less bytes k first.1 in
    let row = row-less second.0 k.1 ns third.1 in
    (omega (arith, one, row, c.0), of-less last k.0 ns.0 e c.1)

-- one more entry is read
pub one-read : (last : ℕ) (bytes mid : List ℕ) (es : List Entry) (e : Entry) (rest : List ℕ) → AreRead last bytes es mid
    → entry_at (instant_after last es) mid ≡ Ok (e, rest)
    → AreRead last bytes (es ++ e ∷ []) rest × (e.instant ≡ instant_after last (es ++ e ∷ []))
one-read last bytes mid [] e rest read next =
    ((rest, subst (λ (l : List ℕ). entry_at last l ≡ Ok (e, rest)) (sym read) next, refl), refl)
one-read last bytes mid (d ∷ es) e rest read next =
    let later = one-read d.instant read.0 mid es e rest read.2 next in
    ((read.0, read.1, later.0), later.1)

-- what is left of bytes after their front
pub left-is : (bytes front rest : List ℕ) → bytes ≡ front ++ rest → rest ≡ drop (length bytes - length rest) bytes
left-is bytes front rest parts =
    let count : length bytes - length rest ≡ length front = omega (arith, ap length parts, length-append front rest) in
    sym (ap (λ (k : ℕ). drop k bytes) count ∙ ap (drop (length front)) parts ∙ drop-append_seam front rest)

-- what is left after an entry is what is left of all bytes
pub left-after : (most : (last : ℕ) (bytes : List ℕ) → IsOfAtMost 121 bytes (entry_at last bytes))
    → (last count : ℕ) (file mid : List ℕ) (e : Entry) (rest : List ℕ) → mid ≡ drop count file → entry_at last mid ≡ Ok (e, rest)
    → rest ≡ drop (length file - length rest) file
left-after most last count file mid e rest mid_is next =
    let taken = subst (IsOfAtMost 121 mid) next (most last mid) in
    let parts : file ≡ (take count file ++ taken.0) ++ rest =
    sym (take-append-drop count file) ∙ ap (λ (l : List ℕ). take count file ++ l) (sym mid_is ∙ taken.1) ∙ sym (append_assoc (take count file) taken.0 rest) in
    left-is file (take count file ++ taken.0) rest parts

-- nothing is read of no bytes
pub none-left : (last : ℕ) (bytes : List ℕ) → length bytes ≤ 0 → IsNone (entry_at last bytes)
unfolding entry_at number_at
none-left last [] empty = tt
none-left last (b ∷ bytes) empty = absurd (omega (arith, empty))
