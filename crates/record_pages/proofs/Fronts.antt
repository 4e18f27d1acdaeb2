-- What is read of the bytes at hand is read of all bytes that are to come.
use Rattle.std.proofs.Common.{◌≡◌, ◌∙◌, ap, sym, refl, subst, arith, ℕ, ◌-◌, ◌<◌, ◌≤◌, List, ◌++◌, length, take, drop, Result, Ok, Err, Option, Some, None, inl, inr, append_assoc}
use Rattle.std.proofs.lemmas.List.{append-nil, length-append, length-drop, take_at, take-append-drop}
use Rattle.std.proofs.Math.Seq.{drop-append_seam}
use Rattle.byte_streams.specs.Streams.{Gives}
use Rattle.flight_records.specs.declared.entry.Entry.{Entry}
use Rattle.flight_records.specs.leb128.declared.unread.Unread.{Unread}
use Rattle.flight_records.specs.leb128.declared.unread.Unread.TheVariants.{Short, Invalid as NoEntry}
use Rattle.flight_records.specs.leb128.Pieces.{IsKept, IsOfAtMost}
use Rattle.flight_records.specs.Reading.{entry_at}
use Rattle.flight_records.specs.Laws.{PiecesAreRead}
use Rattle.record_pages.specs.declared.stop.Stop.{Stop}
use Rattle.record_pages.specs.declared.stop.Stop.TheVariants.{End, Torn, Invalid, Failed}
use Rattle.record_pages.specs.Pages.{to_come, has_ended, IsAtHand, IsReadOf, ReadsNext}

-- ---- places

long : (xs : List ℕ) (n : ℕ) → n ≤ length xs → length (drop n xs) ≡ length xs - n
long xs n le = length-drop n xs

-- bytes that are moved to the front
pub moved_front : (xs : List ℕ) (n : ℕ) → n ≤ length xs → take (length xs - n) (drop n xs ++ take n xs) ≡ drop n xs
moved_front xs n le = take_at (drop n xs) (take n xs) (length xs - n) (long xs n le)

-- what is left of two parts, if as many bytes are passed as the first has
pub passed : (front left held : List ℕ) → held ≡ front ++ left → drop (length held - length left) held ≡ left
passed front left held parts =
    let n : length held - length left ≡ length front = omega (arith, ap (λ (l : List ℕ). length l) parts, length-append front left) in
    ap (λ (k : ℕ). drop k held) n ∙ ap (λ (l : List ℕ). drop (length front) l) parts ∙ drop-append_seam front left

-- ---- reading

module _ (law : PiecesAreRead) (last : ℕ) where
  pub front_of : (held : List ℕ) (e : Entry) (left : List ℕ) → entry_at last held ≡ Ok (e, left)
      → (front : List ℕ) × (held ≡ front ++ left)
  front_of held e left h =
      let most : IsOfAtMost 121 held (Ok (e, left)) = subst (λ (r : Result (Entry × List ℕ) Unread). IsOfAtMost 121 held r) h (law.most last held) in
      (most.0, most.1)

  more-after : (held more : List ℕ) (e : Entry) (left : List ℕ) → entry_at last held ≡ Ok (e, left)
      → entry_at last (held ++ more) ≡ Ok (e, left ++ more)
  more-after held more e left h =
      subst (λ (r : Result (Entry × List ℕ) Unread). IsKept more r (entry_at last (held ++ more))) h (law.kept last held more)

  invalid-after : (held more : List ℕ) → entry_at last held ≡ Err NoEntry → entry_at last (held ++ more) ≡ Err NoEntry
  invalid-after held more h =
      subst (λ (r : Result (Entry × List ℕ) Unread). IsKept more r (entry_at last (held ++ more))) h (law.kept last held more)

  few : (held : List ℕ) → entry_at last held ≡ Err Short → length held < 121
  few held h = subst (λ (r : Result (Entry × List ℕ) Unread). IsOfAtMost 121 held r) h (law.most last held)

  -- at the end, what is at hand is all
  at-end : (more held : List ℕ) → length held < 121 → IsAtHand (Some more) held → held ++ more ≡ held
  at-end more held lt (inl le) = let no : ⊥ = omega (arith, lt, le) in absurd no
  at-end more held lt (inr none) = ap (λ (l : List ℕ). held ++ l) none ∙ append-nil held

  pub next_read : (r : Result Entry Stop) (rest : Option (List ℕ)) (held left : List ℕ) (now : ℕ) → IsAtHand rest held
      → IsReadOf last r held left now → ReadsNext last r (to_come rest held) (to_come rest left) now
  next_read (Ok e) None held left now hand h = (refl, h.1)
  next_read (Ok e) (Some more) held left now hand h = (left ++ more, refl, more-after held more e left h.0, h.1)
  next_read (Err End) None held left now hand h = (refl, h.2)
  next_read (Err End) (Some more) held left now hand h =
      let lt : length held < 121 = omega (arith, ap (λ (l : List ℕ). length l) h.0) in
      (ap (λ (l : List ℕ). Some (l ++ more)) h.1, h.2, at-end more held lt hand ∙ h.0)
  next_read (Err Torn) None held left now hand h = (refl, h.3)
  next_read (Err Torn) (Some more) held left now hand h =
      let all : held ++ more ≡ held = at-end more held (few held h.0) hand in
      (ap (λ (l : List ℕ). Some (l ++ more)) h.2, h.3, λ e. h.1 (sym all ∙ e), ap (λ (l : List ℕ). entry_at last l) all ∙ h.0)
  next_read (Err Invalid) None held left now hand h = (refl, h.2)
  next_read (Err Invalid) (Some more) held left now hand h =
      (ap (λ (l : List ℕ). Some (l ++ more)) h.1, h.2, invalid-after held more h.0)
  next_read (Err Failed) rest held left now hand h = absurd h

-- a source that failed left all as it was
pub failed_read : (last : ℕ) (before after : Option (List ℕ)) (now : ℕ) → after ≡ before → now ≡ last
    → ReadsNext last (Err Failed) before after now
failed_read last None after now e i = (e, i)
failed_read last (Some bytes) after now e i = (e, i)

-- ---- bytes that a source gives

-- what a source gave stands at hand, and all that is to come is as before
pub given : (before after : Option (List ℕ)) (held buffer : List ℕ) (count : ℕ) → Gives count before after buffer
    → to_come after (held ++ take count buffer) ≡ to_come before held
given None after held buffer count g = rw g refl
given (Some rest) after held buffer count g =
    ap (λ (o : Option (List ℕ)). to_come o (held ++ take count buffer)) g.2
    ∙ ap (λ (l : List ℕ). Some l)
    (append_assoc held (take count buffer) (drop count rest)
    ∙ ap (λ (l : List ℕ). held ++ (l ++ drop count rest)) g.1
    ∙ ap (λ (l : List ℕ). held ++ l) (take-append-drop count rest))

-- a source that gave nothing has ended
pub gave_none : (before after : Option (List ℕ)) (buffer : List ℕ) → Gives 0 before after buffer → 0 < length buffer → has_ended after
gave_none None after buffer g lt = rw g tt
gave_none (Some rest) after buffer g lt = rw g.2 (g.3 refl lt)
