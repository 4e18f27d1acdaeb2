-- What is written to a file, page after page, is a record.
use Rattle.std.proofs.Common.{◌-◌, ◌≡◌, ◌∙◌, ap, sym, refl, subst, arith, ℕ, ◌+◌, ◌^◌, ◌<◌, ◌≤◌, Bool, true, false, not, ◌&&◌, ◌||◌, ◌==◌, cond, List, [], ◌∷◌, ◌++◌, length, take, drop, Option, Some, Result, Ok, Err, nat_lt, inl, inr, append_assoc}
use Rattle.std.specs.Prelude.{IsTrue, max}
use Rattle.std.specs.List.{AllByRecursion}
use Rattle.std.proofs.Math.Nat.{le-max_right, max-le}
use Rattle.std.proofs.lemmas.Grind.{common_steps}
use Rattle.std.proofs.lemmas.Bool.{cases_Bool}
use Rattle.std.proofs.lemmas.Bool.Decides.{nat_tests}
use Rattle.std.proofs.lemmas.List.{append-nil, append_cancel_right, length-append, length-take-le, take-append-drop}
use Rattle.flight_records.specs.declared.entry.Entry.{Entry}
use Rattle.flight_records.specs.declared.entry.Noted.{Noted}
use Rattle.flight_records.specs.declared.entry.Noted.TheVariants as noted
use Rattle.flight_records.specs.declared.entry.StatePart.TheVariants.{Start, Own, Port, Waits, Loan, Whole}
use Rattle.flight_records.specs.leb128.declared.unread.Unread.{Unread}
use Rattle.flight_records.specs.leb128.Laws.{AreBytes}
use Rattle.flight_records.specs.leb128.Pieces.{IsKept}
use Rattle.flight_records.specs.Again.{no_frames, frames_after, shortened, lengthened}
use Rattle.flight_records.specs.Reading.{entry_at}
use Rattle.flight_records.specs.Laws.{AreInOrder, AreRead, Follows, IsLong, IsNoted, instant_after, RecordsGrow, WrittenIsRead, WhatIsReadIsWritten, PiecesAreRead}
use Rattle.flight_records.specs.Laws.{ShortFormsStand, StandFor, frames_after_all, short_entry, short_entries}
use Rattle.flight_records.specs.Frames.{FramesView}
use Rattle.flight_records.specs.Spelling.{spelling, record_of}
use Rattle.flight_recorder.specs.View.{RecorderView}
use Rattle.flight_recorder.specs.Recorder.{is_start, is_at_start, is_passed_over, has_no_room, entry_noted, after_note, fills, after_write}
use Rattle.flight_recorder.specs.Resume.{IsFront, Resumes}
use Rattle.flight_recorder.specs.Laws.{BeginsWithStart, is_any, HoldsAfter, Holds, added, FilesAreRecords}
use Rattle.flight_recorder.specs.declared.recorder.Side.{Side}
use Rattle.flight_recorder.proofs.Fronts.{read-takes}

instant-wide : (last : ℕ) (es : List Entry) → last < 2 ^ 64 → AreInOrder last es → instant_after last es < 2 ^ 64
instant-wide last [] wide order = wide
instant-wide last (e ∷ es) wide order = instant-wide e.instant es order.0.wide order.1

begins-one : (r : RecorderView) (n : Noted) → is_passed_over n r ≡ false → is_at_start r ≡ true → IsTrue (is_start n)
begins-one r n taken start = grind (arith, common_steps)

begins : (front : List ℕ) (base : ℕ) (r : RecorderView) (file : List ℕ) (es : List Entry) (instant : ℕ) (n : Noted)
    → HoldsAfter front base r file es → is_passed_over n r ≡ false → BeginsWithStart (es ++ entry_noted instant n r ∷ [])
begins front base r file [] instant n h taken = begins-one r n taken (ap not h.begun)
begins front base r file (e ∷ es) instant n h taken = h.start

any-more : (es : List Entry) (e : Entry) → is_any (es ++ e ∷ []) ≡ true
any-more [] e = refl
any-more (d ∷ es) e = refl

-- where nothing is added
same : (front : List ℕ) (base : ℕ) (r : RecorderView) (stopped : Bool) (file : List ℕ) (es : List Entry) → HoldsAfter front base r file es
    → HoldsAfter front base (record r { is_stopped = stopped }) file (es ++ [])
same front base r stopped file es h =
    subst (λ (l : List Entry). HoldsAfter front base (record r { is_stopped = stopped }) file l) (sym (append-nil es))
    (record { written = h.written; bytes = h.bytes; order = h.order; last = h.last; frames = h.frames; start = h.start; begun = h.begun })

-- the last of entries in order may stand after those before it
last-follows : (last : ℕ) (es : List Entry) (e : Entry) → AreInOrder last (es ++ e ∷ []) → Follows (instant_after last es) e
last-follows last [] e order = order.0
last-follows last (d ∷ es) e order = last-follows d.instant es e order.1

-- what is read at the front stands if more bytes follow
kept-more : (kept : (last : ℕ) (bytes more : List ℕ) → IsKept more (entry_at last bytes) (entry_at last (bytes ++ more)))
    → (last : ℕ) (bytes more : List ℕ) (es : List Entry) → AreRead last bytes es [] → AreRead last (bytes ++ more) es more
kept-more kept last bytes more [] read = ap (λ (l : List ℕ). l ++ more) read
kept-more kept last bytes more (e ∷ es) read =
    let longer : entry_at last (bytes ++ more) ≡ Ok (e, read.0 ++ more) =
    subst (λ (r : Result (Entry × List ℕ) Unread). IsKept more r (entry_at last (bytes ++ more))) read.1 (kept last bytes more) in
    (read.0 ++ more, longer, kept-more kept e.instant read.0 more es read.2)

-- one reading after the other
read-on : (last : ℕ) (bytes more left : List ℕ) (es fs : List Entry) → AreRead last bytes es more → AreRead (instant_after last es) more fs left
    → AreRead last bytes (es ++ fs) left
read-on last bytes more left [] fs first then = subst (λ (l : List ℕ). AreRead last l fs left) (sym first) then
read-on last bytes more left (e ∷ es) fs first then = (first.0, first.1, read-on e.instant first.0 more left es fs first.2 then)

-- the start of a state is read again whatever was remembered before, and nothing is remembered after it
start-again : (v : FramesView) (n : Noted) → IsTrue (is_start n)
    → (lengthened v (shortened no_frames n) ≡ Some n) × (frames_after v n ≡ frames_after no_frames n)
start-again v (noted.State (Start network node)) start = (refl, refl)
start-again v (noted.State (Own distance parent)) start = absurd cc
start-again v (noted.State (Port neighbour seq last staged copy value)) start = absurd cc
start-again v (noted.State (Waits ticket)) start = absurd cc
start-again v (noted.State (Loan lent left served)) start = absurd cc
start-again v (noted.State Whole) start = absurd cc
start-again v (noted.Deed d) start = absurd cc

-- entries that begin with the start of a state stand for the same whatever was remembered before
stand-for : (v : FramesView) (es : List Entry) → BeginsWithStart es → StandFor no_frames (short_entries no_frames es) es
    → StandFor v (short_entries no_frames es) es
stand-for v [] start stand = tt
stand-for v (e ∷ es) start stand =
    let first = start-again v e.noted start in
    (first.0, stand.1, subst (λ (f : FramesView). StandFor f (short_entries (frames_after no_frames e.noted) es) es) (sym first.1) stand.2)

module _ (grow : RecordsGrow) (again : WrittenIsRead) (only : WhatIsReadIsWritten) (short : ShortFormsStand) (pieces : PiecesAreRead) where
  one_more : (front : List ℕ) (base : ℕ) (r : RecorderView) (file : List ℕ) (es : List Entry) (instant : ℕ) (n : Noted)
      → HoldsAfter front base r file es → base < 2 ^ 64 → instant < 2 ^ 64 → IsNoted n → is_passed_over n r ≡ false
      → HoldsAfter front base (record r {
        page = r.page ++ spelling r.last (short_entry r.frames (entry_noted instant n r));
        last = max instant r.last;
        frames = frames_after r.frames n;
        is_begun = true;
      }) file (es ++ entry_noted instant n r ∷ [])
  one_more front base r file es instant n h base_wide wide is taken =
      let e = entry_noted instant n r in
      let shorts = short_entries no_frames es in
      let last_wide : r.last < 2 ^ 64 = omega (arith, h.last, instant-wide base es base_wide h.order) in
      let most : max instant r.last ≤ 2 ^ 64 - 1 = max-le (omega (arith, wide)) (omega (arith, last_wide)) in
      let follows : Follows (instant_after base es) e = record { later = omega (arith, h.last, le-max_right instant r.last); wide = omega (arith, most); noted = is } in
      let g = grow base es e h.order follows in
      let more = short.grow no_frames es e in
      let first = short.order no_frames base es h.order in
      let both = short.order no_frames base (es ++ e ∷ []) g.0 in
      let short_order : AreInOrder base (shorts ++ short_entry (frames_after_all no_frames es) e ∷ []) =
      subst (λ (l : List Entry). AreInOrder base l) more.0 both.0 in
      let short_follows : Follows (instant_after base shorts) (short_entry (frames_after_all no_frames es) e) = last-follows base shorts (short_entry (frames_after_all no_frames es) e) short_order in
      let s = grow base shorts (short_entry (frames_after_all no_frames es) e) first.0 short_follows in
      let last_is : r.last ≡ instant_after base shorts = h.last ∙ sym first.1 in
      record {
        written = h.written;
        bytes = sym (append_assoc file r.page (spelling r.last (short_entry r.frames e))) ∙ ap (λ (l : List ℕ). l ++ spelling r.last (short_entry r.frames e)) h.bytes
            ∙ append_assoc front (record_of base shorts) (spelling r.last (short_entry r.frames e))
            ∙ ap (λ (k : ℕ). front ++ (record_of base shorts ++ spelling k (short_entry r.frames e))) last_is
            ∙ ap (λ (v : FramesView). front ++ (record_of base shorts ++ spelling (instant_after base shorts) (short_entry v e))) h.frames
            ∙ ap (λ (l : List ℕ). front ++ l) (sym s.2 ∙ ap (record_of base) (sym more.0));
        order = g.0;
        last = sym g.1;
        frames = ap (λ (v : FramesView). frames_after v n) h.frames ∙ sym more.1;
        start = begins front base r file es instant n h taken;
        begun = sym (any-more es e);
      }

  notes : (front : List ℕ) (base : ℕ) (r : RecorderView) (file : List ℕ) (es : List Entry) (instant : ℕ) (n : Noted)
      → HoldsAfter front base r file es → base < 2 ^ 64 → instant < 2 ^ 64 → IsNoted n
      → HoldsAfter front base (after_note instant n r) file (es ++ added instant n r)
  notes front base r file es instant n h base_wide wide is =
      elim (cases_Bool (is_passed_over n r)) [
        | inl passed ↦ rw (passed) (same front base r r.is_stopped file es h)
        | inr taken ↦
            elim (cases_Bool (has_no_room r)) [
              | inl full ↦ rw (taken, full) (same front base r true file es h)
              | inr room ↦ rw (taken, room) (one_more front base r file es instant n h base_wide wide is taken)
            ]
      ]

  read : (front : List ℕ) (base : ℕ) (r : RecorderView) (file : List ℕ) (first es : List Entry) (v : FramesView)
      → AreRead 0 front first [] → instant_after 0 first ≡ base
      → HoldsAfter front base r file es → AllByRecursion (λ e. IsLong e.noted) es
      → AreRead 0 (file ++ r.page) (first ++ short_entries no_frames es) [] × StandFor v (short_entries no_frames es) es
  read front base r file first es v front_read base_is h long =
      let shorts = short_entries no_frames es in
      let order = short.order no_frames base es h.order in
      let after : AreRead base (record_of base shorts ++ []) shorts [] = again base shorts [] order.0 in
      let after2 : AreRead base (record_of base shorts) shorts [] = subst (λ (l : List ℕ). AreRead base l shorts []) (append-nil (record_of base shorts)) after in
      let before : AreRead 0 (front ++ record_of base shorts) first (record_of base shorts) = kept-more pieces.kept 0 front (record_of base shorts) first front_read in
      let both : AreRead 0 (front ++ record_of base shorts) (first ++ shorts) [] =
      read-on 0 (front ++ record_of base shorts) (record_of base shorts) [] first shorts before (subst (λ (k : ℕ). AreRead k (record_of base shorts) shorts []) (sym base_is) after2) in
      (subst (λ (l : List ℕ). AreRead 0 l (first ++ shorts) []) (sym h.bytes) both, stand-for v es h.start (short.stand no_frames es long))

  -- entries that are read at the front of bytes are written there, one after the other
  written : (last : ℕ) (bytes left : List ℕ) (es : List Entry) → last < 2 ^ 64 → AreBytes bytes → AreRead last bytes es left
      → (bytes ≡ record_of last es ++ left) × AreInOrder last es
  written last bytes left [] wide small read = (read, tt)
  written last bytes left (e ∷ es) wide small read =
      let one = only last bytes e read.0 small read.1 in
      let others = written e.instant read.0 left es one.wide one.bytes_left read.2 in (
        one.parts ∙ ap (λ (l : List ℕ). spelling last e ++ l) others.0 ∙ sym (append_assoc (spelling last e) (record_of e.instant es) left),
        (record { later = one.later; wide = one.wide; noted = (read-takes last bytes e read.0 read.1).1 }, others.1),
      )

  fronts : (file : List ℕ) (count last : ℕ) (es : List Entry) → AreBytes file → IsFront file count last es
      → (last < 2 ^ 64) × AreRead 0 (take count file) es []
  fronts file count last es small front =
      let w = written 0 file (drop count file) es (omega arith) small front.read in
      let front_is : take count file ≡ record_of 0 es =
      append_cancel_right (take count file) (record_of 0 es) (drop count file) (take-append-drop count file ∙ w.0) in
      let alone : AreRead 0 (record_of 0 es ++ []) es [] = again 0 es [] w.1 in (
        omega (arith, front.last_is, instant-wide 0 es (omega arith) w.1),
        subst (λ (l : List ℕ). AreRead 0 l es []) (append-nil (record_of 0 es) ∙ sym front_is) alone,
      )

  resumed : (size : ℕ) (side : Side) (network node : ℕ) (file : List ℕ) (r : RecorderView) → Resumes size side network node file r
      → HoldsAfter (take r.written file) r.last r (take r.written file) []
  resumed size side network node file r is =
      let page : r.page ≡ [] = ap (λ (x : RecorderView). x.page) is.rest in
      record {
        written = length-take-le r.written file is.front.within;
        bytes = ap (λ (l : List ℕ). take r.written file ++ l) page;
        order = tt;
        last = refl;
        frames = ap (λ (x : RecorderView). x.frames) is.rest;
        start = tt;
        begun = ap (λ (x : RecorderView). x.is_begun) is.rest;
      }

  pub are_records : FilesAreRecords
  are_records = record {
    noted = notes;
    goes_on = λ front base r file es h not_full.
        rw not_full (record {
          written = length-append file r.page ∙ ap (λ (k : ℕ). k + length r.page) h.written;
          bytes = append-nil (file ++ r.page) ∙ h.bytes;
          order = h.order;
          last = h.last;
          frames = h.frames;
          start = h.start;
          begun = h.begun;
        });
    turns = λ r full. rw full (record { written = refl; bytes = refl; order = tt; last = refl; frames = refl; start = tt; begun = refl });
    resumed = resumed;
    fronts = fronts;
    read = read;
  }
