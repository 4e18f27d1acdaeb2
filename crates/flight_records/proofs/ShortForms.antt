-- A frame that is noted in its short form is the last one of its link, which whoever reads it knows.
use Rattle.std.proofs.Common.{◌≡◌, ap, refl, arith, ℕ, true, List, [], ◌∷◌, ◌++◌, Option, Some, None, inl, inr}
use Rattle.std.specs.List.{AllByRecursion}
use Rattle.std.proofs.lemmas.Grind.{common_steps}
use Rattle.std.proofs.lemmas.Bool.{cases_Bool}
use Rattle.std.proofs.lemmas.Bool.Decides.{nat_tests}
use Rattle.topology.specs.declared.frame.Frame.{Frame}
use Rattle.flight_records.specs.Frames.{FramesView}
use Rattle.flight_records.specs.declared.entry.Entry.{Entry}
use Rattle.flight_records.specs.declared.entry.Noted.{Noted}
use Rattle.flight_records.specs.declared.entry.Noted.TheVariants as noted
use Rattle.flight_records.specs.declared.entry.Deed.TheVariants.{Ticks, Takes, TakesAgain, Sends, SendsAgain, Asks, Leaves, Joins, Parts, Connects, Disconnects}
use Rattle.flight_records.specs.Again.{same_frame, is_last, last_of, shortened, lengthened, frames_after, taken_again, sent_again}
use Rattle.flight_records.specs.Laws.{IsLong, IsNoted, Follows, AreInOrder, instant_after, short_entry, short_entries, frames_after_all, StandFor, ShortFormsStand}

same_frame-equal : (f g : Frame) → same_frame f g ≡ true → f ≡ g
same_frame-equal f g e = grind (arith, nat_tests, common_steps)

last-equal : (last : Option Frame) (f : Frame) → is_last last f ≡ true → last ≡ Some f
last-equal None f e = absurd cc
last-equal (Some g) f e = ap Some (same_frame-equal g f e)

taken-again : (from : ℕ) (last : Option Frame) (f : Frame) → last ≡ Some f → taken_again from last ≡ Some (noted.Deed (Takes from f))
taken-again from last f e = rw e refl

sent-again : (to : ℕ) (last : Option Frame) (f : Frame) → last ≡ Some f → sent_again to last ≡ Some (noted.Deed (Sends to f))
sent-again to last f e = rw e refl

stands : (v : FramesView) (n : Noted) → IsLong n → lengthened v (shortened v n) ≡ Some n
stands v (noted.State part) long = refl
stands v (noted.Deed Ticks) long = refl
stands v (noted.Deed (Takes from frame)) long =
    elim (cases_Bool (is_last (last_of v.taken from) frame)) [
      | inl so ↦ rw so (taken-again from (last_of v.taken from) frame (last-equal (last_of v.taken from) frame so))
      | inr not_so ↦ rw not_so refl
    ]
stands v (noted.Deed (TakesAgain from)) long = absurd long
stands v (noted.Deed (Sends to frame)) long =
    elim (cases_Bool (is_last (last_of v.sent to) frame)) [
      | inl so ↦ rw so (sent-again to (last_of v.sent to) frame (last-equal (last_of v.sent to) frame so))
      | inr not_so ↦ rw not_so refl
    ]
stands v (noted.Deed (SendsAgain to)) long = absurd long
stands v (noted.Deed (Asks ticket)) long = refl
stands v (noted.Deed (Leaves ticket)) long = refl
stands v (noted.Deed (Joins neighbour)) long = refl
stands v (noted.Deed (Parts neighbour)) long = refl
stands v (noted.Deed (Connects neighbour)) long = refl
stands v (noted.Deed (Disconnects neighbour)) long = refl

all-stand : (v : FramesView) (es : List Entry) → AllByRecursion (λ e. IsLong e.noted) es → StandFor v (short_entries v es) es
all-stand v [] long = tt
all-stand v (e ∷ es) long = (stands v e.noted long.0, refl, all-stand (frames_after v e.noted) es long.1)

-- a short form has no other numbers than the long one
short-noted : (v : FramesView) (n : Noted) → IsNoted n → IsNoted (shortened v n)
short-noted v (noted.State part) is = is
short-noted v (noted.Deed Ticks) is = is
short-noted v (noted.Deed (Takes from frame)) is =
    elim (cases_Bool (is_last (last_of v.taken from) frame)) [
      | inl so ↦ rw so is.0
      | inr not_so ↦ rw not_so is
    ]
short-noted v (noted.Deed (TakesAgain from)) is = is
short-noted v (noted.Deed (Sends to frame)) is =
    elim (cases_Bool (is_last (last_of v.sent to) frame)) [
      | inl so ↦ rw so is.0
      | inr not_so ↦ rw not_so is
    ]
short-noted v (noted.Deed (SendsAgain to)) is = is
short-noted v (noted.Deed (Asks ticket)) is = is
short-noted v (noted.Deed (Leaves ticket)) is = is
short-noted v (noted.Deed (Joins neighbour)) is = is
short-noted v (noted.Deed (Parts neighbour)) is = is
short-noted v (noted.Deed (Connects neighbour)) is = is
short-noted v (noted.Deed (Disconnects neighbour)) is = is

order : (v : FramesView) (last : ℕ) (es : List Entry) → AreInOrder last es
    → AreInOrder last (short_entries v es) × (instant_after last (short_entries v es) ≡ instant_after last es)
order v last [] in-order = (tt, refl)
order v last (e ∷ es) in-order =
    let more = order (frames_after v e.noted) e.instant es in-order.1 in
    let follows : Follows last (short_entry v e) =
    record { later = in-order.0.later; wide = in-order.0.wide; noted = short-noted v e.noted in-order.0.noted } in
    ((follows, more.0), more.1)

grow : (v : FramesView) (es : List Entry) (e : Entry)
    → (short_entries v (es ++ e ∷ []) ≡ short_entries v es ++ short_entry (frames_after_all v es) e ∷ [])
    × (frames_after_all v (es ++ e ∷ []) ≡ frames_after (frames_after_all v es) e.noted)
grow v [] e = (refl, refl)
grow v (d ∷ es) e =
    let more = grow (frames_after v d.noted) es e in
    (ap (λ (l : List Entry). short_entry v d ∷ l) more.0, more.1)

pub short_forms-stand : ShortFormsStand
short_forms-stand = record { stand = all-stand; order = order; grow = grow }
