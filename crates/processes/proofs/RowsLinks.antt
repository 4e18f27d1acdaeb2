-- Histories of a link, small enough to check by hand.
use Rattle.std.proofs.Common.{◌≡◌, ℕ, List, [], ◌∷◌, ◌++◌, None, refl, inl, inr, ap, ◌∙◌, sym, arith}
use Rattle.topology.specs.declared.frame.Frame.{Frame}
use Rattle.link_model.specs.declared.item.Item.{Item}
use Rattle.link_model.specs.declared.item.Item.TheVariants as item
use Rattle.node_core.specs.Deeds.{Ticks, Sends, Takes, Asks}
use Rattle.processes.specs.Accounts.{Timed, AreInTime}
use Rattle.processes.specs.Links.{Act, Accepts, Gives, Loses, the_accepts, the_gives, accepts_in, gives_in, AreInOrder, Plays, IsHistory}
use Rattle.topology.specs.declared.frame.Ranges.{Ranges}
use Rattle.frame_codec.specs.Lines.{good_lines}
use Rattle.processes.specs.Connections.{IsWithin, KeepsOrder, Ended, history_over, KeepOrder, lines_of, AreInRange, IsConnection, CarriesActs, IsLinkOfBytes}

abbrev pub numbered : ℕ → Frame
numbered n = record { seq = n; ack = 0; payload = record { distance = 0; parent = None; ring = 0 } }

-- two frames with different numbers are different frames
pub two-frames : numbered 1 ≡ numbered 2 → ⊥
two-frames e = let n = ap (λ f. f.seq) e in omega (arith, n)

abbrev done : ℕ → Timed
done t = record { instant = t; deed = Ticks }

-- ---- accounts

two-at-once : AreInTime (done 3 ∷ done 3 ∷ done 5 ∷ [])
two-at-once = ((omega arith, (omega arith, tt)), ((omega arith, tt), (tt, tt)))

not-backwards : AreInTime (done 3 ∷ done 2 ∷ []) → ⊥
not-backwards h = let a = h.0.0 in omega (arith, a)

abbrev of_one : List Timed
of_one =
    record { instant = 1; deed = Sends 2 (numbered 1) } ∷ record { instant = 2; deed = Takes 2 (numbered 2) }
    ∷ record { instant = 3; deed = Sends 0 (numbered 3) } ∷ record { instant = 4; deed = Asks 7 } ∷ []

-- what an account says of a link: the frame and the instant
what-was-accepted : accepts_in 2 of_one ≡ Accepts 1 (numbered 1) ∷ []
what-was-accepted = refl

what-was-given : gives_in 2 of_one ≡ Gives 2 (numbered 2) ∷ []
what-was-given = refl

not-at-another-instant : accepts_in 2 of_one ≡ Accepts 2 (numbered 1) ∷ [] → ⊥
not-at-another-instant e = let f : ◌≡◌ {A = List Act} (Accepts 1 (numbered 1) ∷ []) (Accepts 2 (numbered 1) ∷ []) = e in absurd cc

-- ---- what a link can do

-- two frames, the first of which is lost and the second given
loses-one : Plays 2 [] (Accepts 1 (numbered 1) ∷ Accepts 2 (numbered 2) ∷ Loses 3 0 ∷ Gives 3 (numbered 2) ∷ []) []
loses-one = (omega arith, (omega arith, (omega arith, ([], refl, refl))))

-- what stood there at the start is given first, noise is lost
what-stood-there : Plays 2 (item.Noise ∷ item.Frame (numbered 5) ∷ []) (Loses 1 0 ∷ Accepts 1 (numbered 1) ∷ Gives 2 (numbered 5) ∷ []) (item.Frame (numbered 1) ∷ [])
what-stood-there = (omega arith, (omega arith, (item.Frame (numbered 1) ∷ [], refl, refl)))

-- the second frame is not given before the first
not-out-of-order : (last : List Item) → Plays 2 [] (Accepts 1 (numbered 1) ∷ Accepts 2 (numbered 2) ∷ Gives 3 (numbered 2) ∷ []) last → ⊥
not-out-of-order last h =
    let is : ◌≡◌ {A = List Item} (item.Frame (numbered 1) ∷ item.Frame (numbered 2) ∷ []) (item.Frame (numbered 2) ∷ h.1.1.0) = h.1.1.1 in
    let same : numbered 1 ≡ numbered 2 = cc in
    two-frames same

-- a link of capacity 1 does not hold two
not-too-many : (last : List Item) → Plays 1 [] (Accepts 1 (numbered 1) ∷ Accepts 2 (numbered 2) ∷ []) last → ⊥
not-too-many last h = let a = h.1.0 in omega (arith, a)

-- no frame is given twice
not-twice : (last : List Item) → Plays 2 [] (Accepts 1 (numbered 1) ∷ Gives 2 (numbered 1) ∷ Gives 3 (numbered 1) ∷ []) last → ⊥
not-twice last h =
    let is : ◌≡◌ {A = List Item} (item.Frame (numbered 1) ∷ []) (item.Frame (numbered 1) ∷ h.1.0) = h.1.1 in
    let none : [] ≡ h.1.0 = cc in
    let more : h.1.0 ≡ item.Frame (numbered 1) ∷ h.1.2.0 = h.1.2.1 in
    let e : ◌≡◌ {A = List Item} [] (item.Frame (numbered 1) ∷ h.1.2.0) = none ∙ more in
    absurd cc

-- no frame is given that was never accepted, and none is lost that is not there
not-from-nowhere : (last : List Item) → Plays 2 [] (Gives 1 (numbered 1) ∷ []) last → ⊥
not-from-nowhere last h = let e : ◌≡◌ {A = List Item} [] (item.Frame (numbered 1) ∷ h.0) = h.1 in absurd cc

not-lost-there : (last : List Item) → Plays 2 [] (Accepts 1 (numbered 1) ∷ Loses 2 1 ∷ []) last → ⊥
not-lost-there last h = let a = h.1.0 in omega (arith, a)

-- ---- in order

-- a loss may share an instant with what follows it
in-order : AreInOrder (Accepts 1 (numbered 1) ∷ Accepts 1 (numbered 2) ∷ Loses 2 0 ∷ Gives 2 (numbered 2) ∷ [])
in-order = (
  (inr (refl, omega arith), (inl (omega arith), (inl (omega arith), tt))),
  ((inl (omega arith), (inl (omega arith), tt)), ((inl (omega arith), tt), (tt, tt))),
)

-- a frame is given later than it was accepted
not-at-once : AreInOrder (Accepts 2 (numbered 1) ∷ Gives 2 (numbered 1) ∷ []) → ⊥
not-at-once h = let a = h.0.0 in grind arith

-- ---- whole histories

-- one end sent two frames, and the other took the second
a-history : IsHistory 2 [] (Accepts 1 (numbered 1) ∷ Accepts 2 (numbered 2) ∷ []) (Gives 3 (numbered 2) ∷ [])
    (Accepts 1 (numbered 1) ∷ Accepts 2 (numbered 2) ∷ Loses 3 0 ∷ Gives 3 (numbered 2) ∷ []) []
a-history = record {
  accepted = refl;
  given = refl;
  in_order = (
    (inr (refl, omega arith), (inl (omega arith), (inl (omega arith), tt))),
    ((inl (omega arith), (inl (omega arith), tt)), ((inl (omega arith), tt), (tt, tt))),
  );
  plays = loses-one;
}

-- with nothing on an empty link, nothing comes out
pub nothing-out : (capacity : ℕ) (acts : List Act) (last : List Item) → the_accepts acts ≡ [] → Plays capacity [] acts last → the_gives acts ≡ []
nothing-out capacity [] last none plays = refl
nothing-out capacity (Accepts t f ∷ acts) last none plays = let e : ◌≡◌ {A = List Act} (Accepts t f ∷ the_accepts acts) [] = none in absurd cc
nothing-out capacity (Gives t f ∷ acts) last none plays = let e : ◌≡◌ {A = List Item} [] (item.Frame f ∷ plays.0) = plays.1 in absurd cc
nothing-out capacity (Loses t i ∷ acts) last none plays = let a = plays.0 in absurd (omega (arith, a))

-- so whatever its history, a receiver takes nothing that nobody sent
not-made-up : (capacity : ℕ) (history : List Act) (last : List Item) → IsHistory capacity [] [] (Gives 1 (numbered 1) ∷ []) history last → ⊥
not-made-up capacity history last h =
    let e : ◌≡◌ {A = List Act} (Gives 1 (numbered 1) ∷ []) [] = sym h.given ∙ nothing-out capacity history last h.accepted h.plays in
    absurd cc

-- ---- connections

-- a connection that holds one frame carries two frames, one after the other
keeps-order : KeepsOrder 1 [] (Accepts 1 (numbered 1) ∷ Gives 2 (numbered 1) ∷ Accepts 3 (numbered 2) ∷ []) (numbered 2 ∷ [])
keeps-order = record { kept = refl; within = (omega arith, (omega arith, tt)) }

-- no frame may be passed over
not-passed-over : (left : List Frame) → KeepsOrder 2 [] (Accepts 1 (numbered 1) ∷ Accepts 2 (numbered 2) ∷ Gives 3 (numbered 2) ∷ []) left → ⊥
not-passed-over left h =
    let e : ◌≡◌ {A = List Frame} (numbered 1 ∷ numbered 2 ∷ []) (numbered 2 ∷ left) = h.kept in
    let same : numbered 1 ≡ numbered 2 = cc in
    two-frames same

not-two-at-once : IsWithin 1 0 (Accepts 1 (numbered 1) ∷ Accepts 2 (numbered 2) ∷ []) → ⊥
not-two-at-once h = let a = h.1.0 in omega (arith, a)

-- when a connection ends, what was left on it is lost, and nothing of it comes out on the next
one-after-another : history_over [] (record { acts = Accepts 1 (numbered 1) ∷ []; instant = 4 } ∷ []) (Accepts 5 (numbered 2) ∷ Gives 6 (numbered 2) ∷ [])
    ≡ Accepts 1 (numbered 1) ∷ Loses 4 0 ∷ Accepts 5 (numbered 2) ∷ Gives 6 (numbered 2) ∷ []
one-after-another = refl

not-of-the-last-one : (last : List Frame)
    → KeepOrder 2 [] (record { acts = Accepts 1 (numbered 1) ∷ []; instant = 4 } ∷ []) (Gives 6 (numbered 1) ∷ []) last → ⊥
not-of-the-last-one last h = h.1.within

-- ---- bytes

abbrev sizes : Ranges
sizes = record { nodes = 3; counter = 5; ring = 13 }

-- whatever was accepted, nothing need have come out yet
pub nothing-yet : (r : Ranges) (junk : List ℕ) (fs : List Frame) → IsConnection r junk fs []
nothing-yet r junk fs = record { read = []; ahead = junk ++ lines_of fs; beginning = refl; pulled_are = refl }

-- nothing comes out of nothing
nothing-read : (xs ys : List ℕ) → xs ++ ys ≡ [] → xs ≡ []
nothing-read [] ys e = refl
nothing-read (x ∷ xs) ys e = let f : ◌≡◌ {A = List ℕ} (x ∷ (xs ++ ys)) [] = e in absurd cc

not-of-nothing : (f : Frame) → IsConnection sizes [] [] (f ∷ []) → ⊥
not-of-nothing f c =
    let e : ◌≡◌ {A = List Frame} (f ∷ []) [] = sym c.pulled_are ∙ ap (good_lines sizes) (nothing-read c.read c.ahead c.beginning) in
    absurd cc

-- a link over two connections, the first of which ended with a frame on it
abbrev first_one : List Ended
first_one = record { acts = Accepts 1 (numbered 1) ∷ []; instant = 4 } ∷ []

of-bytes : IsLinkOfBytes sizes 1 [] (Accepts 1 (numbered 1) ∷ Accepts 5 (numbered 2) ∷ []) [] first_one (Accepts 5 (numbered 2) ∷ [])
of-bytes = record {
  whole = refl;
  connections = (
    record { bytes = nothing-yet sizes [] (numbered 1 ∷ []); within = (omega arith, tt) },
    record { bytes = nothing-yet sizes [] (numbered 2 ∷ []); within = (omega arith, tt) },
  );
  accepted = refl;
  given = refl;
  in_order = ((inl (omega arith), (inl (omega arith), tt)), ((inl (omega arith), tt), (tt, tt)));
}

-- what a connection left is lost when it ends, not before, and not after the next one's first frame
not-lost-too-late : (sent taken : List Act) (r : Ranges)
    → IsLinkOfBytes r 1 [] sent taken (record { acts = Accepts 1 (numbered 1) ∷ []; instant = 7 } ∷ []) (Accepts 5 (numbered 2) ∷ []) → ⊥
not-lost-too-late sent taken r h = let a = h.in_order.1.0.0 in grind arith

-- each of the two keeps order
keep-order : KeepOrder 1 [] first_one (Accepts 5 (numbered 2) ∷ []) (numbered 2 ∷ [])
keep-order = (record { kept = refl; within = (omega arith, tt) }, record { kept = refl; within = (omega arith, tt) })

-- two frames whose numbers are counters are in range; one whose number is not a counter is not
in-range : AreInRange sizes (numbered 1 ∷ numbered 2 ∷ [])
in-range = (refl, (refl, tt))

not-in-range : AreInRange sizes (numbered 9 ∷ []) → ⊥
not-in-range h = let e = h.0 in absurd cc

-- a connection that carries two frames at once does not have capacity 1
not-carried : CarriesActs sizes 1 [] (Accepts 1 (numbered 1) ∷ Accepts 2 (numbered 2) ∷ []) → ⊥
not-carried c = not-two-at-once c.within
