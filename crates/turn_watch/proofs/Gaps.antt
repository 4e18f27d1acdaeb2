-- No gap is missed.
use Rattle.std.proofs.Common.{◌≡◌, ◌∙◌, ◌≤◌, ◌⊎◌, inl, ℕ, ◌+◌, ◌-◌, max, List, [], ◌∷◌, arith}
use Rattle.std.proofs.lemmas.Grind.{common_steps}
use Rattle.turn_watch.specs.declared.turns.Lately.{Lately}
use Rattle.turn_watch.specs.declared.turns.TurnTimes.{TurnTimes}
use Rattle.turn_watch.specs.Turns.{begun, half_minute, moved_to, moved_by, gap_noted, longest_lately, turn_ended}
use Rattle.turn_watch.specs.Laws.{after_turns, gaps, greatest, AreUntil, LongestIsTheGreatest, NoLateGapIsMissed}

max-none : (a : ℕ) → a ≡ max a 0
max-none a = grind arith

max-assoc : (a b c : ℕ) → max (max a b) c ≡ max a (max b c)
max-assoc a b c = grind arith

-- from any state the longest is the greatest of what was noted before and of the gaps since
longest-from : (limit : ℕ) (t : TurnTimes) (ends : List ℕ)
    → (after_turns limit t ends).longest ≡ max t.longest (greatest (gaps t.ended ends))
longest-from limit t [] = max-none t.longest
longest-from limit t (now ∷ ends) =
    longest-from limit (turn_ended limit now t) ends
    ∙ max-assoc t.longest (now - t.ended) (greatest (gaps now ends))

max-zero : (a : ℕ) → max 0 a ≡ a
max-zero a = grind arith

pub longest : LongestIsTheGreatest
longest limit start ends = longest-from limit (begun start) ends ∙ max-zero (greatest (gaps start ends))

-- a gap that ended in this half minute is kept in its place
abbrev pub Keeps : ℕ → ℕ → Lately → Type 0
Keeps half gap l =
    ((l.half ≡ half) × (gap ≤ l.present))
    ⊎ ((l.half ≡ half + 1) × (gap ≤ l.before))
    ⊎ ((l.half ≡ half + 2) × (gap ≤ l.earlier))

-- so many half minutes later, where `at` is the half minute that runs then
kept-by : (half gap steps at : ℕ) (l : Lately) → Keeps half gap l → at ≡ l.half + steps → at ≤ half + 2
    → Keeps half gap (moved_by steps at l)
kept-by half gap steps at l kept on near = grind (arith, common_steps)

steps-on : (a b : ℕ) → a ≤ b → b ≡ a + (b - a)
steps-on a b h = omega (arith, h)

-- it is kept as long as no later half minute begins than the second after it
keeps-moved : (half gap now : ℕ) (l : Lately) → Keeps half gap l → l.half ≤ half_minute now → half_minute now ≤ half + 2
    → Keeps half gap (moved_to now l)
keeps-moved half gap now l kept on near =
    kept-by half gap (half_minute now - l.half) (half_minute now) l kept (steps-on l.half (half_minute now) on) near

-- a longer gap in the half minute that runs takes nothing away
keeps-more : (half gap more : ℕ) (l : Lately) → Keeps half gap l → Keeps half gap (record l { present = max l.present more })
keeps-more half gap more l kept = grind (arith, common_steps)

keeps-noted : (half gap now other : ℕ) (l : Lately) → Keeps half gap l → l.half ≤ half_minute now → half_minute now ≤ half + 2
    → Keeps half gap (gap_noted now other l)
keeps-noted half gap now other l kept on near =
    keeps-more half gap other (moved_to now l) (keeps-moved half gap now l kept on near)

kept-longest : (half gap : ℕ) (l : Lately) → Keeps half gap l → gap ≤ max (max l.present l.before) l.earlier
kept-longest half gap l kept = grind (arith, common_steps)

longest-keeps : (half gap now : ℕ) (l : Lately) → Keeps half gap (moved_to now l) → gap ≤ longest_lately now l
longest-keeps half gap now l kept = kept-longest half gap (moved_to now l) kept

-- the half minute that runs is that of the last end
moved-half : (steps at : ℕ) (l : Lately) → at ≡ l.half + steps → (moved_by steps at l).half ≡ at
moved-half steps at l on = grind (arith, common_steps)

noted-half : (now gap : ℕ) (l : Lately) → l.half ≤ half_minute now → (gap_noted now gap l).half ≡ half_minute now
noted-half now gap l on = moved-half (half_minute now - l.half) (half_minute now) l (steps-on l.half (half_minute now) on)

max-right : (a b : ℕ) → b ≤ max a b
max-right a b = grind arith

up-to : (a b c : ℕ) → a ≤ b → b ≤ c → a ≤ c
up-to a b c x y = omega (arith, x, y)

-- the gap that ends now is kept in the half minute that runs
noted-present : (now gap : ℕ) (l : Lately) → l.half ≤ half_minute now → Keeps (half_minute now) gap (gap_noted now gap l)
noted-present now gap l on = inl (noted-half now gap l on, max-right (moved_to now l).present gap)

halves-grow : (a b : ℕ) → a ≤ b → half_minute a ≤ half_minute b
halves-grow a b h = omega (arith, h)

halves-near : (a b : ℕ) → b ≤ a + 60000000 → half_minute b ≤ half_minute a + 2
halves-near a b h = omega (arith, h)

until-first : (start now : ℕ) (ends : List ℕ) → AreUntil start now ends → start ≤ now
until-first start now [] h = h
until-first start now (end ∷ ends) h = up-to start end now h.0 (until-first end now ends h.1)

-- what ended since takes it not away
kept-on : (limit half gap now : ℕ) (t : TurnTimes) (last : ℕ) (ends : List ℕ)
    → Keeps half gap t.lately → t.lately.half ≡ half_minute last → AreUntil last now ends → half_minute now ≤ half + 2
    → gap ≤ longest_lately now (after_turns limit t ends).lately
kept-on limit half gap now t last [] kept is until near =
    longest-keeps half gap now t.lately (keeps-moved half gap now t.lately kept (rw is (halves-grow last now until)) near)
kept-on limit half gap now t last (end ∷ ends) kept is until near =
    let on : t.lately.half ≤ half_minute end = rw is (halves-grow last end until.0) in
    let within : half_minute end ≤ half + 2 = up-to (half_minute end) (half_minute now) (half + 2) (halves-grow end now (until-first end now ends until.1)) near in
    kept-on limit half gap now (turn_ended limit end t) end ends
    (keeps-noted half gap end (end - t.ended) t.lately kept on within)
    (noted-half end (end - t.ended) t.lately on) until.1 near

pub lately : NoLateGapIsMissed
lately limit now t end ends on until near =
    kept-on limit (half_minute end) (end - t.ended) now (turn_ended limit end t) end ends
    (noted-present end (end - t.ended) t.lately on) (noted-half end (end - t.ended) t.lately on) until
    (halves-near end now near)
