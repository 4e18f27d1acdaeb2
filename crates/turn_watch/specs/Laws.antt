-- What is noted of a list of turns, by the times at which they ended.
use Rattle.std.specs.Prelude.{◌≡◌, ◌≤◌, ℕ, ◌+◌, ◌-◌, max, List, [], ◌∷◌}
use Rattle.turn_watch.specs.declared.turns.TurnTimes.{TurnTimes}
use Rattle.turn_watch.specs.Turns.{begun, half_minute, longest_lately, turn_ended}

-- turns ended at these times, one after the other
abbrev pub after_turns : ℕ → TurnTimes → List ℕ → TurnTimes
after_turns limit t [] = t
after_turns limit t (now ∷ ends) = after_turns limit (turn_ended limit now t) ends

-- the times between their ends; the first begins at the start
abbrev pub gaps : ℕ → List ℕ → List ℕ
gaps start [] = []
gaps start (now ∷ ends) = (now - start) ∷ gaps now ends

abbrev pub greatest : List ℕ → ℕ
greatest [] = 0
greatest (x ∷ xs) = max x (greatest xs)

-- the longest gap that was noted is the greatest of all
abbrev pub LongestIsTheGreatest : Type 0
LongestIsTheGreatest =
    (limit start : ℕ) (ends : List ℕ)
    → (after_turns limit (begun start) ends).longest ≡ greatest (gaps start ends)

-- gaps ended at these times, one after the other, the latest no later than `now`
abbrev pub AreUntil : ℕ → ℕ → List ℕ → Type 0
AreUntil start now [] = start ≤ now
AreUntil start now (end ∷ ends) = (start ≤ end) × AreUntil end now ends

-- a gap that ended at most a minute before `now` is no longer than what is said of the last minute,
-- whatever turns ended since
abbrev pub NoLateGapIsMissed : Type 0
NoLateGapIsMissed =
    (limit now : ℕ) (t : TurnTimes) (end : ℕ) (ends : List ℕ)
    → t.lately.half ≤ half_minute end → AreUntil end now ends → now ≤ end + 60000000
    → end - t.ended ≤ longest_lately now (after_turns limit t (end ∷ ends)).lately
