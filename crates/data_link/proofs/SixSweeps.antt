-- Six sweeps make a link stable. After 2C + 2 moves of near's number it is so anyway. With fewer,
-- the only numbers on the link after the first two sweeps are those that near has had since. The
-- next two contain a move, which leaves near's number fresh, and the last two contain the move that
-- mends the rest
use Rattle.std.proofs.Common.{◌≡◌, ℕ, ◌+◌, ◌*◌, ◌<◌, ◌≤◌, ◌⊎◌, inl, inr, List, [], ◌∷◌, ◌++◌, sym, ◌∙◌, ap, subst, arith}
use Rattle.std.proofs.lemmas.Bool.{cases_lt}
use Rattle.std.proofs.lemmas.Grind.{common_steps}
use Rattle.k_state.specs.Ring.{IsFresh, tail_of}
use Rattle.k_state.specs.Ages.{age}
use Rattle.k_state.specs.Laws.{AgeGoesOn, AgeOfStart, FreshHasFront, FrontStaysOrTurnsGood, GoodHasFront, GoodStays, MovesFromFirst, SomeValueIsFresh}
use Rattle.data_link.specs.Edge.{EdgeState, EdgeEvent, IsEdgeInRange, IsStable, modulus_of, edge_step, edge_run, moves, moves_in, link_ring}
use Rattle.data_link.specs.SixSweeps.{StableAfterSixSweeps}
use Rattle.data_link.proofs.UnderWay.{All-weaker, near-stays}
use Rattle.data_link.proofs.EdgeRanges.{range-event, range-run}
use Rattle.data_link.proofs.Stable.{seq-moves, fresh-ready, ready-run, stable-after_moves}
use Rattle.data_link.proofs.Sweeping.{moves-append, run-append, sweeps-move}
use Rattle.data_link.proofs.Known.{AlwaysHas, AreKnown, known-event, known-after_two, known-numbers}

-- an event moves near's number once, or not at all
once-or-not : (s : EdgeState) (e : EdgeEvent) → (moves s e ≡ 0) ⊎ (moves s e ≡ 1)
once-or-not s e = grind (arith, common_steps)

-- how many moves have led near's number from `start` to where it is
abbrev near_age : ℕ → ℕ → EdgeState → ℕ
near_age capacity start s = age (modulus_of capacity) start s.near.seq

-- the number is at most m moves from `start`
abbrev IsWithin : ℕ → ℕ → ℕ → ℕ → Type 0
IsWithin capacity start m x = age (modulus_of capacity) start x ≤ m

module _ (of_start : AgeOfStart) (next : AgeGoesOn) where
  -- the age of near's number counts its moves, while there are further values
  age-event : (capacity start : ℕ) (s : EdgeState) (e : EdgeEvent) → near_age capacity start s + moves s e < modulus_of capacity
      → near_age capacity start (edge_step capacity s e) ≡ near_age capacity start s + moves s e
  age-event capacity start s e l = elim (once-or-not s e) [
    | inl z ↦ (let same = ap (age (modulus_of capacity) start) (near-stays capacity s e z).0 in omega (arith, same, z))
    | inr o ↦ (let moved = ap (age (modulus_of capacity) start) (seq-moves capacity s e o) in
        omega (arith, o, moved, next (modulus_of capacity) start s.near.seq (omega (arith, l, o))))
  ]

  age-run : (capacity start : ℕ) (s : EdgeState) (es : List EdgeEvent) → near_age capacity start s + moves_in capacity s es < modulus_of capacity
      → near_age capacity start (edge_run capacity s es) ≡ near_age capacity start s + moves_in capacity s es
  age-run capacity start s [] l = omega arith
  age-run capacity start s (e ∷ es) l =
      let one = age-event capacity start s e (omega (arith, l)) in
      omega (arith, one, age-run capacity start (edge_step capacity s e) es (omega (arith, l, one)))

  -- so throughout a run it is at most what it is at the end
  always-within : (capacity start m : ℕ) (s : EdgeState) (es : List EdgeEvent) → m < modulus_of capacity
      → near_age capacity start s + moves_in capacity s es ≤ m → AlwaysHas (IsWithin capacity start m) capacity s es
  always-within capacity start m s [] small l = omega (arith, l)
  always-within capacity start m s (e ∷ es) small l =
      let one = age-event capacity start s e (omega (arith, l, small)) in
      (omega (arith, l), always-within capacity start m (edge_step capacity s e) es small (omega (arith, l, one)))

  -- ---- two moves of near's number

  module _ (stays : GoodStays) (good_front : GoodHasFront) (fresh_front : FreshHasFront) (front : FrontStaysOrTurnsGood) (some_fresh : SomeValueIsFresh)
      (first_move : MovesFromFirst) where
    -- if no number is further from `start` than near's: once near's has moved it is fresh, and
    -- once it has moved again the link is stable
    two-moves : (capacity start m : ℕ) (s : EdgeState) (es : List EdgeEvent) → IsEdgeInRange capacity s → near_age capacity start s ≡ m
        → m + 1 < modulus_of capacity → AreKnown (IsWithin capacity start m) s → 2 ≤ moves_in capacity s es → IsStable capacity (edge_run capacity s es)
    two-moves capacity start m s [] r a l k two = absurd (omega arith)
    two-moves capacity start m s (e ∷ es) r a l k two =
        let after = edge_step capacity s e in
        let in_range = range-event capacity s e r in
        let known = known-event (IsWithin capacity start m) capacity s e (omega (arith, a)) k in
        elim (once-or-not s e) [
          | inl z ↦ (let same : near_age capacity start after ≡ m = omega (arith, a, z, age-event capacity start s e (omega (arith, a, z, l))) in
              two-moves capacity start m after es in_range same l known (omega (arith, two, z)))
          | inr o ↦ (let grown : near_age capacity start after ≡ m + 1 = omega (arith, a, o, age-event capacity start s e (omega (arith, a, o, l))) in
              let fresh : IsFresh (link_ring after) = All-weaker (IsWithin capacity start m) (λ x. ¬ (x ≡ after.near.seq))
              (λ x b i. (let same = ap (age (modulus_of capacity) start) i in omega (arith, b, same, grown)))
              (tail_of (link_ring after)) (known-numbers (IsWithin capacity start m) after known) in
              ready-run stays good_front fresh_front front some_fresh capacity after es in_range
              (fresh-ready stays good_front fresh_front front some_fresh after fresh) (omega (arith, two, o)))
        ]

    pub six-sweeps : StableAfterSixSweeps
    six-sweeps capacity s es r (first, rest, e, a, (second, later, e', b, four)) = elim (cases_lt (moves_in capacity s es) (2 * capacity + 2)) [
      | inr many ↦ stable-after_moves stays good_front fresh_front front some_fresh first_move capacity s es r (omega (arith, many))
      | inl few ↦ (let start = s.near.seq in
          let m = moves_in capacity s (first ++ second) in
          let half = edge_run capacity s first in
          let mid = edge_run capacity half second in
          let two : 2 ≤ moves_in capacity mid later = sweeps-move capacity 2 4 mid later (omega arith) four in
          let here : moves_in capacity s es ≡ moves_in capacity s (first ++ rest) = ap (moves_in capacity s) e in
          let there : moves_in capacity half rest ≡ moves_in capacity half (second ++ later) = ap (moves_in capacity half) e' in
          let parts = moves-append capacity half second later in
          let count : moves_in capacity s es ≡ m + moves_in capacity mid later =
          omega (arith, here, there, parts, moves-append capacity s first rest, moves-append capacity s first second) in
          let zero : near_age capacity start s ≡ 0 = of_start (modulus_of capacity) start r.near.0 in
          let always = always-within capacity start m s (first ++ second) (omega (arith, few, count)) (omega (arith, zero)) in
          let known = known-after_two (IsWithin capacity start m) capacity s first second always a b in
          let end = age-run capacity start s (first ++ second) (omega (arith, zero, few, count)) in
          let aged : near_age capacity start mid ≡ m =
          ap (near_age capacity start) (sym (run-append capacity s first second)) ∙ omega (arith, zero, end) in
          let leads : edge_run capacity s es ≡ edge_run capacity mid later =
          ap (edge_run capacity s) e ∙ (run-append capacity s first rest ∙ (ap (edge_run capacity half) e' ∙ run-append capacity half second later)) in
          let in_range = range-run capacity half second (range-run capacity s first r) in
          subst (IsStable capacity) (sym leads) (two-moves capacity start m mid later in_range aged (omega (arith, few, count, two)) known two))
    ]
