-- Rows: a token ring with too few values, and the moves of a head and of other machines.
use Rattle.std.proofs.Common.{◌≡◌, ◌≢◌, ℕ, zero, suc, ◌⊎◌, inl, inr, List, [], ◌∷◌, ◌++◌, refl, subst, ◌+◌, arith}
use Rattle.std.specs.List.{AllByRecursion}
use Rattle.topology.specs.Network.{Network}
use Rattle.k_state.specs.Machine.{root_moved}
use Rattle.k_state.specs.Ring.{Change, Written, Further, HeadMove, Moved, IsFrontThen, IsGood}
use Rattle.run_model.specs.Start.{default_world}
use Rattle.run_model.specs.declared.event.Event.{Event}
use Rattle.run_model.specs.declared.event.Event.TheVariants.{Send, Take, Tick}
use Rattle.run_model.specs.World.{World}
use Rattle.run_model.specs.Step.{step}
use Rattle.run_model.specs.Run.{run}
use Rattle.run_model.proofs.RowsTwo.{calm}
use Rattle.run_model.proofs.RowsServing.{two_tokens}
use Rattle.convergence.specs.Moves.{head_move, head_moves}
use Rattle.convergence.specs.RingService.{MachineMove}

-- ---- The token ring needs more values than it has places: with 4 values on the 6 places of two
-- nodes it may go round for ever and never be good.

-- a run of the copying ring in which the head moves this many times, and no ring on the way or at
-- the end is good
data NeverGood (q : ℕ) : ℕ → List ℕ → List ℕ → Type 0 where
  Ends : {xs : List ℕ} → NeverGood q zero xs xs
  Copies : {n : ℕ} {xs ys zs : List ℕ} → Change xs ys → ¬ IsGood q ys → NeverGood q n ys zs → NeverGood q n xs zs
  Moves : {n : ℕ} {xs ys zs : List ℕ} → HeadMove q xs ys → ¬ IsGood q ys → NeverGood q n ys zs → NeverGood q (suc n) xs zs

one_of_all : (P : ℕ → Type 0) (c : ℕ) (front back : List ℕ) → AllByRecursion P (front ++ c ∷ back) → P c
one_of_all P c [] back all = all.0
one_of_all P c (x ∷ front) back all = one_of_all P c front back all.1

one_of_two : (P Q : ℕ → Type 0) (c : ℕ) (front back : List ℕ) → IsFrontThen P Q (front ++ c ∷ back) → P c ⊎ Q c
one_of_two P Q c [] back (inl (p, f)) = inl p
one_of_two P Q c [] back (inr (q, qs)) = inr q
one_of_two P Q c (x ∷ front) back (inl (p, f)) = one_of_two P Q c front back f
one_of_two P Q c (x ∷ front) back (inr (q, qs)) = inr (one_of_all Q c front back qs)

-- a ring with a value that is neither the head's nor one below it is not good
third-value : (q a c : ℕ) (front back : List ℕ) → c ≢ a → root_moved c q ≢ a → ¬ IsGood q (a ∷ (front ++ c ∷ back))
third-value q a c front back ne low g =
    elim (one_of_two (λ x. x ≡ a) (λ x. root_moved x q ≡ a) c (a ∷ front) back g) [ inl e ↦ ne e | inr e ↦ low e ]

-- With a, b, c, d each one below the next, modulo 4: from right to left, each place takes the value
-- on its left, and then the head moves from a to b. The six places are the machine of node 0, what
-- it stages, what node 1 copies, and the same for node 1.
round_by_one : (a b c d : ℕ) → root_moved a 4 ≡ b → c ≢ a → root_moved c 4 ≢ a → d ≢ b → root_moved d 4 ≢ b
    → NeverGood 4 1 (a ∷ d ∷ c ∷ b ∷ a ∷ a ∷ []) (b ∷ a ∷ d ∷ c ∷ b ∷ b ∷ [])
round_by_one a b c d e ca ca' db db' =
    let with_c : (front back : List ℕ) → ¬ IsGood 4 (a ∷ (front ++ c ∷ back)) = λ front back. third-value 4 a c front back ca ca' in
    let with_d : (front back : List ℕ) → ¬ IsGood 4 (b ∷ (front ++ d ∷ back)) = λ front back. third-value 4 b d front back db db' in
    let moved : HeadMove 4 (a ∷ a ∷ d ∷ c ∷ b ∷ a ∷ []) (b ∷ a ∷ d ∷ c ∷ b ∷ a ∷ []) = rw (← e) (Moved refl) in
    Copies (Further (Further (Further Written))) (with_c (d ∷ []) (b ∷ b ∷ a ∷ []))
    (Copies (Further (Further Written)) (with_c (d ∷ []) (c ∷ b ∷ a ∷ []))
    (Copies (Further Written) (with_c (d ∷ d ∷ []) (b ∷ a ∷ []))
    (Copies Written (with_c (a ∷ d ∷ []) (b ∷ a ∷ []))
    (Moves moved (with_d (a ∷ []) (c ∷ b ∷ a ∷ []))
    (Copies (Further (Further (Further (Further Written)))) (with_d (a ∷ []) (c ∷ b ∷ b ∷ [])) Ends)))))

then : (q : ℕ) {m n : ℕ} {xs ys zs : List ℕ} → NeverGood q m xs ys → NeverGood q n ys zs → NeverGood q (m + n) xs zs
then q {n = n} {zs = zs} (Ends {xs = xs}) s = let e : n ≡ 0 + n = omega arith in subst (λ k. NeverGood q k xs zs) e s
then q {n = n} {zs = zs} (Copies c g r) s = Copies c g (then q r s)
then q {n = n} {zs = zs} (Moves {n = m} {xs = xs} c g r) s = let e : suc (m + n) ≡ suc m + n = omega arith in subst (λ k. NeverGood q k xs zs) e (Moves c g (then q r s))

-- after four moves of the head, one for each value, the ring is as before
four_values_are_too_few : NeverGood 4 4 (0 ∷ 3 ∷ 2 ∷ 1 ∷ 0 ∷ 0 ∷ []) (0 ∷ 3 ∷ 2 ∷ 1 ∷ 0 ∷ 0 ∷ [])
four_values_are_too_few =
    then 4 (round_by_one 0 1 2 3 refl (λ e. absurd cc) (λ e. absurd cc) (λ e. absurd cc) (λ e. absurd cc))
    (then 4 (round_by_one 1 2 3 0 refl (λ e. absurd cc) (λ e. absurd cc) (λ e. absurd cc) (λ e. absurd cc))
    (then 4 (round_by_one 2 3 0 1 refl (λ e. absurd cc) (λ e. absurd cc) (λ e. absurd cc) (λ e. absurd cc))
    (round_by_one 3 0 1 2 refl (λ e. absurd cc) (λ e. absurd cc) (λ e. absurd cc) (λ e. absurd cc))))

-- ---- the head's moves

abbrev two_nodes : Network
two_nodes = record { nodes = 2; root = 0; capacity = 1; lease = 0; edges = (0, 1) ∷ [] }

-- both nodes tick, and then two frames go each way
abbrev rounds : ℕ → List Event
rounds zero = []
rounds (suc n) =
    Tick 0 ∷ Tick 1 ∷ Send 0 1 ∷ Take 0 1 ∷ Send 0 1 ∷ Take 0 1 ∷ Send 1 0 ∷ Take 1 0 ∷ Send 1 0 ∷ Take 1 0 ∷ rounds n

-- in seven rounds from the start the head moves from 0 to 1 and on to 2
two_moves_in_seven_rounds : head_moves (default_world two_nodes) (rounds 7) ≡ 2
two_moves_in_seven_rounds = refl

-- it does not move in a tick before the root has a tree neighbour
no_move_at_first : head_move (default_world two_nodes) (Tick 0) ≡ 0
no_move_at_first = refl

-- if all values are equal, a tick of the root moves the head
move-of_the_root : head_move calm (Tick 0) ≡ 1
move-of_the_root = refl

-- a move of node 1's machine is none of the head
another-machine_moves : ((two_tokens.node 1).value 0 ≡ 1) × (((step two_tokens (Tick 1)).node 1).value 0 ≡ 0)
another-machine_moves = (refl, refl)

no-move_of_the_head : head_move two_tokens (Tick 1) ≡ 0
no-move_of_the_head = refl

-- the head moves again only once its new value has come round
one-move_in_two_ticks : head_moves calm (Tick 0 ∷ Tick 0 ∷ []) ≡ 1
one-move_in_two_ticks = refl

-- a run without events has no move
no-events : head_moves calm [] ≡ 0
no-events = refl

-- ---- the moves of a node's machines

-- node 0's machine from 1 moves in the second event
machine-moves : MachineMove calm (Tick 1 ∷ Tick 0 ∷ Tick 1 ∷ []) 0
machine-moves = record {
  machine = 1;
  before = Tick 1 ∷ [];
  event = Tick 0;
  after = Tick 1 ∷ [];
  parts = refl;
  moves = λ e. let same : ◌≡◌ {A = ℕ} 1 0 = e in absurd cc;
}

-- if a run of one event leaves the values of a node's machines, none of them moves
single-event : (w : World) (a : Event) (v t : ℕ) → (((step w a).node v).value t ≡ (w.node v).value t)
    → (before after : List Event) (e : Event) → a ∷ [] ≡ before ++ e ∷ after
    → ((step (run w before) e).node v).value t ≡ ((run w before).node v).value t
single-event w a v t rests [] after e parts =
    let same : a ≡ e = cc in
    subst (λ x. ((step w x).node v).value t ≡ (w.node v).value t) same rests
single-event w a v t rests (b ∷ []) after e parts = absurd cc
single-event w a v t rests (b ∷ c ∷ before) after e parts = absurd cc

-- node 1's machine does not move in a tick of node 0
not-in_another_tick : ¬ MachineMove calm (Tick 0 ∷ []) 1
not-in_another_tick m = m.moves (single-event calm (Tick 0) 1 m.machine refl m.before m.after m.event m.parts)

-- nor in its own, in which it takes the value that it has
at-rest : (t : ℕ) → ((step calm (Tick 1)).node 1).value t ≡ (calm.node 1).value t
at-rest t = grind arith

not-without_a_change : ¬ MachineMove calm (Tick 1 ∷ []) 1
not-without_a_change m = m.moves (single-event calm (Tick 1) 1 m.machine (at-rest m.machine) m.before m.after m.event m.parts)
