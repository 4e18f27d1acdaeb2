-- Rows: what a node does in a round, and what is not a round.
use Rattle.std.proofs.Common.{◌≡◌, ℕ, List, [], ◌∷◌, ◌++◌, Some, None, length, inl, inr, ap, refl, ◌∙◌, arith, length-append}
use Rattle.link_model.specs.declared.item.Item.TheVariants.{Noise}
use Rattle.weaving.specs.declared.journal.Stamped.{Stamped}
use Rattle.weaving.specs.Account.{Note, Ticked, Sent, Took, sent_to}
use Rattle.node_runner.specs.Stamps.{stamp_after, given_back, IsTakeOf}
use Rattle.node_runner.specs.Rounds.{AreSendsTo, AreTakesFrom, IsRound, AreRounds}
use Rattle.node_runner.proofs.Accounts.{sent-on}
use Rattle.node_runner.proofs.AccountEvents.{rounds-ticks}
use Rattle.node_runner.proofs.Rounds.{one-send-length, one-take-length}

abbrev at_time : ℕ → Stamped
at_time t = record { stamp = t; item = Noise }

-- ---- rounds of a node with the neighbours 0 and 2

abbrev both : List ℕ
both = 0 ∷ 2 ∷ []

-- a tick, a send to each, and takes: two from 0 and none from 2
abbrev full : List Note
full = Ticked 1 ∷ Sent 0 (at_time 2) ∷ Sent 2 (at_time 3) ∷ Took 0 (at_time 4) ∷ Took 0 (at_time 5) ∷ []

full-round : IsRound both full
full-round = record {
  stamp = 1;
  sends = Sent 0 (at_time 2) ∷ Sent 2 (at_time 3) ∷ [];
  takes = Took 0 (at_time 4) ∷ Took 0 (at_time 5) ∷ [];
  are = refl;
  are_sends = (
    Sent 0 (at_time 2) ∷ [],
    Sent 2 (at_time 3) ∷ [],
    refl,
    inr (at_time 2, refl),
    (Sent 2 (at_time 3) ∷ [], [], refl, inr (at_time 3, refl), refl),
  );
  are_takes = (
    Took 0 (at_time 4) ∷ [],
    Took 0 (at_time 5) ∷ [],
    [],
    refl,
    inr (at_time 4, refl),
    inr (at_time 5, refl),
    ([], [], [], refl, inl refl, inl refl, refl),
  );
}

-- a tick alone is a round too
tick-round : IsRound both (Ticked 7 ∷ [])
tick-round = record {
  stamp = 7;
  sends = [];
  takes = [];
  are = refl;
  are_sends = ([], [], refl, inl refl, ([], [], refl, inl refl, refl));
  are_takes = ([], [], [], refl, inl refl, inl refl, ([], [], [], refl, inl refl, inl refl, refl));
}

two-rounds : AreRounds both 2 (full ++ Ticked 7 ∷ [])
two-rounds = (full, Ticked 7 ∷ [], refl, full-round, (Ticked 7 ∷ [], [], refl, tick-round, refl))

-- ---- no rounds

-- two ticks are not one round, nor is nothing
not-two_ticks : AreRounds both 1 (full ++ Ticked 7 ∷ []) → ⊥
not-two_ticks rounds = let count : 2 ≡ 1 = rounds-ticks 1 both 1 (full ++ Ticked 7 ∷ []) rounds in omega (arith, count)

not-nothing : AreRounds both 1 [] → ⊥
not-nothing rounds = let count : 0 ≡ 1 = rounds-ticks 1 both 1 [] rounds in omega (arith, count)

-- at most one send goes to a neighbour
not-two_sends : AreSendsTo (0 ∷ []) (Sent 0 (at_time 2) ∷ Sent 0 (at_time 3) ∷ []) → ⊥
not-two_sends (first, later, are, one, none) =
    let all : 2 ≡ length (first ++ later) = ap length are in
    let parts = length-append first later in
    let few = one-send-length 0 first one in
    let nought = ap length none in
    omega (arith, all, parts, few, nought)

-- and none goes to another
not-to_another : AreSendsTo (0 ∷ []) (Sent 1 (at_time 2) ∷ []) → ⊥
not-to_another (first, later, are, one, none) =
    let apart : sent_to 1 first ≡ [] = elim one [
      | inl nothing ↦ ap (sent_to 1) nothing
      | inr some ↦ ap (sent_to 1) some.1
    ] in
    let all : ◌≡◌ {A = List Stamped} (at_time 2 ∷ []) [] =
    ap (sent_to 1) are ∙ (sent-on 1 first later ∙ (ap (λ xs. xs ++ sent_to 1 later) apart ∙ ap (sent_to 1) none)) in
    let count : 1 ≡ 0 = ap length all in
    omega (arith, count)

-- at most two items are taken from a neighbour
not-three_takes : AreTakesFrom (0 ∷ []) (Took 0 (at_time 2) ∷ Took 0 (at_time 3) ∷ Took 0 (at_time 4) ∷ []) → ⊥
not-three_takes (first, second, later, are, one, two, none) =
    let all : 3 ≡ length (first ++ (second ++ later)) = ap length are in
    let parts = length-append first (second ++ later) in
    let parts' = length-append second later in
    let few = one-take-length 0 first one in
    let few' = one-take-length 0 second two in
    let nought = ap length none in
    omega (arith, all, parts, parts', few, few', nought)

-- ---- clocks

-- an event is later than both events that it waited for; after the last stamp there is none
row-after : stamp_after 3 5 ≡ Some 6
row-after = refl

row-after-other : stamp_after 5 3 ≡ Some 6
row-after-other = refl

row-last : stamp_after 4611686018427387904 0 ≡ None
row-last = refl

-- a take is later than its item, not at the same time
row-take : IsTakeOf (at_time 3) (at_time 2)
row-take = record { item = refl; later = omega arith }

not-at_its_time : IsTakeOf (at_time 2) (at_time 2) → ⊥
not-at_its_time take = let l = take.later in omega (arith, l)

-- a place is given back up to 2^61
row-given : given_back (at_time 1 ∷ at_time 2305843009213693952 ∷ at_time 2305843009213693953 ∷ []) ≡ 1 ∷ 2305843009213693952 ∷ []
row-given = refl
