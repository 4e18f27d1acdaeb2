-- Counting sweeps: joined lists, and the greedy count.
use Rattle.std.proofs.Common.{◌≡◌, ℕ, ◌+◌, ◌<◌, zero, suc, List, [], ◌∷◌, ◌++◌, refl, sym, ◌∙◌, ap, subst, arith, inl, inr, append_assoc}
use Rattle.std.proofs.lemmas.Bool.{cases_order}
use Rattle.std.proofs.lemmas.List.{append-nil}
use Rattle.run_model.specs.World.{World}
use Rattle.run_model.specs.Run.{run, IsUndamaged}
use Rattle.run_model.specs.Sweep.{IsSweep, Sweeps}
use Rattle.run_model.specs.Count.{IsGreatestCount}
use Rattle.run_model.specs.Greedy.{IsEarliest, IsUnfinished, EarliestSweeps, IsCounted}
use Rattle.run_model.specs.declared.event.Event.{Event}
use Rattle.run_model.proofs.Runs.{run-network, runs-join, undamaged-joins, undamaged-splits}
use Rattle.run_model.proofs.Splits.{fewer-sweeps}
use Rattle.run_model.proofs.Renewing.{sweep-late}
use Rattle.run_model.proofs.Joined.{AreEdges}

-- undamaged events before some sweeps belong to the first of them
pub sweeps-late : (w : World) (r : ℕ) (front es : List Event) → AreEdges w.net → IsUndamaged w front → Sweeps (run w front) r es → Sweeps w r (front ++ es)
sweeps-late w zero front es edges fine s = tt
sweeps-late w (suc r) front es edges fine (first, rest, e, sweep, s) = (
  front ++ first,
  rest,
  ap (λ l. front ++ l) e ∙ sym (append_assoc front first rest),
  sweep-late w front first edges (undamaged-joins w front first fine sweep.undamaged) sweep,
  subst (λ x. Sweeps x r rest) (sym (runs-join w front first)) s,
)

pub sweeps-join : (w : World) (r s : ℕ) (first rest : List Event) → AreEdges w.net → IsUndamaged w first → Sweeps w r first → Sweeps (run w first) s rest
    → (n : ℕ) → n ≡ r + s → Sweeps w n (first ++ rest)
sweeps-join w zero s first rest edges fine a b n k = subst (λ m. Sweeps w m (first ++ rest)) (omega arith) (sweeps-late w s first rest edges fine b)
sweeps-join w (suc r) s first rest edges fine a b zero k = absurd (omega arith)
sweeps-join w (suc r) s first rest edges fine (one, others, e, sweep, a) b (suc n) k = (
  one,
  others ++ rest,
  ap (λ l. l ++ rest) e ∙ append_assoc one others rest,
  sweep,
  sweeps-join (run w one) r s others rest (subst AreEdges (sym (run-network w one sweep.undamaged)) edges)
      (undamaged-splits w one others (subst (IsUndamaged w) e fine)).1 a
      (subst (λ x. Sweeps x s rest) (ap (run w) e ∙ runs-join w one others) b) n (omega arith),
)

-- of two prefixes of one list, the first is a prefix of the second, or the second a proper prefix
-- of the first
pub data TwoBeginnings (a b c d : List Event) : Type 0 where
  Longer : (mid : List Event) → c ≡ a ++ mid → b ≡ mid ++ d → TwoBeginnings a b c d
  Shorter : (e : Event) (mid : List Event) → a ≡ c ++ e ∷ mid → d ≡ e ∷ (mid ++ b) → TwoBeginnings a b c d

two-beginnings : (a b c d : List Event) → a ++ b ≡ c ++ d → TwoBeginnings a b c d
two-beginnings [] b c d e = Longer c refl e
two-beginnings (x ∷ a) b [] d e = Shorter x a refl (sym e)
two-beginnings (x ∷ a) b (y ∷ c) d e = elim (two-beginnings a b c d cc) [
  | Longer mid f g ↦ let same : y ≡ x = cc in Longer mid (ap (λ z. z ∷ c) same ∙ ap (λ l. x ∷ l) f) g
  | Shorter z mid f g ↦ let same : x ≡ y = cc in Shorter z mid (ap (λ z. z ∷ a) same ∙ ap (λ l. y ∷ l) f) g
]

-- the rest after the earliest sweep holds all the other sweeps
pub earliest-best : (w : World) (r : ℕ) (first rest : List Event) → AreEdges w.net → IsUndamaged w (first ++ rest) → IsEarliest w first
    → Sweeps w (suc r) (first ++ rest) → Sweeps (run w first) r rest
earliest-best w r first rest edges fine earliest (other, later, e, sweep, s) = elim (two-beginnings first rest other later e) [
  | Shorter event mid f g ↦ absurd (let none = earliest other (event ∷ mid) f sweep in cc)
  | Longer mid f g ↦
      let after : Sweeps (run (run w first) mid) r later = subst (λ x. Sweeps x r later) (ap (run w) f ∙ runs-join w first mid) s in
      subst (Sweeps (run w first) r) (sym g)
      (sweeps-late (run w first) r mid later (subst AreEdges (sym (run-network w first (undamaged-splits w first rest fine).0)) edges)
      (undamaged-splits (run w first) mid later (subst (IsUndamaged (run w first)) g (undamaged-splits w first rest fine).1)).0 after)
]

pub greedy-count : (w : World) (r : ℕ) (first rest : List Event) → AreEdges w.net → IsUndamaged w (first ++ rest) → IsSweep w first → IsEarliest w first
    → IsGreatestCount (run w first) rest r → IsGreatestCount w (first ++ rest) (suc r)
greedy-count w r first rest edges fine sweep earliest count = record {
  held = (first, rest, refl, sweep, count.held);
  no_more = λ s. count.no_more (earliest-best w (suc r) first rest edges fine earliest s);
}

pub no-sweep_count : (w : World) (es : List Event) → ((front back : List Event) → es ≡ front ++ back → ¬ IsSweep w front) → IsGreatestCount w es 0
no-sweep_count w es none = record { held = tt; no_more = λ s. none s.0 s.1 s.2 s.3 }

-- ---- event by event

-- the count so far is the greatest count
pub counted-greatest : (w : World) (r : ℕ) (done rest : List Event) → AreEdges w.net → IsUndamaged w (done ++ rest) → EarliestSweeps w r done
    → IsUnfinished (run w done) rest → IsGreatestCount w (done ++ rest) r
counted-greatest w zero done rest edges fine none unfinished =
    subst (λ l. IsGreatestCount w (l ++ rest) 0) (sym none) (no-sweep_count w rest (subst (λ l. IsUnfinished (run w l) rest) none unfinished))
counted-greatest w (suc r) done rest edges fine (first, others, e, sweep, earliest, later) unfinished =
    let split : done ++ rest ≡ first ++ (others ++ rest) = ap (λ l. l ++ rest) e ∙ append_assoc first others rest in
    let all = subst (IsUndamaged w) split fine in
    subst (λ l. IsGreatestCount w l (suc r)) (sym split)
    (greedy-count w r first (others ++ rest) edges all sweep earliest
    (counted-greatest (run w first) r others rest (subst AreEdges (sym (run-network w first sweep.undamaged)) edges) (undamaged-splits w first (others ++ rest) all).1 later
    (subst (λ x. IsUnfinished x rest) (ap (run w) e ∙ runs-join w first others) unfinished)))

-- an empty list is no sweep, since there is a node
pub nothing-unfinished : (w : World) → 0 < w.net.nodes → IsUnfinished w []
nothing-unfinished w some [] back e sweep = let none = sweep.ticked 0 some in cc
nothing-unfinished w some (event ∷ front) back e sweep = absurd cc

-- a prefix of an unfinished stretch and one more event is no sweep, unless it is the whole
one-more : (w : World) (rest : List Event) (e : Event) (front back : List Event) → IsUnfinished w rest → rest ++ e ∷ [] ≡ front ++ back → IsSweep w front
    → (front ≡ rest ++ e ∷ []) × (back ≡ [])
one-more w rest e front back unfinished same sweep = elim (two-beginnings front back rest (e ∷ []) (sym same)) [
  | Longer mid f g ↦ absurd (unfinished front mid f sweep)
  | Shorter x [] f g ↦ (let y : x ≡ e = cc in f ∙ ap (λ z. rest ++ z ∷ []) y, cc)
  | Shorter x (y ∷ mid) f g ↦ absurd cc
]

pub count-stays : (w : World) (r : ℕ) (done rest : List Event) (e : Event) → IsCounted w done rest r → ¬ IsSweep (run w done) (rest ++ e ∷ [])
    → IsCounted w done (rest ++ e ∷ []) r
count-stays w r done rest e count none = record {
  sweeps = count.sweeps;
  unfinished = λ front back same sweep.
      none (subst (IsSweep (run w done)) (one-more (run w done) rest e front back count.unfinished same sweep).0 sweep);
}

sweeps-rise : (w : World) (r : ℕ) (done last : List Event) → EarliestSweeps w r done → IsSweep (run w done) last → IsEarliest (run w done) last
    → EarliestSweeps w (suc r) (done ++ last)
sweeps-rise w zero done last none sweep earliest = (
  last,
  [],
  ap (λ l. l ++ last) none ∙ sym (append-nil last),
  subst (λ l. IsSweep (run w l) last) none sweep,
  subst (λ l. IsEarliest (run w l) last) none earliest,
  refl,
)
sweeps-rise w (suc r) done last (first, others, e, one, early, later) sweep earliest =
    let there = ap (run w) e ∙ runs-join w first others in (
      first,
      others ++ last,
      ap (λ l. l ++ last) e ∙ append_assoc first others last,
      one,
      early,
      sweeps-rise (run w first) r others last later (subst (λ x. IsSweep x last) there sweep) (subst (λ x. IsEarliest x last) there earliest),
    )

pub count-rises : (w : World) (r : ℕ) (done rest : List Event) (e : Event) → 0 < (run w (done ++ (rest ++ e ∷ []))).net.nodes → IsCounted w done rest r → IsSweep (run w done) (rest ++ e ∷ [])
    → IsCounted w (done ++ (rest ++ e ∷ [])) [] (suc r)
count-rises w r done rest e some count sweep =
    let all = done ++ (rest ++ e ∷ []) in record {
      sweeps = sweeps-rise w r done (rest ++ e ∷ []) count.sweeps sweep
          (λ front back same early. (one-more (run w done) rest e front back count.unfinished same early).1);
      unfinished = nothing-unfinished (run w all) some;
    }

-- ---- one count

-- no list has two greatest counts
greatest-least : (w : World) (es : List Event) (r s : ℕ) → IsGreatestCount w es r → IsGreatestCount w es s → r < s → ⊥
greatest-least w es r s a b l = a.no_more (fewer-sweeps w (suc r) s es (omega arith) b.held)

pub one-count : (w : World) (es : List Event) (r s : ℕ) → IsGreatestCount w es r → IsGreatestCount w es s → r ≡ s
one-count w es r s a b = elim (cases_order r s) [
  | inl e ↦ e
  | inr (inl l) ↦ absurd (greatest-least w es r s a b l)
  | inr (inr l) ↦ absurd (greatest-least w es s r b a l)
]
