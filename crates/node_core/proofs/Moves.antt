-- The machines move one after the other as they would all at once.
use Rattle.std.proofs.Common.{◌≡◌, ℕ, ◌+◌, ◌<◌, ◌≤◌, Bool, true, false, ◌&&◌, ◌||◌, ◌==◌, List, Option, Contains, refl, sym, ap, ◌∙◌, arith, inl, inr, get_or, length, take, if◌then◌else◌}
use Rattle.std.proofs.Math.Path.{fun_ext}
use Rattle.std.specs.List.Sorted.{IsStrictlyIncreasing}
use Rattle.std.proofs.lemmas.Grind.{common_steps, get_or_default_zero}
use Rattle.std.proofs.lemmas.Bool.{cases_Bool}
use Rattle.std.proofs.lemmas.List.{length-take, get_or-take, get_or_default, take_all}
use Rattle.std.proofs.lemmas.List.Folds.{list_any_more}
use Rattle.std.proofs.lemmas.List.Kept.{AllPairs-from_increasing}
use Rattle.registers.specs.topology.At.{at}
use Rattle.euler_ring.specs.Cycle.{is_on, is_named}
use Rattle.registers.specs.k_state.Machine.{is_privileged, root_moved}
use Rattle.registers.specs.Registers.{RegistersView, IsRegisters, port_of, value_of}
use Rattle.node_core.specs.OnRegisters.{IsTreeWithin, machine_may_move, machine_moved, values_moved}
use Rattle.node_core.proofs.OnTree.{on-from_Contains, Contains-from_on}

-- the values x, of which those at the places in `done` that pass q have become m
abbrev pub moved_at : (done : List ℕ) (q : ℕ → Bool) (m x : ℕ → ℕ) → ℕ → ℕ
moved_at done q m x t = if is_on done t && q t then m t else x t

-- what stands at a place of a list is on it
pub standing : (ns near : List ℕ) (k : ℕ) → near ≡ ns → k < length ns → Contains ns (get_or near k 0)
standing ns near k are within = rw are (k, within, get_or_default ns k (get_or ns k 0) 0 within)

-- in an ascending list what stands at a place stands at no earlier one
pub not_before : (ns : List ℕ) (k : ℕ) → IsStrictlyIncreasing ns → k < length ns → is_on (take k ns) (get_or ns k 0) ≡ false
not_before ns k up within = elim (cases_Bool (is_on (take k ns) (get_or ns k 0))) [
  | inr off ↦ off
  | inl on ↦
      let t = get_or ns k 0 in
      let (j, there, same) = Contains-from_on (take k ns) t on in
      let before : j < k = omega (arith, length-take k ns, there) in
      let less = AllPairs-from_increasing ns up j k t before within in
      absurd (omega (arith, less, same, get_or-take k ns j t before, get_or_default_zero ns k t within))
]

on_more : (ns : List ℕ) (k t : ℕ) → k < length ns → is_on (take (k + 1) ns) t ≡ (is_on (take k ns) t || get_or ns k 0 == t)
on_more ns k t within = list_any_more (λ u. u == t) ns k 0 within

-- the next machine moves
pub moves_one : (ns : List ℕ) (q : ℕ → Bool) (m x now : ℕ → ℕ) (k t : ℕ) → k < length ns → get_or ns k 0 ≡ t → q t ≡ true
    → ((i : ℕ) → now i ≡ moved_at (take k ns) q m x i)
    → (i : ℕ) → at now t (m t) i ≡ moved_at (take (k + 1) ns) q m x i
moves_one ns q m x now k t within is passes before i = grind (arith, common_steps, before i, on_more ns k i within)

-- the next machine stays
pub stays_one : (ns : List ℕ) (q : ℕ → Bool) (m x now : ℕ → ℕ) (k t : ℕ) → k < length ns → get_or ns k 0 ≡ t → q t ≡ false
    → ((i : ℕ) → now i ≡ moved_at (take k ns) q m x i)
    → (i : ℕ) → now i ≡ moved_at (take (k + 1) ns) q m x i
stays_one ns q m x now k t within is fails before i = grind (arith, common_steps, before i, on_more ns k i within)

-- one that has not had its turn is as it was
pub not_yet : (ns : List ℕ) (q : ℕ → Bool) (m x now : ℕ → ℕ) (k t : ℕ) → IsStrictlyIncreasing ns → k < length ns → get_or ns k 0 ≡ t
    → ((i : ℕ) → now i ≡ moved_at (take k ns) q m x i) → now t ≡ x t
not_yet ns q m x now k t up within is before = grind (arith, common_steps, before t, not_before ns k up within)

-- the registers when the first k neighbours had their turn: of the old ones only values have
-- changed, those of machines that might move
pub record IsMovedUpTo (old now : RegistersView) (tree : List ℕ) (chosen : Option ℕ) (k : ℕ) : Type 0 where
  pub rest : now ≡ record old { values = now.values }
  pub values : (t : ℕ) → value_of now t ≡ moved_at (take k old.neighbours) (λ u. is_on tree u && machine_may_move old chosen u) (machine_moved old chosen) (value_of old) t

-- at first none
pub none_moved : (old : RegistersView) (tree : List ℕ) (chosen : Option ℕ) → IsMovedUpTo old old tree chosen 0
none_moved old tree chosen = record { rest = refl; values = λ t. refl }

-- a machine that has not had its turn is as it was
pub same_machine : (old now : RegistersView) (chosen : Option ℕ) (t : ℕ) → now ≡ record old { values = now.values } → value_of now t ≡ value_of old t
    → (machine_may_move now chosen t ≡ machine_may_move old chosen t) × (machine_moved now chosen t ≡ machine_moved old chosen t)
same_machine old now chosen t rest same =
    let port : port_of now ≡ port_of old = ap port_of rest in
    let modulus : now.ranges.ring ≡ old.ranges.ring = ap (λ r. r.ranges.ring) rest in (
      λ i. is_privileged (is_named chosen t) (same i) (port i t).copy.ring,
      λ i. if is_named chosen t then root_moved (same i) (modulus i) else (port i t).copy.ring,
    )

unmoved : (old now : RegistersView) (tree : List ℕ) (chosen : Option ℕ) (k t : ℕ) → IsRegisters old → IsMovedUpTo old now tree chosen k
    → k < length old.neighbours → get_or old.neighbours k 0 ≡ t
    → (machine_may_move now chosen t ≡ machine_may_move old chosen t) × (machine_moved now chosen t ≡ machine_moved old chosen t)
unmoved old now tree chosen k t ok done within is =
    same_machine old now chosen t done.rest
    (not_yet old.neighbours (λ u. is_on tree u && machine_may_move old chosen u) (machine_moved old chosen) (value_of old) (value_of now) k t ok.ascending within is done.values)

-- the next neighbour's machine moves
pub moved_one_more : (old now new : RegistersView) (tree : List ℕ) (chosen : Option ℕ) (k t : ℕ) → IsRegisters old → IsMovedUpTo old now tree chosen k
    → k < length old.neighbours → get_or old.neighbours k 0 ≡ t → true ≡ (is_on tree t && machine_may_move now chosen t)
    → value_of new ≡ at (value_of now) t (machine_moved now chosen t) → new ≡ record now { values = new.values } → IsMovedUpTo old new tree chosen (k + 1)
moved_one_more old now new tree chosen k t ok done within is may wrote rest =
    let (same_may, same_move) = unmoved old now tree chosen k t ok done within is in
    let passes : (is_on tree t && machine_may_move old chosen t) ≡ true = rw (← same_may) (sym may) in
    record {
      rest = rest ∙ ap (λ (r : RegistersView). record r { values = new.values }) done.rest;
      values = λ i.
          ap (λ f. f i) wrote
          ∙ ap (λ x. at (value_of now) t x i) same_move
          ∙ moves_one old.neighbours (λ u. is_on tree u && machine_may_move old chosen u) (machine_moved old chosen) (value_of old) (value_of now) k t within is passes done.values i;
    }

-- the next neighbour's machine stays, or there is none
pub stayed_one_more : (old now : RegistersView) (tree : List ℕ) (chosen : Option ℕ) (k t : ℕ) → IsRegisters old → IsMovedUpTo old now tree chosen k
    → k < length old.neighbours → get_or old.neighbours k 0 ≡ t → false ≡ (is_on tree t && machine_may_move now chosen t) → IsMovedUpTo old now tree chosen (k + 1)
stayed_one_more old now tree chosen k t ok done within is stays =
    let (same_may, same_move) = unmoved old now tree chosen k t ok done within is in
    let fails : (is_on tree t && machine_may_move old chosen t) ≡ false = rw (← same_may) (sym stays) in
    record {
      rest = done.rest;
      values = stays_one old.neighbours (λ u. is_on tree u && machine_may_move old chosen u) (machine_moved old chosen) (value_of old) (value_of now) k t within is fails done.values;
    }

-- a test that implies being listed does not change if being listed is tested, too
listed_anyway : (a b c : Bool) → (b ≡ true → a ≡ true) → (a && (b && c)) ≡ (b && c)
listed_anyway a true c h = rw (h refl) refl
listed_anyway true false c h = refl
listed_anyway false false c h = refl

-- at the end all that might move have moved
pub all_moved : (old now : RegistersView) (tree : List ℕ) (chosen : Option ℕ) (k : ℕ) → IsTreeWithin old tree → IsMovedUpTo old now tree chosen k → length old.neighbours ≤ k
    → value_of now ≡ values_moved old tree chosen
all_moved old now tree chosen k within done past = fun_ext (λ i.
    let listed = listed_anyway (is_on old.neighbours i) (is_on tree i) (machine_may_move old chosen i) (λ on. on-from_Contains old.neighbours i (within.neighbours i on)) in
    let whole : take k old.neighbours ≡ old.neighbours = take_all k old.neighbours past in
    done.values i ∙ rw (whole, listed) refl)
