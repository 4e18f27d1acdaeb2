-- For a machine that is seen before a tick and after it, a move is counted exactly if it moves in that tick.
use Rattle.std.proofs.Common.{◌≡◌, ◌≢◌, ◌∙◌, ◌<◌, ◌+◌, ◌%◌, ℕ, zero, suc, Bool, true, false, not, ◌&&◌, inl, inr, refl, sym, ap, arith}
use Rattle.std.specs.Prelude.{◌==◌, if◌then◌else◌, is_none}
use Rattle.std.proofs.Math.Nat.{mod-eq_of_lt, mod_self}
use Rattle.std.proofs.lemmas.Bool.{cases_lt}
use Rattle.std.proofs.lemmas.Bool.Decides.{nat_tests}
use Rattle.std.proofs.lemmas.Grind.{common_steps}
use Rattle.node_core.specs.k_state.Machine.{is_privileged, root_moved}
use Rattle.node_core.specs.Site.{Site}
use Rattle.node_core.specs.State.{LocalState}
use Rattle.node_core.specs.euler_ring.Cycle.{is_on}
use Rattle.node_core.specs.Machines.{is_special, before, tree_of}
use Rattle.node_core.specs.Step.{recomputed, ticked}
use Rattle.look_window.specs.Laws.{MovesAreCounted}

-- the next value is another one
next-other : (x modulus : ℕ) → x < modulus → 1 < modulus → root_moved x modulus ≢ x
next-other x modulus below some e = elim (cases_lt (x + 1) modulus) [
  | inl k ↦ absurd (omega (arith, e, mod-eq_of_lt k))
  | inr k ↦ (let is : x + 1 ≡ modulus = omega (arith, below, k) in
      let none : (x + 1) % modulus ≡ 0 = ap (λ n. n % modulus) is ∙ mod_self modulus in
      absurd (omega (arith, e, none, is, some)))
]

same-counts-not : (t v : ℕ) → (t == t) && not (v == v) ≡ false
same-counts-not t v = grind (arith, common_steps, nat_tests)

root-counts : (t v seen next : ℕ) → next ≢ v → (t == t) && not (v == (if v == seen then next else v)) ≡ (v == seen)
root-counts t v seen next other = grind (arith, common_steps, nat_tests)

copy-counts : (t v seen : ℕ) → (t == t) && not (v == (if not (v == seen) then seen else v)) ≡ not (v == seen)
copy-counts t v seen = grind (arith, common_steps, nat_tests)

-- by whether the node lends to nobody, whether the machine is on the tree, and whether it is the special one
counts : (lends_not is_there is_first : Bool) (t v seen modulus : ℕ) → v < modulus → 1 < modulus
    → (t == t) && not (v == (if lends_not && (is_there && is_privileged is_first v seen)
    then (if is_first then root_moved v modulus else seen) else v))
    ≡ (lends_not && (is_there && is_privileged is_first v seen))
counts false is_there is_first t v seen modulus below some = same-counts-not t v
counts true false is_first t v seen modulus below some = same-counts-not t v
counts true true true t v seen modulus below some =
    root-counts t v seen (root_moved v modulus) (next-other v modulus below some)
counts true true false t v seen modulus below some = copy-counts t v seen

pub counted : MovesAreCounted
counted site s t below some =
    counts (is_none (ticked site s).desk.lent) (is_on (tree_of site (recomputed site s)) t)
    (is_special site (recomputed site s) t) t (s.value t) (before s t) site.ranges.ring below some
