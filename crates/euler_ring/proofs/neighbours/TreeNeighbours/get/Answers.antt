use Rattle.std.proofs.Common.{◌≡◌, ◌∙◌, sym, ap, drop, arith, Option, ℕ, List, refl}
use Rattle.std.specs.Prelude.{slice_get}
use Rattle.std.proofs.lemmas.Option.{slice_get-get_or}
use Rattle.euler_ring.specs.Cycle.{lowest}
use Rattle.euler_ring.proofs.Ascending.{lowest-drop, drop-one, item_on}
use Rattle.euler_ring.proofs.neighbours.TreeNeighbours.get.Goals as goal

pub loop-preserved : goal.loop-preserved
loop-preserved c = c.without_lowest-rest.ensures ∙ ap (λ ts. drop 1 ts) c.loop.invariant ∙ drop-one c.loop.counter c.args.self.now

-- the lowest of what is left is the i-th
left : (ts rest : List ℕ) (counter i : ℕ) (o : Option ℕ) → rest ≡ drop counter ts → counter ≡ i → o ≡ lowest rest → o ≡ slice_get ts i
left ts rest counter i o e is low = low ∙ ap lowest e ∙ lowest-drop counter ts ∙ ap (λ k. slice_get ts k) is

pub unwrap-requires : goal.unwrap-requires
unwrap-requires c =
    let there = left _ _ c.loop.counter c.args.i _ c.loop.invariant (omega arith) c.lowest.ensures in
    rw (there ∙ slice_get-get_or c.args.self.now c.args.i 0 c.requires) refl

pub returns-clause-item : goal.returns-clause-item
returns-clause-item c = sym (left _ _ c.loop.counter c.args.i _ c.loop.invariant (omega arith) c.lowest.ensures) ∙ c.unwrap.ensures

pub returns-clause-there : goal.returns-clause-there
returns-clause-there c = item_on c.args.i c.args.self.now _ (sym (left _ _ c.loop.counter c.args.i _ c.loop.invariant (omega arith) c.lowest.ensures) ∙ c.unwrap.ensures)
