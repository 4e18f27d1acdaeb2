use Rattle.std.proofs.Common.{◌∙◌, ap, sym, refl, arith, ℕ, ◌+◌, ◌%◌, ◌/◌, List, [], ◌∷◌, ◌++◌, append_assoc}
use Rattle.leb128.specs.Spelling.{leb128, leb128_in}
use Rattle.leb128.proofs.Numbers.{number-goes_on, number-ends}
use Rattle.leb128.proofs.writing.push_number.Goals as goal

pub loop-rest-init : goal.loop-rest-init
unfolding leb128
loop-rest-init g c = (9, omega (arith, c.ranges.number.fits), refl, omega arith, refl)

pub loop-rest-preserved : goal.loop-rest-preserved
loop-rest-preserved g c =
    let i = c.loop-rest.invariant in
    let rest = c.loop-rest.rest in
    let out = c.loop-rest.out.items in
    let put = c.push_reserved.ensures in
    let s = number-goes_on i.0 rest (omega (arith, c.loop-rest-test.true)) i.1 in
    let byte = rest % 128 + 128 in
    let items =
    ap (λ (l : List ℕ). l ++ leb128_in s.0 (rest / 128)) put.items ∙ append_assoc out (byte ∷ []) (leb128_in s.0 (rest / 128))
    ∙ ap (λ (l : List ℕ). out ++ l) (sym s.3) ∙ i.2 in
    (s.0, s.2, items, omega (arith, put.len, i.3, s.1), put.capacity ∙ i.4)

pub returns-clause-items : goal.returns-clause-items
returns-clause-items g c =
    let i = c.loop-rest.invariant in
    let rest = c.loop-rest.rest in
    c.push_reserved-2.ensures.items ∙ ap (λ (l : List ℕ). c.loop-rest.out.items ++ l) (sym (number-ends i.0 rest (omega (arith, c.loop-rest-test.false)))) ∙ i.2
