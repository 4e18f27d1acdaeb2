use Rattle.std.proofs.Common.{arith, ◌≡◌, ◌∙◌, ℕ, ◌+◌, ◌<◌, ◌++◌, [], ◌∷◌, List, ap, sym, length, take, get_or}
use Rattle.std.proofs.lemmas.List.{length-take-le, take_all, take_more}
use Rattle.registers.proofs.registers.write_ids.Goals as goal

-- one more is written
one_more : (xs ids : List ℕ) (i : ℕ) → xs ≡ take i ids → i < length ids → xs ++ get_or ids i 0 ∷ [] ≡ take (i + 1) ids
one_more xs ids i are within = rw are (sym (take_more ids i 0 within))

pub loop-id-init : goal.loop-id-init
loop-id-init g c = (c.clear.ensures.items, c.clear.ensures.capacity)

pub push_reserved-requires : goal.push_reserved-requires
push_reserved-requires g c =
    omega (arith, ap length c.loop-id.invariant.0, length-take-le c.loop-id.id-index c.args.ids.now c.loop-id.auto.id-index-end, c.loop-id.list.ok.0, c.loop-id.invariant.1, c.loop-id-test.true, c.requires)

pub loop-id-preserved : goal.loop-id-preserved
loop-id-preserved g c =
    (c.push_reserved.ensures.items ∙ one_more c.loop-id.list.items c.args.ids.now c.loop-id.id-index c.loop-id.invariant.0 c.loop-id-test.true, c.push_reserved.ensures.capacity ∙ c.loop-id.invariant.1)

pub returns-clause-ids : goal.returns-clause-ids
returns-clause-ids g c = c.loop-id.invariant.0 ∙ take_all c.loop-id.id-index c.args.ids.now c.loop-id-test.false

pub returns-clause-room : goal.returns-clause-room
returns-clause-room g c = c.loop-id.invariant.1
