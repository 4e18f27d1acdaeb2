use Rattle.std.proofs.Common.{◌≡◌, ◌∙◌, ap, subst, sym, ℕ, ◌<◌, IsTrue, rules, arith}
use Rattle.std.proofs.lemmas.Grind.{common_steps}
use Rattle.run_film.specs.Places.{is_clear_of, place_in}
use Rattle.run_film.proofs.Films.{below_next}
use Rattle.run_film.proofs.tickets.is_clear_of_nodes.Goals as goal

pub loop-v-init : goal.loop-v-init
loop-v-init c = λ v below. absurd (omega (arith, below))

pub loop-v-preserved : goal.loop-v-preserved
loop-v-preserved c =
    let clear : IsTrue c.is_clear_of.result = first_of (search rules, grind (arith, common_steps)) in
    below_next (λ v. IsTrue (is_clear_of (place_in c.args.stage.now v) c.args.at c.args.half.0)) c.loop-v.v c.loop-v.invariant
    (subst (λ node. IsTrue (is_clear_of node c.args.at c.args.half.0)) c.at.ensures (subst IsTrue c.is_clear_of.ensures clear))

pub returns : goal.returns
returns c = λ yes v below. c.loop-v.invariant v (omega (arith, below, c.nodes-v-end.ensures.nodes, c.loop-v-test.false, c.loop-v.auto.v-end))
