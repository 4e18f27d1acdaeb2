use Rattle.std.proofs.Common.{ℕ, ◌+◌, ◌%◌, ◌∙◌, ap}
use Rattle.rand_pcg.specs.Lcg.{Lcg}
use Rattle.rand_pcg.specs.Pcg.{pcg32}
use Rattle.damage_tool.specs.Draws.{draw}
use Rattle.damage_tool.proofs.draws.draw_to.Goals as goal

pub returns-clause-drawn : goal.returns-clause-drawn
unfolding draw
returns-clause-drawn c =
    ap (λ (p : ℕ × Lcg). p.0 % (c.from.result + 1)) c.next_word.ensures ∙ ap (λ k. (pcg32 c.args.generator.now).0 % (k + 1)) c.from.ensures

pub returns-clause-generator : goal.returns-clause-generator
unfolding draw
returns-clause-generator c = ap (λ (p : ℕ × Lcg). p.1) c.next_word.ensures
