use Rattle.std.proofs.Common.{◌≡◌, ◌∙◌, sym, subst, true, Option, arith}
use Rattle.std.proofs.lemmas.Grind.{common_steps}
use Rattle.std.proofs.lemmas.Bool.Decides.{nat_tests}
use Rattle.std.specs.Option.{option_eq}
use Rattle.run_model.specs.World.{World}
use Rattle.run_model.specs.Step.{step}
use Rattle.run_model.specs.Headline.{IsServing}
use Rattle.configuration.specs.ConfigurationView.{world_of}
use Rattle.configuration.specs.Sight.{IsTouchedSight}
use Rattle.configuration.specs.declared.sight.Sight.{Sight}
use Rattle.configuration.specs.contracts.sight.SightPartialEq.TheImpl as same
use Rattle.configuration.proofs.Sights.{same-sight}
use Rattle.configuration.proofs.sight.serves_after.Goals as goal

equal-sights : (a b : Sight) → same.eq-value.it a b ≡ true → a ≡ b
equal-sights a b e = grind (arith, common_steps, nat_tests)

equal : (a b : Option Sight) → option_eq same.eq-value.it a b ≡ true → a ≡ b
equal a b e = grind (arith, common_steps, equal-sights)

pub returns-then-is_same : goal.returns-then-is_same
returns-then-is_same g c old happens before served =
    let e = c.args.event.now in
    let same : c.args.before ≡ c.touched_sight.result = equal c.args.before c.touched_sight.result (sym c.eq-is_same.ensures ∙ c.if-is_same.true) in
    let after : IsTouchedSight (step old e) e c.args.before =
    subst (λ (w : World). IsTouchedSight w e c.args.before) happens
    (subst (IsTouchedSight (world_of c.args.configuration.now) e) (sym same) c.touched_sight.ensures)
    in
    let both = same-sight c.runs.ensures.network c.sights.ensures old e c.args.before c.in_default.not-Damage before after in (
      λ yes. subst IsServing (sym happens) (both.1 (served.0 yes)),
      λ serving. served.1 (both.0 (subst IsServing happens serving)),
    )
