use Rattle.std.proofs.Common.{◌∙◌, sym, ap, List, ℕ}
use Rattle.damage_tool.specs.Harms.{draw_each, draw_link}
use Rattle.damage_tool.specs.Appended.{appended}
use Rattle.damage_tool.proofs.Drawing.{err-owes-nothing, grows-on, places-start, places-go_on, place-end}
use Rattle.damage_tool.proofs.world.push_links_from.Goals as goal

pub loop-to-init : goal.loop-to-init
loop-to-init g c = places-start c.neighbours-neighbours.result.now

pub loop-to-preserved : goal.loop-to-preserved
loop-to-preserved g c = places-go_on c.loop-to.invariant c.loop-to-test.true c.in_ok-push_link.ensures.drawn c.push_link.ensures.kept

pub returns-in_err-push_link : goal.returns-in_err-push_link
returns-in_err-push_link g c =
    record {
      drawn = err-owes-nothing c.from_residual.result _ c.from_residual.ensures.0;
      kept = grows-on c.args.out.now.items c.loop-to.out.items c.push_link.new.out.items c.loop-to.invariant.kept c.push_link.ensures.kept;
    }

pub returns : goal.returns
returns g c =
    let draws = draw_link c.args.net.now c.args.from in
    let near = c.neighbours-neighbours.result.now in
    record {
      drawn =
          sym
          (c.loop-to.invariant.drawn ∙ place-end draws near c.loop-to.to-index c.loop-to.out.items c.loop-to.generator c.loop-to-test.false)
          ∙ ap (λ (xs : List ℕ). appended c.args.out.now.items (draw_each draws xs c.args.generator.now)) c.neighbours-neighbours.ensures;
      kept = c.loop-to.invariant.kept;
    }
