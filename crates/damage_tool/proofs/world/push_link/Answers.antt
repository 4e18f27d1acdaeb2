use Rattle.std.proofs.Common.{◌∙◌}
use Rattle.damage_tool.specs.Harms.{draw_item_harm}
use Rattle.damage_tool.proofs.Drawing.{err-owes-nothing, grows-as, grows-on, grows-thrice}
use Rattle.damage_tool.proofs.Drawing.{item-drawn, link-drawn, range-starts, range-goes_on, range-end}
use Rattle.damage_tool.proofs.world.push_link.Goals as goal

pub loop-i-preserved : goal.loop-i-preserved
loop-i-preserved g c =
    let pushed = c.in_ok-push-2.ensures.items in
    range-goes_on c.loop-i.invariant c.loop-i-test.true
    (item-drawn c.ranges-ranges.result c.args.from c.args.to c.loop-i.i c.loop-i.out.items c.push-in-loop-i.new.self.items c.drawn_item-item.result c.loop-i.generator
    c.drawn_item-item.new.generator c.drawn_item-item.ensures pushed)
    (_, pushed)

pub loop-i-init : goal.loop-i-init
loop-i-init g c = range-starts c.draw_to-count.result

pub returns-in_err-push : goal.returns-in_err-push
returns-in_err-push g c =
    record {
      drawn = err-owes-nothing c.from_residual.result _ c.from_residual.ensures.0;
      kept = grows-as c.args.out.now.items c.push.new.self.items c.in_err-push.ensures.items;
    }

pub returns-in_err-push-2 : goal.returns-in_err-push-2
returns-in_err-push-2 g c =
    record {
      drawn = err-owes-nothing c.from_residual-in_err-push-2.result _ c.from_residual-in_err-push-2.ensures.0;
      kept = grows-thrice c.args.out.now.items c.push.new.self.items c.loop-i.out.items c.push-in-loop-i.new.self.items
          (_, c.in_ok-push.ensures.items) c.loop-i.invariant.kept (grows-as _ _ c.in_err-push-2.ensures.items);
    }

pub returns : goal.returns
returns g c =
    let first = c.push.new.self.items in
    let out = c.loop-i.out.items in
    let r = c.ranges-ranges.result in
    let count = c.draw_to-count in
    record {
      drawn =
          link-drawn c.args.net.now c.args.from c.args.to c.capacity.result count.result r c.args.out.now.items first out
          c.args.generator.now count.new.generator c.loop-i.generator c.ranges-ranges.ensures c.capacity.ensures.capacity
          count.ensures.drawn count.ensures.generator c.in_ok-push.ensures.items
          (c.loop-i.invariant.drawn
          ∙ range-end (draw_item_harm r c.args.from c.args.to) c.loop-i.i count.result out c.loop-i.generator c.loop-i-test.false);
      kept = grows-on c.args.out.now.items first out (_, c.in_ok-push.ensures.items) c.loop-i.invariant.kept;
    }
