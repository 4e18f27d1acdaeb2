use Rattle.std.proofs.Common.{◌∙◌}
use Rattle.damage_tool.specs.Harms.{draw_port_harms}
use Rattle.damage_tool.proofs.Drawing.{err-owes-nothing, grows-thrice, grows-as, places-start, places-go_on, place-end, port-drawn, node-drawn}
use Rattle.damage_tool.proofs.world.push_node.Goals as goal

pub loop-port-init : goal.loop-port-init
loop-port-init g c = places-start c.neighbours-neighbours.result.now

pub loop-port-preserved : goal.loop-port-preserved
loop-port-preserved g c =
    let port = c.draw_port-drawn in
    let out = c.loop-port.out.items in
    let more = c.extend_from_slice.new.self.items in
    let added = c.in_ok-extend_from_slice.ensures.items in
    places-go_on c.loop-port.invariant c.loop-port-test.true
    (port-drawn c.ranges-ranges.result c.args.node _ out more c.port_harms.result port.result c.loop-port.generator port.new.generator
    port.ensures.drawn port.ensures.generator c.port_harms.ensures added)
    (_, added)

pub returns-in_err-push : goal.returns-in_err-push
returns-in_err-push g c =
    record {
      drawn = err-owes-nothing c.from_residual.result _ c.from_residual.ensures.0;
      kept = grows-as c.args.out.now.items c.push.new.self.items c.in_err-push.ensures.items;
    }

pub returns-in_err-extend_from_slice : goal.returns-in_err-extend_from_slice
returns-in_err-extend_from_slice g c =
    record {
      drawn = err-owes-nothing c.from_residual-in_err-extend_from_slice.result _ c.from_residual-in_err-extend_from_slice.ensures.0;
      kept = grows-thrice c.args.out.now.items c.push.new.self.items c.loop-port.out.items c.extend_from_slice.new.self.items
          (_, c.in_ok-push.ensures.items) c.loop-port.invariant.kept (grows-as _ _ c.in_err-extend_from_slice.ensures.items);
    }

pub returns-in_err-push-2 : goal.returns-in_err-push-2
returns-in_err-push-2 g c =
    record {
      drawn = err-owes-nothing c.from_residual-in_err-push-2.result _ c.from_residual-in_err-push-2.ensures.0;
      kept = grows-thrice c.args.out.now.items c.push.new.self.items c.loop-port.out.items c.push-2.new.self.items
          (_, c.in_ok-push.ensures.items) c.loop-port.invariant.kept (grows-as _ _ c.in_err-push-2.ensures.items);
    }

pub returns : goal.returns
returns g c =
    let old = c.args.out.now.items in
    let first = c.push.new.self.items in
    let out = c.loop-port.out.items in
    let near = c.neighbours-neighbours.result.now in
    let last = c.push-2.new.self.items in
    let r = c.ranges-ranges.result in
    record {
      drawn =
          node-drawn c.args.net.now c.args.node c.lease.result r near old first out last (c.own_harm.result, c.own_harm.new.generator)
          (c.desk_harm.result, c.desk_harm.new.generator) c.args.generator.now c.loop-port.generator c.ranges-ranges.ensures
          c.neighbours-neighbours.ensures c.lease.ensures.lease c.own_harm.ensures c.in_ok-push.ensures.items
          (c.loop-port.invariant.drawn
          ∙ place-end (draw_port_harms r c.args.node) near c.loop-port.port-index out c.loop-port.generator c.loop-port-test.false)
          c.desk_harm.ensures c.in_ok-push-2.ensures.items;
      kept = grows-thrice old first out last (_, c.in_ok-push.ensures.items) c.loop-port.invariant.kept (_, c.in_ok-push-2.ensures.items);
    }
