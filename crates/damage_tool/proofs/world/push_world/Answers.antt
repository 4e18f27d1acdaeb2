use Rattle.std.proofs.Common.{◌∙◌, ℕ, ◌≤◌, subst, arith}
use Rattle.std.specs.List.{range_with_len}
use Rattle.rand_pcg.specs.Lcg.{Lcg}
use Rattle.damage_tool.specs.Harms.{draw_each, draw_node, draw_links_from}
use Rattle.damage_tool.proofs.Drawing.{err-owes-nothing, grows-on, grows-thrice, range-starts, range-goes_on, range-end, two-drawn}
use Rattle.damage_tool.proofs.world.push_world.Goals as goal

pub loop-node-preserved : goal.loop-node-preserved
loop-node-preserved g c = range-goes_on c.loop-node.invariant (omega arith) c.in_ok-push_node.ensures.drawn c.push_node.ensures.kept

pub loop-from-preserved : goal.loop-from-preserved
loop-from-preserved g c = range-goes_on c.loop-from.invariant (omega arith) c.in_ok-push_links_from.ensures.drawn c.push_links_from.ensures.kept

pub loop-node-init : goal.loop-node-init
loop-node-init g c = range-starts c.args.net.now.nodes

pub loop-from-init : goal.loop-from-init
loop-from-init g c = range-starts c.args.net.now.nodes

pub returns-in_err-push_node : goal.returns-in_err-push_node
returns-in_err-push_node g c =
    let node = c.loop-node in
    record {
      drawn = err-owes-nothing c.from_residual.result _ c.from_residual.ensures.0;
      kept = grows-on c.args.out.now.items node.out.items c.push_node.new.out.items node.invariant.kept c.push_node.ensures.kept;
    }

pub returns-in_err-push_links_from : goal.returns-in_err-push_links_from
returns-in_err-push_links_from g c =
    let failed = c.from_residual-in_err-push_links_from in
    record {
      drawn = err-owes-nothing failed.result _ failed.ensures.0;
      kept = grows-thrice c.args.out.now.items c.loop-node.out.items c.loop-from.out.items c.push_links_from.new.out.items
          c.loop-node.invariant.kept c.loop-from.invariant.kept c.push_links_from.ensures.kept;
    }

pub returns : goal.returns
returns g c =
    let net = c.args.net.now in
    let node = c.loop-node in
    let from = c.loop-from in
    let old = c.args.out.now.items in
    let all : net.nodes ≤ node.node = subst (λ (n : ℕ). n ≤ node.node) c.nodes-node-end.ensures.nodes c.loop-node-test.false in
    let both : net.nodes ≤ from.from = subst (λ (n : ℕ). n ≤ from.from) c.nodes-from-end.ensures.nodes c.loop-from-test.false in
    record {
      drawn =
          two-drawn (λ (h : Lcg). draw_each (draw_node net) (range_with_len 0 net.nodes) h)
          (λ (h : Lcg). draw_each (draw_links_from net) (range_with_len 0 net.nodes) h) old node.out.items from.out.items
          c.args.generator.now node.generator from.generator
          (node.invariant.drawn ∙ range-end (draw_node net) node.node net.nodes node.out.items node.generator all)
          (from.invariant.drawn ∙ range-end (draw_links_from net) from.from net.nodes from.out.items from.generator both);
      kept = grows-on old node.out.items from.out.items node.invariant.kept from.invariant.kept;
    }
