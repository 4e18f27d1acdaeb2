use Rattle.std.proofs.Common.{rules, arith, ◌≡◌, ◌∙◌, ap, replicate}
use Rattle.std.proofs.lemmas.Result.{IfOk-from_err}
use Rattle.registers.specs.Registers.{RegistersView, port_of, value_of}
use Rattle.registers.proofs.Start.{start_of, is_start, registers-made, port_of-start, value_of-start}
use Rattle.registers.proofs.registers.Registers.new.Given as given
use Rattle.registers.proofs.registers.Registers.new.Goals as goal

-- what is made of the network, the ids, the ports and the values
module _ (g : given.Over) (c : goal.After-ranges-2 g) where
  abbrev made : RegistersView
  made = record { ranges = c.ranges-2.result; neighbours = c.in_ok-neighbours.neighbours.items; ports = c.in_ok-ports.ports.items; values = c.in_ok-values.values.items }

  zeros : c.in_ok-values.values.items ≡ replicate c.args.net.now.nodes 0
  zeros = search rules

  is_made : made ≡ start_of c.args.net.now c.args.id
  is_made = is_start c.args.net.now c.args.id c.ranges-2.result c.in_ok-neighbours.neighbours.items c.in_ok-ports.ports.items c.in_ok-values.values.items
      c.ranges-2.ensures (c.in_ok-neighbours.ensures.ids ∙ c.neighbours-2.ensures) c.in_ok-ports.ensures zeros

pub invariant_of-result : goal.invariant_of-result
invariant_of-result g c =
    (omega (arith, c.in_ok-neighbours.ensures.room, c.nodes.ensures.nodes, ap (λ r. r.nodes) c.ranges-2.ensures), registers-made c.neighbours.ensures.ascend c.args.net.now c.args.id (made g c) c.nodes.ensures.network (is_made g c))

pub returns-clause-ranges : goal.returns-clause-ranges
returns-clause-ranges g c = c.ranges-2.ensures

pub returns-clause-neighbours : goal.returns-clause-neighbours
returns-clause-neighbours g c = c.in_ok-neighbours.ensures.ids ∙ c.neighbours-2.ensures

pub returns-clause-ports : goal.returns-clause-ports
returns-clause-ports g c = ap port_of (is_made g c) ∙ port_of-start c.args.net.now c.args.id

pub returns-clause-values : goal.returns-clause-values
returns-clause-values g c = ap value_of (is_made g c) ∙ value_of-start c.args.net.now c.args.id

pub returns-in_err-neighbours : goal.returns-in_err-neighbours
returns-in_err-neighbours g c = record {
  ranges = IfOk-from_err _ _ c.from_residual.ensures.0;
  neighbours = IfOk-from_err _ _ c.from_residual.ensures.0;
  ports = IfOk-from_err _ _ c.from_residual.ensures.0;
  values = IfOk-from_err _ _ c.from_residual.ensures.0;
}

pub returns-in_err-ports : goal.returns-in_err-ports
returns-in_err-ports g c = record {
  ranges = IfOk-from_err _ _ c.from_residual-in_err-ports.ensures.0;
  neighbours = IfOk-from_err _ _ c.from_residual-in_err-ports.ensures.0;
  ports = IfOk-from_err _ _ c.from_residual-in_err-ports.ensures.0;
  values = IfOk-from_err _ _ c.from_residual-in_err-ports.ensures.0;
}

pub returns-in_err-values : goal.returns-in_err-values
returns-in_err-values g c = record {
  ranges = IfOk-from_err _ _ c.from_residual-in_err-values.ensures.0;
  neighbours = IfOk-from_err _ _ c.from_residual-in_err-values.ensures.0;
  ports = IfOk-from_err _ _ c.from_residual-in_err-values.ensures.0;
  values = IfOk-from_err _ _ c.from_residual-in_err-values.ensures.0;
}
