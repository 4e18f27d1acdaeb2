use Rattle.std.proofs.Common.{◌≡◌, ◌∙◌, ◌<◌, ℕ, List, ◌++◌, take, drop, All, ap, arith, length, subst, IsTrue}
use Rattle.data_link.specs.topology.Network.{Network, neighbours_of}
use Rattle.data_link.specs.topology.Ranges.{ranges_of}
use Rattle.data_link.specs.Port.{port_fits, default_port}
use Rattle.registers.specs.Registers.{RegistersView}
use Rattle.registers.proofs.Start.{registers-start, default_fits}
use Rattle.registers.proofs.Rewired.{IsRewritten, is_rewritten, neighbours_few, ports_rewired, values_rewired, registers-rewritten, written_back}
use Rattle.registers.proofs.registers.Registers.rewire.Given as given
use Rattle.registers.proofs.registers.Registers.rewire.Goals as goal

pub write_ids-requires : goal.write_ids-requires
write_ids-requires g c =
    let same : c.args.net.now.nodes ≡ c.self.inside.ranges.nodes = rw (← c.self.view_is) at (ap (λ r. r.nodes) c.requires.same_ranges) in
    omega (arith, neighbours_few c.args.net.now c.args.id, ap length c.neighbours-neighbours.ensures, c.self.invariant.0, same)

-- the registers before, the new neighbours, and what the loops leave of all others
module _ (g : given.Over) (c : goal.After-self-2-1 g) where
  abbrev old : RegistersView
  old = record { ranges = c.self.inside.ranges; neighbours = c.self.inside.neighbours.items; ports = c.self.inside.ports.items; values = c.self.inside.values.items }

  abbrev net : Network
  net = c.args.net.now

  abbrev near : List ℕ
  near = neighbours_of net c.args.id

  same_ranges : ranges_of net ≡ old.ranges
  same_ranges = rw (← c.self.view_is) at c.requires.same_ranges

  same : net.nodes ≡ old.ranges.nodes
  same = ap (λ x. x.nodes) same_ranges

  left : IsRewritten old near c.reset_others.new.ports c.clear_others.new.values
  left = is_rewritten old near c.neighbours-neighbours.result.now c.nodes-nodes.result c.reset_others.new.ports c.deref_mut.result.now c.clear_others.new.values c.deref_mut-2.result.now
      (c.nodes-nodes.ensures.nodes ∙ same) c.neighbours-neighbours.ensures c.deref_mut.ensures.value c.deref_mut-2.ensures.value
      c.reset_others.ensures.length c.reset_others.ensures.each c.clear_others.ensures.length c.clear_others.ensures.each

  wrote_ports : take c.self.inside.ports.len (c.reset_others.new.ports ++ drop (length c.reset_others.new.ports) old.ports) ≡ c.reset_others.new.ports
  wrote_ports = written_back c.self.inside.ports.len c.reset_others.new.ports old.ports (omega (arith, left.long_ports, c.self.inside.ports.ok.0))

  wrote_values : take c.self.inside.values.len (c.clear_others.new.values ++ drop (length c.clear_others.new.values) old.values) ≡ c.clear_others.new.values
  wrote_values = written_back c.self.inside.values.len c.clear_others.new.values old.values (omega (arith, left.long_values, c.self.inside.values.ok.0))

pub invariant_of-self : goal.invariant_of-self
invariant_of-self g c =
    let r : RegistersView = old g c in
    let begin = registers-start c.neighbours.ensures.ascend (net g c) c.args.id c.nodes-nodes.ensures.network in
    let start_fits : IsTrue (port_fits r.ranges (default_port r.ranges)) = rw (← same_ranges g c) (default_fits (net g c) c.nodes-nodes.ensures.network).fits in
    let inside : All (λ w. w < r.ranges.nodes) (near g c) = subst (λ n. All (λ w. w < n) (near g c)) (same g c) begin.neighbours_in in
    (omega (arith, c.write_ids.ensures.room, c.self.invariant.0), rw (c.write_ids.ensures.ids, c.neighbours-neighbours.ensures, wrote_ports g c, wrote_values g c) (registers-rewritten r (near g c) c.reset_others.new.ports c.clear_others.new.values c.self.invariant.1 (left g c) start_fits inside begin.ascending))

pub returns-clause-ports : goal.returns-clause-ports
returns-clause-ports g c =
    rw (← c.self.view_is, wrote_ports g c) (ports_rewired (old g c) (near g c) c.reset_others.new.ports c.clear_others.new.values c.self.invariant.1 (left g c))

pub returns-clause-values : goal.returns-clause-values
returns-clause-values g c =
    rw (← c.self.view_is, wrote_values g c) (values_rewired (old g c) (near g c) c.reset_others.new.ports c.clear_others.new.values c.self.invariant.1 (left g c))
