-- A node's state is in its range, as its parts are.
use Rattle.std.proofs.Common.{◌≡◌, ◌<◌, IsTrue, length, get_or, arith}
use Rattle.registers.specs.Registers.{RegistersView, IsRegisters}
use Rattle.registers.specs.data_link.Port.{default_port}
use Rattle.lock_desk.specs.Desk.{desk_fits}
use Rattle.node_core.specs.State.{IsNodeInRange}
use Rattle.node_core.specs.View.{NodeView, IsOwnInRange, site_in, state_of}

pub node_in_range : (v : NodeView) → IsOwnInRange v → IsRegisters v.registers → IsTrue (desk_fits v.desk.lease v.desk.state) → IsNodeInRange (site_in v) (state_of v)
node_in_range v own ok desk = record {
  distance = own.distance;
  parent = own.parent;
  ports = λ k d within.
      let there : get_or v.registers.neighbours k d < length v.registers.ports = omega (arith, ok.neighbours_in k d within, ok.ports) in
      (ok.ports_fit (get_or v.registers.neighbours k d) (record { ranges = v.registers.ranges; state = default_port v.registers.ranges }) there).fits;
  values = λ k d within.
      let there : get_or v.registers.neighbours k d < length v.registers.values = omega (arith, ok.neighbours_in k d within, ok.values) in
      ok.values_fit (get_or v.registers.neighbours k d) 0 there;
  desk = desk;
}

-- other registers of the same ranges leave a node in range
pub own_kept : (v : NodeView) (r : RegistersView) → r.ranges ≡ v.registers.ranges → IsOwnInRange v → IsOwnInRange (record v { registers = r })
own_kept v r same own = record { id = rw same own.id; distance = rw same own.distance; parent = rw same own.parent }
