-- What a writer of the registers makes of a node.
use Rattle.std.proofs.Common.{◌≡◌, ℕ, Result, Ok, Err, OnOk, OnErr, refl, ap}
use Rattle.registers.specs.topology.At.{at}
use Rattle.registers.specs.Registers.{RegistersView, port_of, value_of}
use Rattle.registers.specs.data_link.Port.{PortState}
use Rattle.node_core.specs.View.{NodeView, site_in, state_of}
use Rattle.node_core.specs.Writes.{with_port}
use Rattle.node_core.proofs.Same.{same_state}

-- the node with other registers
abbrev pub with_registers : NodeView → RegistersView → NodeView
with_registers v r = record v { registers = r }

-- one port is written
pub port_written : {X E : Type 0} (v : NodeView) (r : RegistersView) (w : ℕ) (p : PortState) (result : Result X E) → OnOk result (port_of r ≡ at (port_of v.registers) w p)
    → r ≡ record v.registers { ports = r.ports } → OnOk result (state_of (with_registers v r) ≡ with_port (state_of v) w p)
port_written v r w p (Ok x) wrote rest = same_state _ _ refl refl wrote (ap value_of rest) refl
port_written v r w p (Err e) wrote rest = tt

-- or one value
pub value_written : {X E : Type 0} (v : NodeView) (r : RegistersView) (w x : ℕ) (result : Result X E) → OnOk result (value_of r ≡ at (value_of v.registers) w x)
    → r ≡ record v.registers { values = r.values } → OnOk result (state_of (with_registers v r) ≡ record (state_of v) { value = at (state_of v).value w x })
value_written v r w x (Ok y) wrote rest = same_state _ _ refl refl (ap port_of rest) wrote refl
value_written v r w x (Err e) wrote rest = tt

-- or nothing
pub unwritten : {X E : Type 0} (v : NodeView) (r : RegistersView) (result : Result X E) → OnErr result (r ≡ v.registers) → OnErr result (with_registers v r ≡ v)
unwritten v r (Ok x) same = tt
unwritten v r (Err e) same = ap (with_registers v) same

-- the node's place stays
pub site_with_ports : (v : NodeView) (r : RegistersView) → r ≡ record v.registers { ports = r.ports } → site_in (with_registers v r) ≡ site_in v
site_with_ports v r rest = ap (λ x. site_in (with_registers v x)) rest

pub site_with_values : (v : NodeView) (r : RegistersView) → r ≡ record v.registers { values = r.values } → site_in (with_registers v r) ≡ site_in v
site_with_values v r rest = ap (λ x. site_in (with_registers v x)) rest
