-- What a write at one place does to all places.
use Rattle.std.proofs.Common.{◌≡◌, ◌≢◌, ◌∙◌, ◌↔◌, ap, sym, subst, Bool, Result, Ok, Err, IsOk, OnOk, OnErr, ℕ, ◌<◌, arith, refl, IsTrue, List, length, Contains, slice_set, slice_index_or}
use Rattle.std.proofs.Math.Path.{fun_ext}
use Rattle.std.proofs.lemmas.Grind.{common_steps}
use Rattle.std.proofs.lemmas.List.{length-set, set-get_or}
use Rattle.std.proofs.lemmas.List.Elements.{All-set, All-contains}
use Rattle.data_link.specs.topology.At.{at}
use Rattle.data_link.specs.topology.declared.frame.Ranges.{Ranges}
use Rattle.data_link.specs.topology.declared.frame.Frame.{Frame}
use Rattle.data_link.specs.topology.declared.frame.Payload.{Payload}
use Rattle.data_link.specs.Port.{PortState, PortView, port_after, port_fits}
use Rattle.registers.specs.Registers.{RegistersView, IsPortOf, IsRegisters, port_of, value_of}

-- the registers with another port at place w, and with another value there
abbrev pub with_port : RegistersView → ℕ → PortView → RegistersView
with_port r w p = record r { ports = slice_set r.ports w p }

abbrev pub with_value : RegistersView → ℕ → ℕ → RegistersView
with_value r w x = record r { values = slice_set r.values w x }

port_of-one : (r : RegistersView) (w : ℕ) (p : PortView) (i : ℕ) → w < length r.ports → port_of (with_port r w p) i ≡ at (port_of r) w p.state i
port_of-one r w p i within = grind (arith, common_steps)

pub port_of-with_port : (r : RegistersView) (w : ℕ) (p : PortView) → w < length r.ports → port_of (with_port r w p) ≡ at (port_of r) w p.state
port_of-with_port r w p within = fun_ext (λ i. port_of-one r w p i within)

value_of-one : (r : RegistersView) (w x i : ℕ) → w < length r.values → value_of (with_value r w x) i ≡ at (value_of r) w x i
value_of-one r w x i within = grind (arith, common_steps)

pub value_of-with_value : (r : RegistersView) (w x : ℕ) → w < length r.values → value_of (with_value r w x) ≡ at (value_of r) w x
value_of-with_value r w x within = fun_ext (λ i. value_of-one r w x i within)

other_port : (r : RegistersView) (w : ℕ) (p : PortView) (v : ℕ) → v ≢ w → port_of (with_port r w p) v ≡ port_of r v
other_port r w p v ne = grind (arith, common_steps)

other_value : (r : RegistersView) (w x v : ℕ) → v ≢ w → value_of (with_value r w x) v ≡ value_of r v
other_value r w x v ne = grind (arith, common_steps)

-- a neighbour is a node
pub neighbour_is_node : (r : RegistersView) (w : ℕ) → IsRegisters r → Contains r.neighbours w → w < r.ranges.nodes
neighbour_is_node r w ok near = All-contains (λ v. v < r.ranges.nodes) r.neighbours w ok.neighbours_in near

-- so it has a place among as many ports, or values, as there are nodes
pub port_place : (r : RegistersView) (w n : ℕ) → IsRegisters r → Contains r.neighbours w → n ≡ length r.ports → w < n
port_place r w n ok near long = omega (arith, neighbour_is_node r w ok near, ok.ports)

pub value_place : (r : RegistersView) (w n : ℕ) → IsRegisters r → Contains r.neighbours w → n ≡ length r.values → w < n
value_place r w n ok near long = omega (arith, neighbour_is_node r w ok near, ok.values)

-- another node than w, if w is in the list and it is not
other_than : (ns : List ℕ) (w v : ℕ) → Contains ns w → ¬ Contains ns v → v ≢ w
other_than ns w v near far e = far (rw e near)

-- a port in range at a neighbour's place leaves registers
pub registers-with_port : (r : RegistersView) (w : ℕ) (p : PortView) → IsRegisters r → Contains r.neighbours w → IsPortOf r.ranges p → IsRegisters (with_port r w p)
registers-with_port r w p ok near fits = record {
  most = ok.most;
  some_values = ok.some_values;
  ports = rw (length-set r.ports w p) ok.ports;
  values = ok.values;
  ports_fit = All-set (IsPortOf r.ranges) r.ports w p fits ok.ports_fit;
  values_fit = ok.values_fit;
  neighbours_in = ok.neighbours_in;
  ascending = ok.ascending;
  other_ports = λ v far. other_port r w p v (other_than r.neighbours w v near far) ∙ ok.other_ports v far;
  other_values = ok.other_values;
}

-- and so does a value in range
pub registers-with_value : (r : RegistersView) (w x : ℕ) → IsRegisters r → Contains r.neighbours w → x < r.ranges.ring → IsRegisters (with_value r w x)
registers-with_value r w x ok near fits = record {
  most = ok.most;
  some_values = ok.some_values;
  ports = ok.ports;
  values = rw (length-set r.values w x) ok.values;
  ports_fit = ok.ports_fit;
  values_fit = All-set (λ y. y < r.ranges.ring) r.values w x fits ok.values_fit;
  neighbours_in = ok.neighbours_in;
  ascending = ok.ascending;
  other_ports = ok.other_ports;
  other_values = λ v far. other_value r w x v (other_than r.neighbours w v near far) ∙ ok.other_values v far;
}

-- what stands at a neighbour's place is its port, with these ranges
pub port_read : (r : RegistersView) (w : ℕ) (was : PortView) → IsRegisters r → Contains r.neighbours w → was ≡ slice_index_or r.ports w was
    → was ≡ record { ranges = r.ranges; state = port_of r w }
port_read r w was ok near read = grind (arith, common_steps, neighbour_is_node, ok.ports_fit w was)

-- it is changed, and no other
pub port_changed : (r : RegistersView) (w : ℕ) (was new : PortView) (change : PortView → PortState) → IsRegisters r → Contains r.neighbours w
    → was ≡ slice_index_or r.ports w was → new ≡ record was { state = change was }
    → port_of (with_port r w new) ≡ at (port_of r) w (change (record { ranges = r.ranges; state = port_of r w }))
port_changed r w was new change ok near read is =
    let within : w < length r.ports = omega (arith, neighbour_is_node r w ok near, ok.ports) in
    let same : new.state ≡ change (record { ranges = r.ranges; state = port_of r w }) = ap (λ p. p.state) is ∙ ap change (port_read r w was ok near read) in
    rw (← same) (port_of-with_port r w new within)

-- the same of a writer that may refuse
pub port_changed_on_ok : {X E : Type 0} (r : RegistersView) (w : ℕ) (was new : PortView) (change : PortView → PortState) (result : Result X E) → IsRegisters r
    → Contains r.neighbours w → was ≡ slice_index_or r.ports w was → OnOk result (new ≡ record was { state = change was })
    → OnOk result (port_of (with_port r w new) ≡ at (port_of r) w (change (record { ranges = r.ranges; state = port_of r w })))
port_changed_on_ok r w was new change (Ok x) ok near read is = port_changed r w was new change ok near read is
port_changed_on_ok r w was new change (Err e) ok near read is = tt

-- and it leaves registers, if it writes only what fits
port_kept : {X E : Type 0} (r : Ranges) (was new : PortView) (change : PortView → PortState) (fits : Bool) (result : Result X E) → IsPortOf r was
    → (IsOk result ↔ IsTrue fits) → OnOk result (new ≡ record was { state = change was }) → OnErr result (new ≡ was)
    → (IsTrue fits → IsTrue (port_fits r (change was))) → IsPortOf r new
port_kept r was new change fits (Ok x) ok variant is same good =
    let fit : IsTrue (port_fits r (change was)) = good (variant.0 refl) in
    rw is (record { same = ok.same; fits = fit })
port_kept r was new change fits (Err e) ok variant is same good = rw same ok

pub registers-written : {X E : Type 0} (r : RegistersView) (w : ℕ) (was new : PortView) (change : PortView → PortState) (fits : Ranges → Bool) (result : Result X E) → IsRegisters r
    → Contains r.neighbours w → was ≡ slice_index_or r.ports w was
    → (IsOk result ↔ IsTrue (fits was.ranges)) → OnOk result (new ≡ record was { state = change was }) → OnErr result (new ≡ was)
    → (IsPortOf r.ranges was → IsTrue (fits r.ranges) → IsTrue (port_fits r.ranges (change was)))
    → IsRegisters (with_port r w new)
registers-written r w was new change fits result ok near read variant is same good =
    let within : w < length r.ports = omega (arith, neighbour_is_node r w ok near, ok.ports) in
    let had : IsPortOf r.ranges was = subst (IsPortOf r.ranges) (sym read) (ok.ports_fit w was within) in
    let variant_here = subst (λ ranges. IsOk result ↔ IsTrue (fits ranges)) had.same variant in
    registers-with_port r w new ok near (port_kept r.ranges was new change (fits r.ranges) result had variant_here is same (good had))

-- a port's ranges are those of all
port_here : (r : RegistersView) (w : ℕ) (was : PortView) → IsRegisters r → Contains r.neighbours w → was ≡ slice_index_or r.ports w was → was.ranges ≡ r.ranges
port_here r w was ok near read = ap (λ p. p.ranges) (port_read r w was ok near read)

-- and it fits them
pub port_had : (r : RegistersView) (w : ℕ) (was : PortView) → IsRegisters r → Contains r.neighbours w → was ≡ slice_index_or r.ports w was → IsPortOf r.ranges was
port_had r w was ok near read = subst (IsPortOf r.ranges) (sym read) (ok.ports_fit w was (port_place r w (length r.ports) ok near refl))

pub fits_here : (r : RegistersView) (w : ℕ) (was : PortView) (fits : Ranges → Bool) → IsRegisters r → Contains r.neighbours w → was ≡ slice_index_or r.ports w was
    → IsTrue (fits r.ranges) → IsTrue (fits was.ranges)
fits_here r w was fits ok near read fit = subst (λ ranges. IsTrue (fits ranges)) (sym (port_here r w was ok near read)) fit

-- what it makes of a frame fits too
pub port_heard : (r : RegistersView) (w : ℕ) (was new : PortView) (frame : Frame) (present : Payload) → IsRegisters r → Contains r.neighbours w → was ≡ slice_index_or r.ports w was
    → new ≡ record was { state = port_after was.ranges.counter was.state frame present }
    → (IsTrue (port_fits r.ranges was.state) → IsTrue (port_fits r.ranges (port_after r.ranges.counter was.state frame present))) → IsPortOf r.ranges new
port_heard r w was new frame present ok near read is law =
    let had = port_had r w was ok near read in
    let fit : IsTrue (port_fits r.ranges (port_after was.ranges.counter was.state frame present)) = rw had.same (law had.fits) in
    rw is (record { same = had.same; fits = fit })

-- so it refuses what does not fit them
pub refused_here : (r : RegistersView) (w : ℕ) (was : PortView) (Q : Type 0) (fits : Ranges → Bool) → IsRegisters r → Contains r.neighbours w → was ≡ slice_index_or r.ports w was
    → (Q ↔ IsTrue (fits was.ranges)) → Q ↔ IsTrue (fits r.ranges)
refused_here r w was Q fits ok near read variant = subst (λ ranges. Q ↔ IsTrue (fits ranges)) (port_here r w was ok near read) variant

-- and then nothing has changed
pub unchanged_on_err : {X E : Type 0} (r : RegistersView) (w : ℕ) (was new : PortView) (result : Result X E) → was ≡ slice_index_or r.ports w was → OnErr result (new ≡ was) → OnErr result (with_port r w new ≡ r)
unchanged_on_err r w was new (Ok x) read same = tt
unchanged_on_err r w was new (Err e) read same = ap (λ ports. record r { ports = ports }) (ap (slice_set r.ports w) (same ∙ read) ∙ set-get_or r.ports w was)

-- the same of values
pub value_written : (r : RegistersView) (w x : ℕ) → IsRegisters r → Contains r.neighbours w → value_of (with_value r w x) ≡ at (value_of r) w x
value_written r w x ok near = value_of-with_value r w x (omega (arith, neighbour_is_node r w ok near, ok.values))
