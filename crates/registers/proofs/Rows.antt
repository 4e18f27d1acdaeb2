-- The registers of node 0 of two.
use Rattle.std.proofs.Common.{◌≡◌, ℕ, ◌<◌, [], ◌∷◌, true, false, refl, arith}
use Rattle.data_link.specs.topology.declared.frame.Ranges.{Ranges}
use Rattle.data_link.specs.Port.{PortState, PortView, default_port}
use Rattle.registers.specs.Registers.{RegistersView, IsRegisters, port_of, value_of}
use Rattle.registers.specs.Rewire.{is_among, rewired_ports, rewired_values, stays}

abbrev ranges : Ranges
ranges = record { nodes = 2; counter = 5; ring = 7 }

abbrev unused : PortView
unused = record { ranges = ranges; state = default_port ranges }

abbrev with_value : ℕ → RegistersView
with_value x = record { ranges = ranges; neighbours = 1 ∷ []; ports = unused ∷ unused ∷ []; values = 0 ∷ x ∷ [] }

-- of the neighbours 1 and 4 the one stays, and the other goes
among : is_among (1 ∷ 4 ∷ []) 4 ≡ true
among = refl

not_among : is_among (1 ∷ 4 ∷ []) 2 ≡ false
not_among = refl

one_stays : stays (1 ∷ 4 ∷ []) (4 ∷ 5 ∷ []) 4 ≡ true
one_stays = refl

others_do_not : (stays (1 ∷ 4 ∷ []) (4 ∷ 5 ∷ []) 1 ≡ false) × (stays (1 ∷ 4 ∷ []) (4 ∷ 5 ∷ []) 5 ≡ false)
others_do_not = (refl, refl)

value_from_the_neighbour : value_of (with_value 3) 1 ≡ 3
value_from_the_neighbour = refl

no_value_past_the_last : value_of (with_value 3) 2 ≡ 0
no_value_past_the_last = refl

no_port_past_the_last : port_of (with_value 3) 2 ≡ default_port ranges
no_port_past_the_last = refl

-- no registers: a value that is not below the modulus
not_below : IsRegisters (with_value 7) → ⊥
not_below h = let below : 7 < 7 = h.values_fit 1 0 (omega arith) in omega (arith, below)

-- nor with a value of a machine that comes in from no neighbour
not_from_itself : IsRegisters (record (with_value 3) { values = 4 ∷ 3 ∷ [] }) → ⊥
not_from_itself h =
    let none : 4 ≡ 0 = h.other_values 0 (λ near. grind arith) in
    omega (arith, none)

-- neighbours 1 and 2 before, 2 and 3 after: what 2 has stays, and 1 and 3 are as at the start
stays_with_2 : rewired_values (1 ∷ 2 ∷ []) (2 ∷ 3 ∷ []) (λ w. 5) 2 ≡ 5
stays_with_2 = refl

gone_with_1 : rewired_values (1 ∷ 2 ∷ []) (2 ∷ 3 ∷ []) (λ w. 5) 1 ≡ 0
gone_with_1 = refl

new_with_3 : rewired_values (1 ∷ 2 ∷ []) (2 ∷ 3 ∷ []) (λ w. 5) 3 ≡ 0
new_with_3 = refl

kept_port : (port : ℕ → PortState) → rewired_ports ranges (1 ∷ 2 ∷ []) (2 ∷ 3 ∷ []) port 2 ≡ port 2
kept_port port = refl

dropped_port : (port : ℕ → PortState) → rewired_ports ranges (1 ∷ 2 ∷ []) (2 ∷ 3 ∷ []) port 1 ≡ default_port ranges
dropped_port port = refl
