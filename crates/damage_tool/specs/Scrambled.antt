-- What a scramble makes of a node.
use Rattle.std.specs.Prelude.{ℕ, ◌+◌, List, [], ◌∷◌}
use Rattle.rand_pcg.specs.Lcg.{Lcg}
use Rattle.topology.specs.At.{at}
use Rattle.topology.specs.declared.frame.Ranges.{Ranges}
use Rattle.run_model.specs.node_core.State.{LocalState}
use Rattle.damage_tool.specs.declared.draws.PortDraw.{PortDraw}
use Rattle.damage_tool.specs.Draws.{draw, draw_parent, draw_port}

-- the state with one port, and the value of the machine that comes in there, as drawn
abbrev pub port_written : ℕ → PortDraw → LocalState → LocalState
port_written w d s =
    record s {
      port = at s.port w (record { seq = d.seq; last = d.last; staged = d.staged; copy = d.copy });
      value = at s.value w d.value;
    }

-- the state with the ports to these neighbours drawn, one after the other
abbrev pub ports_scrambled : Ranges → List ℕ → LocalState → Lcg → LocalState × Lcg
ports_scrambled r [] s g = (s, g)
ports_scrambled r (w ∷ ws) s g = let port = draw_port r g in ports_scrambled r ws (port_written w port.0 s) port.1

-- the state with distance, parent and then each port drawn, by ascending neighbour; the desk stays
abbrev pub node_scrambled : Ranges → List ℕ → LocalState → Lcg → LocalState × Lcg
node_scrambled r neighbours s g =
    let distance = draw (r.nodes + 1) g in
    let parent = draw_parent r distance.1 in
    ports_scrambled r neighbours (record s { distance = distance.0; parent = parent.0 }) parent.1
