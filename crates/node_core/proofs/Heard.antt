-- What a node takes from a neighbour.
use Rattle.std.proofs.Common.{◌≡◌, ◌≢◌, ◌∙◌, ℕ, true, false, refl, sym, ap, arith}
use Rattle.std.proofs.lemmas.Bool.Decides.{nat_tests}
use Rattle.registers.specs.topology.At.{at}
use Rattle.registers.specs.topology.Ranges.{frame_fits}
use Rattle.registers.specs.topology.declared.frame.Frame.{Frame}
use Rattle.registers.specs.topology.declared.frame.Payload.{Payload}
use Rattle.registers.specs.Registers.{RegistersView, port_of, value_of}
use Rattle.registers.specs.data_link.Port.{PortState, port_acked, port_heard, port_after}
use Rattle.data_link.specs.link_model.declared.item.Item.TheVariants as item
use Rattle.node_core.specs.Machines.{payload_for}
use Rattle.node_core.specs.Step.{heard, taken}
use Rattle.node_core.specs.View.{NodeView, site_in, state_of}
use Rattle.node_core.proofs.Chosen.{then_is, else_is}
use Rattle.node_core.proofs.Same.{same_state}

-- a frame out of range changes nothing
pub taken_unfit : (v : NodeView) (w : ℕ) (f : Frame) → false ≡ frame_fits v.registers.ranges f → state_of v ≡ taken (site_in v) w (item.Frame f) (state_of v)
taken_unfit v w f unfit = else_is (frame_fits v.registers.ranges f) (heard (site_in v) w f (state_of v)) (state_of v) (state_of v) unfit refl

-- a frame in range is heard at its port, with what the node said before it
pub taken_heard : (v : NodeView) (r : RegistersView) (w : ℕ) (f : Frame) (present : Payload) → true ≡ frame_fits v.registers.ranges f
    → port_of r ≡ at (port_of v.registers) w (port_after v.registers.ranges.counter (port_of v.registers w) f present) → r ≡ record v.registers { ports = r.ports }
    → port_after v.registers.ranges.counter (port_of v.registers w) f present
    ≡ port_after v.registers.ranges.counter (port_of v.registers w) f (payload_for (site_in v) (state_of v) w)
    → state_of (record v { registers = r }) ≡ taken (site_in v) w (item.Frame f) (state_of v)
taken_heard v r w f present fits wrote rest same =
    then_is (frame_fits v.registers.ranges f) (heard (site_in v) w f (state_of v)) (state_of v) (state_of (record v { registers = r })) fits
    (same_state _ _ refl refl (wrote ∙ ap (at (port_of v.registers) w) same) (ap value_of rest) refl)

-- what the node says does not matter if the frame acknowledges a different number
not_acked : (modulus : ℕ) (p : PortState) (f : Frame) (present : Payload) → f.ack ≢ p.seq → port_acked modulus p f present ≡ p
not_acked modulus p f present other = grind (arith, nat_tests)

pub same_if_not_acked : (modulus : ℕ) (p : PortState) (f : Frame) (x y : Payload) → f.ack ≢ p.seq → port_after modulus p f x ≡ port_after modulus p f y
same_if_not_acked modulus p f x y other = ap (λ q. port_heard q f) (not_acked modulus p f x other ∙ sym (not_acked modulus p f y other))
